use Rattle.std.proofs.Common.{arith}
use Rattle.replaying.proofs.Telling.{stay_more, stay_all, turn_found}
use Rattle.replaying.proofs.replay.next_turn.Goals as goal

pub loop-place-init : goal.loop-place-init
loop-place-init c = tt

pub loop-place-preserved : goal.loop-place-preserved
loop-place-preserved c = stay_more c.args.lines.now c.loop-place.place _ (omega arith) c.loop-place.invariant c.in_default.not-Turn

pub returns-in-Turn : goal.returns-in-Turn
returns-in-Turn c = turn_found c.args.lines.now c.loop-place.place _ _ (omega arith) c.loop-place.invariant c.in-Turn.is

pub returns : goal.returns
returns c = stay_all c.args.lines.now c.loop-place.place (omega arith) c.loop-place.invariant
