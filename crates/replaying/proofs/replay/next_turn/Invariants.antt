use Rattle.std.proofs.Common.{take}
use Rattle.replaying.specs.Replays.{AllStay}
use Rattle.replaying.proofs.replay.next_turn.Given as goal

abbrev pub invariant-loop-place : goal.invariant-loop-place
invariant-loop-place l = AllStay (take l.place l.lines)
