use Rattle.std.proofs.Common.{rules, arith}
use Rattle.script.proofs.Reading.{turn_all, turn_none}
use Rattle.script.proofs.line.turn.Goals as goal

pub returns-in_err-rule : goal.returns-in_err-rule
returns-in_err-rule c = turn_none (λ w. w.now) c.args.rest.now c.loop-word.word-index _ c.from_residual.result (omega arith) c.in_err-rule.ensures (search rules)

pub returns : goal.returns
returns c = turn_all (λ w. w.now) c.args.rest.now c.loop-word.word-index c.loop-word.flags c.loop-word-test.false c.loop-word.invariant.numbers c.loop-word.invariant.flags
