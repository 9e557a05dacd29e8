use Rattle.std.proofs.Common.{◌≡◌, vec_items}
use Rattle.bits.specs.Sets.{below}
use Rattle.first_run.proofs.telling.rules_in.Given as goal

abbrev pub invariant-loop-rule : goal.invariant-loop-rule
invariant-loop-rule l = vec_items l.rules ≡ below l.rule l.set
