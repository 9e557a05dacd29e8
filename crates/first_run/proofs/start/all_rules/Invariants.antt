use Rattle.std.proofs.Common.{◌≡◌, true}
use Rattle.calls.specs.History.{set_where}
use Rattle.first_run.proofs.start.all_rules.Given as goal

abbrev pub invariant-loop-rule : goal.invariant-loop-rule
invariant-loop-rule l = l.rules ≡ set_where (λ r. true) l.rule
