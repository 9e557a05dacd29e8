use Rattle.std.proofs.Common.{◌≡◌, false, get_or}
use Rattle.calls.specs.History.{set_where}
use Rattle.session.proofs.start.rules_on.Given as goal

abbrev pub invariant-loop-rule : goal.invariant-loop-rule
invariant-loop-rule l = l.rules ≡ set_where (λ r. get_or l.switches r false) l.rule
