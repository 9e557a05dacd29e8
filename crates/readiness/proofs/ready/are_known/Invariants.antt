use Rattle.std.proofs.Common.{ℕ, ◌<◌}
use Rattle.bits.specs.Sets.{In}
use Rattle.readiness.proofs.ready.are_known.Given as goal

abbrev pub invariant-loop-rule : goal.invariant-loop-rule
invariant-loop-rule l = (r : ℕ) → r < l.rule → In l.rules r → r < l.count
