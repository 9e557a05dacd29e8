use Rattle.std.proofs.Common.{◌≡◌, ◌≤◌, length}
use Rattle.bits.specs.Sets.{below}
use Rattle.clash.proofs.masks.nth.Given as goal

abbrev pub invariant-loop-rule : goal.invariant-loop-rule
invariant-loop-rule l = (l.seen ≡ length (below l.rule l.set)) × (l.seen ≤ l.place) × (l.seen ≤ l.rule)
