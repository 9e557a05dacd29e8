use Rattle.std.proofs.Common.{◌≡◌, ◌≤◌, length, take}
use Rattle.bits.specs.Sets.{below, set_of}
use Rattle.clash.proofs.masks.first.Given as goal

abbrev pub invariant-loop-rule : goal.invariant-loop-rule
invariant-loop-rule l = (l.seen ≡ length (below l.rule l.set)) × (l.seen ≤ l.rule) × (l.chosen ≡ set_of (take l.many (below l.rule l.set)))
