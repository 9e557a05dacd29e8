use Rattle.std.proofs.Common.{◌≡◌}
use Rattle.rows.specs.Support.{rows_within}
use Rattle.rows.proofs.search.allowed_rows.Given as goal

abbrev pub invariant-loop-mask : goal.invariant-loop-mask
invariant-loop-mask l = l.rows ≡ rows_within l.masks.each.now l.mask-index
