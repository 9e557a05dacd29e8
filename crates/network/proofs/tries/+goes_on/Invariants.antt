use Rattle.std.proofs.Common.{ℕ, ◌-◌, ◌<◌, false, List, length, get_or}
use Rattle.std.specs.Fn.{FnReturnsAt}
use Rattle.network.specs.Tries.{GoesOn}
use Rattle.network.proofs.tries.+goes_on.Given as goal

abbrev pub decreases-goes_on : goal.decreases-goes_on
decreases-goes_on g l = length l.masks.each.now - l.at

-- no row that has a place below here passes
abbrev pub invariant-loop-place : goal.invariant-loop-place
invariant-loop-place g l = (row : List ℕ) → GoesOn l.masks.each.now l.places l.at row → get_or row l.at 0 < l.place → FnReturnsAt g.F.Fn l.passes row false
