use Rattle.std.proofs.Common.{◌≡◌, ◌++◌, take, vec_items}
use Rattle.listing.specs.Listing.{numbered, cell_line, list_in}
use Rattle.listing.proofs.lines.push_cells.Given as goal

abbrev pub invariant-loop-cell : goal.invariant-loop-cell
invariant-loop-cell l = vec_items l.out ≡ vec_items l.initial.out ++ numbered (λ c n. cell_line c (list_in l.numbers c n)) 0 (take l.cell l.lengths)
