use Rattle.std.proofs.Common.{◌≡◌, ℕ, ◌<◌, length, get_or}
use Rattle.formula_book.specs.Formulas.{assigned, unset}
use Rattle.formula_book.specs.Support.{lists_of}
use Rattle.formula_book.proofs.book.FormulaBook.assigned.Given as goal

-- what the cells and places that are left do to the numbers so far
abbrev pub invariant-loop-cell : goal.invariant-loop-cell
invariant-loop-cell l =
    let lists = lists_of l.self.lengths.now l.self.numbers.now in
    let left = l.cell-iterator.a.rest.now in
    (assigned lists l.numbers left l.cell-iterator.b.rest.now ≡ assigned lists unset l.cells l.row)
    × ((k : ℕ) → k < length left → get_or left k 0 < 64)
