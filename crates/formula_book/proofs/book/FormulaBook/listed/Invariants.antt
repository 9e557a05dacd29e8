use Rattle.formula_book.proofs.Cut.{CutTo}
use Rattle.formula_book.proofs.book.FormulaBook.listed.Given as goal

abbrev pub invariant-loop-at : goal.invariant-loop-at
invariant-loop-at l = CutTo l.self.lengths.now l.cells l.fn.allowed l.at l.mask-items
