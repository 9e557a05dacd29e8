use Rattle.std.proofs.Common.{refl, arith}
use Rattle.formula_book.proofs.Cut.{cut_more}
use Rattle.formula_book.proofs.book.FormulaBook.listed.Goals as goal

pub loop-at-init : goal.loop-at-init
loop-at-init c k h = ((λ l. absurd (omega arith)), λ _. refl)

pub loop-at-preserved : goal.loop-at-preserved
loop-at-preserved c = cut_more c.args.self.now.lengths.now c.args.cells c.args.allowed c.loop-at.at c.list.result c.loop-at.mask-items (omega arith) c.list.ensures c.loop-at.invariant

pub returns : goal.returns
returns c k h = (c.loop-at.invariant k h).0 (omega arith)
