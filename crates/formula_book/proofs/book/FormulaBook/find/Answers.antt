use Rattle.std.proofs.Common.{rules}
use Rattle.formula_book.proofs.Cells.{there_fit}
use Rattle.formula_book.proofs.book.FormulaBook.find.Goals as goal

pub returns : goal.returns
returns c = let fit = there_fit c.args.self.now.ok in search (rules, fit)
