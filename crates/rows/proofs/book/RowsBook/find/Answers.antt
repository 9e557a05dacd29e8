use Rattle.std.proofs.Common.{rules}
use Rattle.rows.proofs.Cells.{there_fit}
use Rattle.rows.proofs.book.RowsBook.find.Goals as goal

pub returns : goal.returns
returns c = let fit = there_fit c.args.self.now.ok in search (rules, fit)
