use Rattle.std.proofs.Common.{rules}
use Rattle.rows.proofs.Cells.{width_here, width_past}
use Rattle.rows.proofs.support.RowsBookRuleBook.width.Goals as goal

pub returns : goal.returns
returns c = let here = width_here c.args.self.now.bytes.now in let past = width_past c.args.self.now.bytes.now in search (rules, here, past)
