use Rattle.rows.proofs.Cells.{cell_here, cell_past}
use Rattle.rows.proofs.support.RowsBookRuleBook.cell.Goals as goal

pub returns-in-Some : goal.returns-in-Some
returns-in-Some c = cell_here c.args.self.now.bytes.now c.args.self.now.rules.now c.args.rule c.in-Some.rule.now c.in-Some.ensures.0 c.args.position c.if-position-rule.true

pub returns-in_default : goal.returns-in_default
returns-in_default c = cell_past c.args.self.now.bytes.now c.args.self.now.rules.now c.args.rule c.in-Some.rule.now c.in-Some.ensures.0 c.args.position c.if-position-rule.false
