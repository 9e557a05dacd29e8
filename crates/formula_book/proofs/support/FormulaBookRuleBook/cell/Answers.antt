use Rattle.formula_book.proofs.Cells.{cell_here, cell_past}
use Rattle.formula_book.proofs.support.FormulaBookRuleBook.cell.Goals as goal

pub returns-in-Some : goal.returns-in-Some
returns-in-Some c = cell_here c.args.self.now.formulas.now c.args.rule c.in-Some.formula.now c.in-Some.ensures.0 c.args.position c.if-position-formula.true

pub returns-in_default : goal.returns-in_default
returns-in_default c = cell_past c.args.self.now.formulas.now c.args.rule c.in-Some.formula.now c.in-Some.ensures.0 c.args.position c.if-position-formula.false
