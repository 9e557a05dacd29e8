use Rattle.std.proofs.Common.{rules}
use Rattle.formula_book.proofs.Cells.{width_here, width_past}
use Rattle.formula_book.proofs.support.FormulaBookRuleBook.width.Goals as goal

pub returns : goal.returns
returns c =
    let here = width_here c.args.self.now.formulas.now c.args.rule in
    let past = width_past c.args.self.now.formulas.now c.args.rule in
    search (rules, here, past)
