use Rattle.std.proofs.Common.{◌≡◌, ◌<◌, ◌↔◌, rules, get_or, subst}
use Rattle.bits.specs.Sets.{In}
use Rattle.bits.proofs.Whole.{in_first}
use Rattle.formula_book.proofs.book.FormulaBook.list.Goals as goal

pub returns : goal.returns
returns c v small =
    let long : c.unwrap_or.result ≡ get_or c.args.self.now.lengths.now c.args.cell 0 = search rules in
    subst (λ n. In c.first.result v ↔ v < n) long (in_first c.unwrap_or.result c.first.result v c.first.ensures.some c.first.ensures.all small)
