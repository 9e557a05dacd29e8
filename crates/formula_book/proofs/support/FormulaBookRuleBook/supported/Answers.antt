use Rattle.std.proofs.Common.{◌≡◌, Decides, true, rules, subst, arith}
use Rattle.std.proofs.lemmas.Bool.{false≢true}
use Rattle.network.specs.Book.{Supported}
use Rattle.formula_book.specs.Formulas.{permits_of, rule_of}
use Rattle.formula_book.specs.Support.{lists_of}
use Rattle.formula_book.proofs.Cells.{width_here}
use Rattle.formula_book.proofs.Finding.{formula_supported}
use Rattle.formula_book.proofs.support.FormulaBookRuleBook.supported.Goals as goal

pub returns-then-position-formula : goal.returns-then-position-formula
returns-then-position-formula c = (
  (λ e. absurd (false≢true e)),
  (λ s. absurd (omega (arith, s.within, width_here c.args.self.now.formulas.now c.args.rule c.in-Some.formula.now c.in-Some.ensures.0, c.if-position-formula.true))),
)

pub returns : goal.returns
returns c =
    let b = c.args.self.now in
    let lists = lists_of b.lengths.now b.numbers.now in
    let f = c.in-Some.formula.now in
    subst (λ f. Decides c.some_row.result (Supported (rule_of lists b.nodes.now f) c.args.position c.args.place c.args.sets.now)) c.in-Some.ensures.0
    (formula_supported lists b.nodes.now f c.in-Some.ensures.1 c.args.position c.args.place c.if-position-formula.false c.args.sets.now c.allowed.result c.listed-masks.result (omega arith) c.allowed.ensures (omega arith) c.listed-masks.ensures
    c.some_row.result
    (λ e.
    let found = c.some_row.ensures.yes e in
    let permitted : permits_of lists b.nodes.now f found.0 ≡ true = (let at = found.2.shows in let says = found.2.says.met in search rules) in
    (found.0, found.1, permitted))
    (λ e row t.
    let says = c.some_row.ensures.no e row t in
    let at = says.shows in
    let met = says.says.met in
    search rules))
