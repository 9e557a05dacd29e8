use Rattle.std.proofs.Common.{sym, ◌∙◌, subst}
use Rattle.rows.specs.Rows.{WellFormed as GoodRules}
use Rattle.formula_book.specs.Formulas.{WellFormed as GoodFormulas}
use Rattle.sheets.specs.Stored.{held}
use Rattle.sheet_books.specs.Books.{Lends, lent}
use Rattle.sheet_books.proofs.Whole.{lends_means}
use Rattle.sheet_books.proofs.books.Goals as goal

-- the books made, and what each part of them is
lends : (c : goal.After-new-3) → Lends (held c.args.stores.now) c.args.extent (lent c.new-3.result)
lends c =
    let rules = c.rules-rules.ensures.part in
    let formulas = c.first-formulas.ensures in
    subst (λ b. Lends (held c.args.stores.now) c.args.extent (lent b)) {x = record { first = c.new.result; second = c.new-2.result }} (sym c.new-3.ensures.made) (record {
      rules = λ h. c.new.ensures.taken (subst (λ x. GoodRules x c.args.stores.now.places.now) (sym rules) h) ∙ rules;
      no_rules = λ h. c.new.ensures.refused (λ w. h (subst (λ x. GoodRules x c.args.stores.now.places.now) rules w));
      places = c.new.ensures.bytes;
      formulas = λ h. c.new-2.ensures.taken (subst (GoodFormulas c.args.stores.now.nodes.now) (sym formulas) h) ∙ formulas;
      no_formulas = λ h. c.new-2.ensures.refused (λ w. h (subst (GoodFormulas c.args.stores.now.nodes.now) formulas w));
      nodes = c.new-2.ensures.nodes;
      lengths = c.new-2.ensures.lengths ∙ c.lengths-lengths.ensures.part;
      numbers = c.new-2.ensures.numbers;
    })

pub returns : goal.returns
returns c = record {
  lends = lends c;
  means = lends_means (held c.args.stores.now) c.args.extent (lent c.new-3.result) (lends c);
}
