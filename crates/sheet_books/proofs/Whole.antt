-- The books of a stored sheet mean the sheet. Assumes nothing.
use Rattle.std.proofs.Common.{◌≡◌, ℕ, ◌-◌, ◌<◌, ◌≤◌, ltb, List, [], map, length, get_or, take, replicate, ℤ, pos, sym, ap, ◌∙◌, subst, ⊎_elim, arith}
use lib.ListN.{length-map}
use Rattle.std.specs.List.{flat_map}
use Rattle.std.proofs.lemmas.Bool.{cases_lt, lt-ltb, le-ltb, cond-true, cond-false}
use Rattle.bits.proofs.Lists.{each_map}
use Rattle.network.specs.Book.{Rule, no_rule}
use Rattle.rows.specs.Rows.{no_rows, rule_of as rows_rule_of, WellFormed as GoodRules}
use Rattle.formulas.specs.declared.node.Node.{Node}
use Rattle.formulas.specs.declared.node.Node.TheVariants.{Free}
use Rattle.formula_book.specs.Formulas.{no_formula, rule_of as formula_rule_of, WellFormed as GoodFormulas}
use Rattle.formula_book.specs.Support.{lists_of}
use Rattle.sheets.specs.declared.stores.Extent.{Extent}
use Rattle.sheets.specs.Sheet.{Sheet, Good, GoodList}
use Rattle.sheets.specs.Stored.{Contents, stored, extent_of, places_of, rules_of, formulas_of, nodes_of, zero_rule, zero_formula}
use Rattle.sheets.specs.Meaning.{Means, rule_at, rows_rule, formula_rule, no_rows as no_field, no_condition}
use Rattle.sheets.proofs.Storing.{length_rules, length_formulas}
use Rattle.sheet_books.specs.Books.{Holds, Lends, book_of}
use Rattle.sheet_books.proofs.Parts.{filled_take}
use Rattle.sheet_books.proofs.StoredRows.{rows_well_formed, rows_cells, rows_permits}
use Rattle.sheet_books.proofs.StoredFormulas.{formulas_well_formed, formula_cells, formula_permits}
use Rattle.sheet_books.proofs.StoredNumbers.{Short, spread}

module _ (before : Contents) (s : Sheet) (g : Good s) where
  abbrev c : Contents
  c = stored before s

  -- the rest of the stores
  abbrev places_after : List ℕ
  places_after = replicate (length before.places - length (flat_map places_of s.rows)) 0

  abbrev nodes_after : List Node
  nodes_after = replicate (length before.nodes - length (nodes_of 0 s.formulas)) Free

  abbrev numbers_after : List ℤ
  numbers_after = replicate (length before.numbers - length (spread s.lists)) (pos 0)

  short : Short s.lists
  short = each_map GoodList (λ zs. length zs ≤ 64) s.lists (λ zs h. h.few) g.lists

  few_rows : length s.rows ≤ 64
  few_rows = omega (arith, g.few_rules)

  few_formulas : length s.formulas ≤ 64
  few_formulas = omega (arith, g.few_rules)

  -- what the books of the sheet borrow
  abbrev borrowed : Contents
  borrowed = record {
    lengths = map length s.lists;
    numbers = c.numbers;
    rules = rules_of 0 s.rows;
    places = c.places;
    formulas = formulas_of 0 s.formulas;
    nodes = c.nodes;
  }

  good_rules : GoodRules borrowed.rules c.places
  good_rules = rows_well_formed s.lists s.rows places_after g.few_cells g.rows few_rows

  good_formulas : GoodFormulas c.nodes borrowed.formulas
  good_formulas = formulas_well_formed s.lists short g.few_cells s.formulas g.formulas nodes_after [] few_formulas

  -- rule r of the book, and what it is in the sheet
  module _ (r : ℕ) (h : r < (book_of borrowed).count) where
    abbrev by_rows : Rule
    by_rows = rows_rule_of c.places (get_or borrowed.rules r no_rows)

    abbrev by_formula : ℕ → Rule
    by_formula k = formula_rule_of (lists_of borrowed.lengths c.numbers) c.nodes (get_or borrowed.formulas k no_formula)

    low : r < length s.rows → ((book_of borrowed).rule r ≡ by_rows) × (rule_at s r ≡ rows_rule (get_or s.rows r no_field))
    low l = (
      cond-true (ltb r (length borrowed.rules)) by_rows _ (lt-ltb r (length borrowed.rules) (omega (arith, length_rules 0 s.rows))),
      cond-true (ltb r (length s.rows)) _ _ (lt-ltb r (length s.rows) l),
    )

    high : length s.rows ≤ r → ((book_of borrowed).rule r ≡ by_formula (r - length s.rows)) × (rule_at s r ≡ formula_rule s.lists (get_or s.formulas (r - length s.rows) no_condition))
    high l =
        let n = length_rules 0 s.rows in (
          cond-false (ltb r (length borrowed.rules)) by_rows _ (le-ltb r (length borrowed.rules) (omega arith))
              ∙ cond-true (ltb r 65535) (by_formula (r - length borrowed.rules)) no_rule (lt-ltb r 65535 (omega arith))
              ∙ ap (λ k. by_formula (r - k)) n,
          cond-false (ltb r (length s.rows)) _ _ (le-ltb r (length s.rows) l),
        )

    past : length s.rows ≤ r → r - length s.rows < length s.formulas
    past l = omega (arith, length_rules 0 s.rows, length_formulas 0 s.formulas, g.few_rules)

    cells_same : ((book_of borrowed).rule r).cells ≡ (rule_at s r).cells
    cells_same = ⊎_elim
        (λ l. ap (λ x. x.cells) (low l).0 ∙ rows_cells s.lists s.rows places_after g.few_cells g.rows r l ∙ ap (λ x. x.cells) (sym (low l).1))
        (λ l. ap (λ x. x.cells) (high l).0 ∙ formula_cells s.lists short g.few_cells s.formulas g.formulas nodes_after numbers_after (r - length s.rows) (past l) ∙ ap (λ x. x.cells) (sym (high l).1))
        (cases_lt r (length s.rows))

    permits_same : (row : List ℕ) → ((book_of borrowed).rule r).permits row ≡ (rule_at s r).permits row
    permits_same row = ⊎_elim
        (λ l. ap (λ x. x.permits row) (low l).0 ∙ rows_permits s.lists s.rows places_after g.few_cells g.rows r l row ∙ ap (λ x. x.permits row) (sym (low l).1))
        (λ l. ap (λ x. x.permits row) (high l).0 ∙ formula_permits s.lists short g.few_cells s.formulas g.formulas nodes_after numbers_after (r - length s.rows) (past l) row ∙ ap (λ x. x.permits row) (sym (high l).1))
        (cases_lt r (length s.rows))

  means : Means s (book_of borrowed)
  means = record {
    count = omega (arith, length_rules 0 s.rows, length_formulas 0 s.formulas, g.few_rules);
    cells = cells_same;
    permits = λ r row h. permits_same r h row;
  }

  -- the parts that the extent counts
  rules_are : take (length s.rows) c.rules ≡ rules_of 0 s.rows
  rules_are = filled_take zero_rule (length before.rules) (rules_of 0 s.rows) (length s.rows) (length_rules 0 s.rows)

  formulas_are : take (length s.formulas) c.formulas ≡ formulas_of 0 s.formulas
  formulas_are = filled_take zero_formula (length before.formulas) (formulas_of 0 s.formulas) (length s.formulas) (length_formulas 0 s.formulas)

  lengths_are : take (length s.lists) c.lengths ≡ map length s.lists
  lengths_are = filled_take 0 (length before.lengths) (map length s.lists) (length s.lists) (length-map s.lists length)

  -- what is lent is that
  lent_means : (b : Contents) → Lends c (extent_of s) b → Means s (book_of b)
  lent_means b l =
      let e₁ = l.lengths ∙ lengths_are in
      let e₂ = l.numbers in
      let e₃ = l.rules (subst (λ x. GoodRules x c.places) (sym rules_are) good_rules) ∙ rules_are in
      let e₄ = l.places in
      let e₅ = l.formulas (subst (GoodFormulas c.nodes) (sym formulas_are) good_formulas) ∙ formulas_are in
      let e₆ = l.nodes in
      let is : b ≡ borrowed = λ i. record { lengths = e₁ i; numbers = e₂ i; rules = e₃ i; places = e₄ i; formulas = e₅ i; nodes = e₆ i } in
      subst (λ x. Means s (book_of x)) (sym is) means

pub lends_means : (held : Contents) (e : Extent) (b : Contents) → Lends held e b → (s : Sheet) → Holds held e s → Means s (book_of b)
lends_means held e b l s h = lent_means h.before s h.good b (subst (λ x. Lends (stored h.before s) x b) h.takes (subst (λ x. Lends x e b) h.held l))

pub lengths_mean : (held : Contents) (e : Extent) (s : Sheet) → Holds held e s → take e.cells held.lengths ≡ map length s.lists
lengths_mean held e s h =
    ap (λ (x : Extent). take x.cells held.lengths) h.takes ∙ ap (λ (x : Contents). take (length s.lists) x.lengths) h.held
    ∙ lengths_are h.before s h.good

pub rules_mean : (held : Contents) (e : Extent) (s : Sheet) → Holds held e s → take e.rules held.rules ≡ rules_of 0 s.rows
rules_mean held e s h =
    ap (λ (x : Extent). take x.rules held.rules) h.takes ∙ ap (λ (x : Contents). take (length s.rows) x.rules) h.held
    ∙ rules_are h.before s h.good
