-- What the books of a sheet borrow from the stores, and what they mean. Assumes nothing.
use Rattle.std.specs.Prelude.{◌≡◌, [], take}
use Rattle.network.specs.Book.{BookMeaning, joined}
use Rattle.network.specs.declared.joined.Joined.{Joined}
use Rattle.rows.specs.declared.book.RowsBook.{RowsBook}
use Rattle.rows.specs.Rows.{rows_book, WellFormed as GoodRules}
use Rattle.formula_book.specs.declared.book.FormulaBook.{FormulaBook}
use Rattle.formula_book.specs.Formulas.{formula_book, WellFormed as GoodFormulas}
use Rattle.formula_book.specs.Support.{lists_of}
use Rattle.sheets.specs.declared.stores.Extent.{Extent}
use Rattle.sheets.specs.Sheet.{Sheet, Good}
use Rattle.sheets.specs.Stored.{Contents, stored, extent_of}

-- the stores hold a good sheet, which takes so much of them
pub record Holds (c : Contents) (e : Extent) (s : Sheet) : Type 0 where
  pub good : Good s
  pub before : Contents
  pub held : c ≡ stored before s
  pub takes : e ≡ extent_of s

-- what a rows book and a formula book borrow
abbrev pub lent : Joined RowsBook FormulaBook → Contents
lent b = record {
  lengths = b.second.lengths.now;
  numbers = b.second.numbers.now;
  rules = b.first.rules.now;
  places = b.first.bytes.now;
  formulas = b.second.formulas.now;
  nodes = b.second.nodes.now;
}

-- what such books mean together: the rules by rows, then those by formulas
abbrev pub book_of : Contents → BookMeaning
book_of c = joined (rows_book c.rules c.places) (formula_book (lists_of c.lengths c.numbers) c.nodes c.formulas)

-- of the stores, the books borrow the rules, formulas and lengths that the extent counts, and the rest whole; rules or formulas that are not well formed are left out
pub record Lends (c : Contents) (e : Extent) (b : Contents) : Type 0 where
  pub rules : GoodRules (take e.rules c.rules) c.places → b.rules ≡ take e.rules c.rules
  pub no_rules : (GoodRules (take e.rules c.rules) c.places → ⊥) → b.rules ≡ []
  pub places : b.places ≡ c.places
  pub formulas : GoodFormulas c.nodes (take e.formulas c.formulas) → b.formulas ≡ take e.formulas c.formulas
  pub no_formulas : (GoodFormulas c.nodes (take e.formulas c.formulas) → ⊥) → b.formulas ≡ []
  pub nodes : b.nodes ≡ c.nodes
  pub lengths : b.lengths ≡ take e.cells c.lengths
  pub numbers : b.numbers ≡ c.numbers
