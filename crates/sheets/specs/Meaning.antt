-- What a sheet means as a rule book. Assumes nothing.
use Rattle.std.specs.Prelude.{◌≡◌, ℕ, ◌+◌, ◌-◌, ◌<◌, Bool, true, false, cond, not, ◌&&◌, List, [], ◌∷◌, length, replicate, ℤ, pos, ◌==◌, nat_lt, slice_index_or, slice_set}
use Rattle.std.specs.List.{list_any}
use Rattle.std.specs.Str.{bytes_eq}
use Rattle.network.specs.Book.{Rule, BookMeaning}
use Rattle.rows.specs.declared.rule.Kind.{Kind}
use Rattle.rows.specs.declared.rule.Kind.TheVariants.{Permitted, Forbidden}
use Rattle.formulas.specs.declared.node.Side.TheVariants.{Number}
use Rattle.formulas.specs.declared.node.Relation.TheVariants.{Equal}
use Rattle.formulas.specs.Tree.{Condition, compares, cells_of}
use Rattle.formulas.specs.Truth.{truth}
use Rattle.sheets.specs.Sheet.{Sheet, RowsField}

-- the row is one of some rows
abbrev pub one_of : List ℕ → List (List ℕ) → Bool
one_of row rows = list_any (λ r. bytes_eq r row) rows

-- whether a row is permitted by a rule with these stored rows: permitted rows are those stored; forbidden rows leave every other row of that width
abbrev pub permits_row : Kind → ℕ → List (List ℕ) → List ℕ → Bool
permits_row Permitted width rows row = one_of row rows
permits_row Forbidden width rows row = length row == width && not (one_of row rows)

-- what a rule by its rows means
abbrev pub rows_rule : RowsField → Rule
rows_rule x = record { cells = x.cells; permits = permits_row x.kind (length x.cells) x.rows }

-- the number at place v of the list of cell c
abbrev pub number_at : List (List ℤ) → ℕ → ℕ → ℤ
number_at lists c v = slice_index_or (slice_index_or lists c []) v (pos 0)

-- the row has one place for each cell, and each is of its cell's list
abbrev pub listed : List (List ℤ) → List ℕ → List ℕ → Bool
listed lists [] [] = true
listed lists [] (v ∷ vs) = false
listed lists (c ∷ cs) [] = false
listed lists (c ∷ cs) (v ∷ vs) = nat_lt v (length (slice_index_or lists c [])) && listed lists cs vs

-- the number of each cell: those of a row at the cells of a rule, and as they were at the others
abbrev pub numbers_at : List (List ℤ) → List ℤ → List ℕ → List ℕ → List ℤ
numbers_at lists f [] row = f
numbers_at lists f (c ∷ cs) [] = f
numbers_at lists f (c ∷ cs) (v ∷ vs) = numbers_at lists (slice_set f c (number_at lists c v)) cs vs

-- a formula permits the rows of listed places at whose numbers it is true
abbrev pub formula_rule : List (List ℤ) → Condition → Rule
formula_rule lists c = record {
  cells = cells_of c;
  permits = λ row. listed lists (cells_of c) row && truth (numbers_at lists (replicate 64 (pos 0)) (cells_of c) row) c;
}

-- what stands for a missing rule by rows
abbrev pub no_rows : RowsField
no_rows = record { kind = Permitted; cells = []; rows = [] }

-- what stands for a missing formula
abbrev pub no_condition : Condition
no_condition = compares (Number (pos 0)) Equal (Number (pos 0))

-- rule r of a sheet: the rules by rows come first, then those by formulas
abbrev pub rule_at : Sheet → ℕ → Rule
rule_at s r = cond (nat_lt r (length s.rows)) (rows_rule (slice_index_or s.rows r no_rows)) (formula_rule s.lists (slice_index_or s.formulas (r - length s.rows) no_condition))

-- a book has the sheet's rules and no others: each has the same cells and permits the same rows
pub record Means (s : Sheet) (m : BookMeaning) : Type 0 where
  pub count : m.count ≡ length s.rows + length s.formulas
  pub cells : (r : ℕ) → r < m.count → (m.rule r).cells ≡ (rule_at s r).cells
  pub permits : (r : ℕ) (row : List ℕ) → r < m.count → (m.rule r).permits row ≡ (rule_at s r).permits row
