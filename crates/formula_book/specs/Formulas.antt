-- What a formula book stores, which stores are well formed, and what they mean. Assumes nothing.
use Rattle.std.specs.Prelude.{◌≡◌, ℕ, suc, ◌+◌, ◌*◌, ◌<◌, ◌≤◌, Bool, true, false, ◌&&◌, List, [], ◌∷◌, map, length, replicate, ℤ, pos, nat_lt, slice_index, slice_index_or, slice_set}
use Rattle.std.specs.List.{range_with_len}
use Rattle.network.specs.Cells.{GoodCells}
use Rattle.network.specs.Book.{Rule, BookMeaning}
use Rattle.formulas.specs.declared.node.Node.{Node}
use Rattle.formulas.specs.Tree.{Condition}
use Rattle.formulas.specs.Truth.{truth}
use Rattle.reader.specs.declared.formula.Formula.{Formula}
use Rattle.judge.specs.Trees.{tree}
use Rattle.formula_book.specs.Trees.{grounded}

-- what stands for a missing formula: it has no cells, and node 0 as its root
abbrev pub no_formula : Formula
no_formula = record { root = 0; width = 0; cells = [] }

-- the lists of the cells: the length of each, and their numbers, 64 places a cell
pub record Lists : Type 0 where
  pub lengths : List ℕ
  pub numbers : List ℤ

-- the number at place v of cell c
abbrev pub number_at : Lists → ℕ → ℕ → ℤ
number_at l c v = slice_index_or l.numbers (64 * c + v) (pos 0)

-- the cells' numbers with those of a row at the cells of a rule
abbrev pub assigned : Lists → List ℤ → List ℕ → List ℕ → List ℤ
assigned l f [] row = f
assigned l f (c ∷ cs) [] = f
assigned l f (c ∷ cs) (v ∷ vs) = assigned l (slice_set f c (number_at l c v)) cs vs

-- the numbers before any is set: 0 for each of 64 cells
abbrev pub unset : List ℤ
unset = replicate 64 (pos 0)

-- the row has one place for each cell, and each is of its cell's list
abbrev pub listed : Lists → List ℕ → List ℕ → Bool
listed l [] [] = true
listed l [] (v ∷ vs) = false
listed l (c ∷ cs) [] = false
listed l (c ∷ cs) (v ∷ vs) = nat_lt v (slice_index l.lengths c) && listed l cs vs

-- the cells of a stored formula, in order
abbrev pub cells_of : Formula → List ℕ
cells_of f = map (λ k. slice_index f.cells k) (range_with_len 0 f.width)

-- a stored formula permits the rows of listed places at whose numbers it is true
abbrev pub permits_of : Lists → List Node → Formula → List ℕ → Bool
permits_of l ns f row = listed l (cells_of f) row && truth (assigned l unset (cells_of f) row) (tree (suc f.root) ns f.root)

-- what a stored formula means
abbrev pub rule_of : Lists → List Node → Formula → Rule
rule_of l ns f = record { cells = cells_of f; permits = permits_of l ns f }

-- what the stores mean: a rule for each stored formula, in order
abbrev pub formula_book : Lists → List Node → List Formula → BookMeaning
formula_book l ns fs = record { count = length fs; rule = λ r. rule_of l ns (slice_index_or fs r no_formula) }

-- the rule permits the rows of listed places at whose numbers the condition c is true
abbrev pub MeansCondition : Lists → Condition → Rule → Type 0
MeansCondition l c rule = (row : List ℕ) → rule.permits row ≡ (listed l rule.cells row && truth (assigned l unset rule.cells row) c)

-- good cells, and a root from which only nodes of a formula are met
pub record GoodRule (ns : List Node) (f : Formula) : Type 0 where
  pub good : GoodCells f.width f.cells
  pub inside : f.root < length ns
  pub rooted : grounded (suc f.root) ns f.root ≡ true

-- at most 65,535 formulas, each of them good
pub record WellFormed (ns : List Node) (fs : List Formula) : Type 0 where
  pub few : length fs ≤ 65535
  pub each : (r : ℕ) → r < length fs → GoodRule ns (slice_index_or fs r no_formula)
