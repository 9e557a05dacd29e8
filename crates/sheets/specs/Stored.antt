-- How a sheet lies in the stores. Assumes nothing.
use Rattle.std.specs.Prelude.{ℕ, ◌+◌, ◌-◌, ◌≤◌, List, [], ◌∷◌, ◌++◌, map, length, replicate, ℤ, pos}
use Rattle.std.specs.List.{flat_map}
use Rattle.formulas.specs.declared.node.Node.{Node}
use Rattle.formulas.specs.declared.node.Node.TheVariants.{Free}
use Rattle.formulas.specs.Tree.{Condition, cells_of}
use Rattle.formulas.specs.Layout.{size, layout}
use Rattle.reader.specs.declared.formula.Formula.{Formula}
use Rattle.rows.specs.declared.rule.Kind.TheVariants.{Permitted}
use Rattle.rows.specs.declared.rule.RowsRule.{RowsRule}
use Rattle.sheets.specs.declared.stores.Stores.{Stores}
use Rattle.sheets.specs.declared.stores.Extent.{Extent}
use Rattle.sheets.specs.Sheet.{Sheet, RowsField}

-- what the stores hold
pub record Contents : Type 0 where
  pub lengths : List ℕ
  pub numbers : List ℤ
  pub rules : List RowsRule
  pub places : List ℕ
  pub formulas : List Formula
  pub nodes : List Node

-- what lent stores hold
abbrev pub held : Stores → Contents
held s = record { lengths = s.lengths.now; numbers = s.numbers.now; rules = s.rules.now; places = s.places.now; formulas = s.formulas.now; nodes = s.nodes.now }

-- zero in the store of rules
abbrev pub zero_rule : RowsRule
zero_rule = record { kind = Permitted; width = 0; cells = replicate 4 0; start = 0; count = 0 }

-- zero in the store of formulas
abbrev pub zero_formula : Formula
zero_formula = record { root = 0; width = 0; cells = replicate 4 0 }

-- every store has its published size, or more
pub record Enough (c : Contents) : Type 0 where
  pub lengths : 64 ≤ length c.lengths
  pub numbers : 4096 ≤ length c.numbers
  pub rules : 64 ≤ length c.rules
  pub places : 32768 ≤ length c.places
  pub formulas : 64 ≤ length c.formulas
  pub nodes : 32768 ≤ length c.nodes

-- a store of size n that begins with xs, and is blank after them
abbrev pub filled : {X : Type 0} → X → ℕ → List X → List X
filled blank n xs = xs ++ replicate (n - length xs) blank

-- the places of a rule's rows, one row after another
abbrev pub places_of : RowsField → List ℕ
places_of x = flat_map (λ row. row) x.rows

-- a rule by rows whose places stand from n on
abbrev pub stored_rule_of : ℕ → RowsField → RowsRule
stored_rule_of n x = record { kind = x.kind; width = length x.cells; cells = filled 0 4 x.cells; start = n; count = length x.rows }

-- rules by rows, where the places of the first stand from n on, and those of the others after them
abbrev pub rules_of : ℕ → List RowsField → List RowsRule
rules_of n [] = []
rules_of n (x ∷ xs) = stored_rule_of n x ∷ rules_of (n + length (places_of x)) xs

-- a rule by a formula whose nodes stand from n on; its root is the last of them
abbrev pub formula_of : ℕ → Condition → Formula
formula_of n c = record { root = n + size c - 1; width = length (cells_of c); cells = filled 0 4 (cells_of c) }

-- formulas, where the nodes of the first stand from n on, and those of the others after them
abbrev pub formulas_of : ℕ → List Condition → List Formula
formulas_of n [] = []
formulas_of n (c ∷ cs) = formula_of n c ∷ formulas_of (n + size c) cs

-- the nodes of some formulas, from n on
abbrev pub nodes_of : ℕ → List Condition → List Node
nodes_of n [] = []
nodes_of n (c ∷ cs) = layout n c ++ nodes_of (n + size c) cs

-- stores as large as those given that hold the sheet, and are zero past it
abbrev pub stored : Contents → Sheet → Contents
stored c s = record {
  lengths = filled 0 (length c.lengths) (map length s.lists);
  numbers = filled (pos 0) (length c.numbers) (flat_map (filled (pos 0) 64) s.lists);
  rules = filled zero_rule (length c.rules) (rules_of 0 s.rows);
  places = filled 0 (length c.places) (flat_map places_of s.rows);
  formulas = filled zero_formula (length c.formulas) (formulas_of 0 s.formulas);
  nodes = filled Free (length c.nodes) (nodes_of 0 s.formulas);
}

-- stores as large as those given that are zero throughout
abbrev pub zeroed : Contents → Contents
zeroed c = record {
  lengths = replicate (length c.lengths) 0;
  numbers = replicate (length c.numbers) (pos 0);
  rules = replicate (length c.rules) zero_rule;
  places = replicate (length c.places) 0;
  formulas = replicate (length c.formulas) zero_formula;
  nodes = replicate (length c.nodes) Free;
}

-- how much of each store the sheet takes
abbrev pub extent_of : Sheet → Extent
extent_of s = record {
  cells = length s.lists;
  rules = length s.rows;
  places = length (flat_map places_of s.rows);
  formulas = length s.formulas;
  nodes = length (nodes_of 0 s.formulas);
}
