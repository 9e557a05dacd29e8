-- The cells that stored nodes name. Assumes nothing.
use Rattle.std.specs.Prelude.{◌≡◌, ℕ, ◌-◌, ◌<◌, ◌≤◌, List, [], ◌∷◌, ◌++◌, length, take, drop, replicate, MatchOption, Option}
use Rattle.formulas.specs.declared.node.Node.{Node}
use Rattle.formulas.specs.declared.node.Node.TheVariants.{Free, Compare, Not, And, Or}
use Rattle.formulas.specs.Tree.{noted, side_cells}
use Rattle.reader.specs.declared.store.Store.{Store}
use Rattle.reader.specs.declared.named.Named.{Named}

-- the cells that a node names itself, in order
abbrev pub node_cells : Node → List ℕ
node_cells Free = []
node_cells (Compare a o b) = side_cells a ++ side_cells b
node_cells (Not i) = []
node_cells (And i j) = []
node_cells (Or i j) = []

-- the cells of some nodes, in order
abbrev pub mentioned : List Node → List ℕ
mentioned [] = []
mentioned (x ∷ xs) = node_cells x ++ mentioned xs

-- the cells cs, four at most, as they are stored: with their count, and zeros after them
pub record Padded (cs cells : List ℕ) (count : ℕ) : Type 0 where
  pub few : length cs ≤ 4
  pub count_is : count ≡ length cs
  pub cells_are : cells ≡ cs ++ replicate (4 - length cs) 0

-- the cells cs are those that were found
abbrev pub Holds : List ℕ → Named → Type 0
Holds cs n = Padded cs n.cells n.count

-- what is found of the cells cs: nothing where they are more than four
abbrev pub Found : List ℕ → Option Named → Type 0
Found cs r = MatchOption r (4 < length cs) (λ n. Holds cs n)

-- the different cells that the taken nodes from a place on name
abbrev pub named_from : Store → ℕ → List ℕ
named_from s from = noted [] (mentioned (take (s.used - from) (drop from s.nodes.now)))
