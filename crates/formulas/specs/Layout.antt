-- How a formula's tree lies in the store: its nodes in the order in which they are read, each parent after its children. Assumes nothing.
use Rattle.std.specs.Prelude.{◌≡◌, ℕ, ◌+◌, ◌-◌, ◌<◌, List, [], ◌∷◌, ◌++◌, length, take, drop, slice_index_or}
use Rattle.formulas.specs.declared.node.Node.{Node}
use Rattle.formulas.specs.declared.node.Node.TheVariants.{Free, Compare, Not, And, Or}
use Rattle.formulas.specs.Tree.{Condition, compares, negates, all, any, Conditions, one, more}

-- how many nodes a tree takes
abbrev mutual
  pub size : Condition → ℕ
  size (compares a o b) = 1
  size (negates c) = size c + 1
  size (all cs) = list_size cs
  size (any cs) = list_size cs

  -- how many a list takes; a list of one condition takes none of its own
  pub list_size : Conditions → ℕ
  list_size (one c) = size c
  list_size (more c cs) = size c + list_size cs + 1

-- the nodes of a tree whose first node has the number n; its root is the last of them
abbrev mutual
  pub layout : ℕ → Condition → List Node
  layout n (compares a o b) = Compare a o b ∷ []
  layout n (negates c) = layout n c ++ (Not (n + size c - 1) ∷ [])
  layout n (all cs) = list_layout And n cs
  layout n (any cs) = list_layout Or n cs

  -- those of a list, where `joins` makes the node that joins a condition and the rest of the list
  pub list_layout : (ℕ → ℕ → Node) → ℕ → Conditions → List Node
  list_layout joins n (one c) = layout n c
  list_layout joins n (more c cs) =
      layout n c ++ (list_layout joins (n + size c) cs ++ (joins (n + size c - 1) (n + size c + list_size cs - 1) ∷ []))

-- a store in which new nodes stand from n on, and all else is as it was
abbrev pub stored : {X : Type 0} → List X → ℕ → List X → List X
stored nodes n new = take n nodes ++ (new ++ drop (n + length new) nodes)

-- the stored node i stands for a condition; its children have smaller numbers
abbrev mutual
  pub Stands : List Node → ℕ → Condition → Type 0
  Stands ns i (compares a o b) = slice_index_or ns i Free ≡ Compare a o b
  Stands ns i (negates c) = (j : ℕ) × (j < i) × (slice_index_or ns i Free ≡ Not j) × Stands ns j c
  Stands ns i (all cs) = StandsAll And ns i cs
  Stands ns i (any cs) = StandsAll Or ns i cs

  -- the same of a list, where `joins` makes the nodes that join its conditions
  pub StandsAll : (ℕ → ℕ → Node) → List Node → ℕ → Conditions → Type 0
  StandsAll joins ns i (one c) = Stands ns i c
  StandsAll joins ns i (more c cs) = (j : ℕ) × (k : ℕ) × (j < i) × (k < i) × (slice_index_or ns i Free ≡ joins j k) × Stands ns j c × StandsAll joins ns k cs

-- some condition stands at node i of the store
pub record Standing (ns : List Node) (i : ℕ) : Type 0 where
  pub is : Condition
  pub stands : Stands ns i is
  pub within : i < length ns
