-- The condition that a stored node stands for, worked out from the nodes of any store. Assumes nothing.
use Rattle.std.specs.Prelude.{ℕ, zero, suc, List, pos, if◌then◌else◌, nat_lt, slice_index_or}
use Rattle.formulas.specs.declared.node.Node.{Node}
use Rattle.formulas.specs.declared.node.Node.TheVariants.{Free, Compare, Not, And, Or}
use Rattle.formulas.specs.declared.node.Side.TheVariants.{Number}
use Rattle.formulas.specs.declared.node.Relation.TheVariants.{NotEqual}
use Rattle.formulas.specs.Tree.{Condition, compares, negates, all, any, one, more}

-- what a free node counts as, and a child that has no smaller number than its parent: it is never true. No formula that was read has one
abbrev pub nothing : Condition
nothing = compares (Number (pos 0)) NotEqual (Number (pos 0))

-- the condition of the child j of node i, where t gives that of each node
abbrev pub child_tree : (ℕ → Condition) → ℕ → ℕ → Condition
child_tree t i j = if nat_lt j i then t j else nothing

-- the condition of node i by what it is, where t gives that of its children
abbrev pub node_tree : (ℕ → Condition) → ℕ → Node → Condition
node_tree t i Free = nothing
node_tree t i (Compare a o b) = compares a o b
node_tree t i (Not j) = negates (child_tree t i j)
node_tree t i (And j k) = all (more (child_tree t i j) (one (child_tree t i k)))
node_tree t i (Or j k) = any (more (child_tree t i j) (one (child_tree t i k)))

-- the condition of node i, followed n nodes deep; children have smaller numbers, so i + 1 is deep enough
abbrev pub tree : ℕ → List Node → ℕ → Condition
tree zero ns i = nothing
tree (suc n) ns i = node_tree (tree n ns) i (slice_index_or ns i Free)
