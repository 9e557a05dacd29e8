-- Which stored nodes are roots of formulas. Assumes nothing.
use Rattle.std.specs.Prelude.{ℕ, zero, suc, Bool, true, false, ◌&&◌, List, nat_lt, slice_index_or}
use Rattle.formulas.specs.declared.node.Node.{Node}
use Rattle.formulas.specs.declared.node.Node.TheVariants.{Free, Compare, Not, And, Or}

-- a child j has a smaller number than its parent i, and the test g passes it
abbrev pub child : (ℕ → Bool) → ℕ → ℕ → Bool
child g i j = nat_lt j i && g j

-- the same of all children of node i, by what the node is; a free node does not pass
abbrev pub node_grounded : (ℕ → Bool) → ℕ → Node → Bool
node_grounded g i Free = false
node_grounded g i (Compare a o b) = true
node_grounded g i (Not j) = child g i j
node_grounded g i (And j k) = child g i j && child g i k
node_grounded g i (Or j k) = child g i j && child g i k

-- no free node is met from node i, followed n nodes deep, and every child has a smaller number than its parent
abbrev pub grounded : ℕ → List Node → ℕ → Bool
grounded zero ns i = false
grounded (suc n) ns i = node_grounded (grounded n ns) i (slice_index_or ns i Free)
