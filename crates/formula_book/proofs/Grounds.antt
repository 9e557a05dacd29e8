-- Grounded nodes, looked at deep enough. Assumes nothing.
use Rattle.std.proofs.Common.{◌≡◌, ℕ, zero, suc, ◌<◌, ◌≤◌, Bool, ◌&&◌, ltb, List, get_or, sym, refl, ap, ◌∙◌, ⊎_elim, arith}
use Rattle.std.proofs.lemmas.Bool.{lt-ltb, le-ltb, cases_lt}
use Rattle.formulas.specs.declared.node.Node.{Node}
use Rattle.formulas.specs.declared.node.Node.TheVariants.{Free, Compare, Not, And, Or}
use Rattle.formula_book.specs.Trees.{child, node_grounded, grounded}

-- two tests after a comparison agree if they do where it holds
below : (j i : ℕ) (a b : Bool) → (j < i → a ≡ b) → ltb j i && a ≡ ltb j i && b
below j i a b same = ⊎_elim
    (λ (l : j < i). ap (λ x. ltb j i && x) (same l))
    (λ (l : i ≤ j). ap (λ t. t && a) (le-ltb j i l) ∙ sym (ap (λ t. t && b) (le-ltb j i l)))
    (cases_lt j i)

-- deep enough is deep enough
node_deep : (g h : ℕ → Bool) (i : ℕ) → ((j : ℕ) → j < i → g j ≡ h j) → (x : Node) → node_grounded g i x ≡ node_grounded h i x
node_deep g h i same Free = refl
node_deep g h i same (Compare a o b) = refl
node_deep g h i same (Not j) = below j i (g j) (h j) (same j)
node_deep g h i same (And j k) = ap (λ x. x && child g i k) (below j i (g j) (h j) (same j)) ∙ ap (λ x. child h i j && x) (below k i (g k) (h k) (same k))
node_deep g h i same (Or j k) = ap (λ x. x && child g i k) (below j i (g j) (h j) (same j)) ∙ ap (λ x. child h i j && x) (below k i (g k) (h k) (same k))

pub deep : (n m : ℕ) (ns : List Node) (i : ℕ) → i < n → i < m → grounded n ns i ≡ grounded m ns i
deep zero m ns i h k = absurd (omega arith)
deep (suc n) zero ns i h k = absurd (omega arith)
deep (suc n) (suc m) ns i h k = node_deep (grounded n ns) (grounded m ns) i (λ j l. deep n m ns j (omega arith) (omega arith)) (get_or ns i Free)

-- a child looked at as deep as its parent
pub child_deep : (ns : List Node) (i j : ℕ) → j < i → grounded (suc j) ns j ≡ child (grounded i ns) i j
child_deep ns i j l = deep (suc j) i ns j (omega arith) l ∙ sym (ap (λ t. t && grounded i ns j) (lt-ltb j i l))
