-- Where a node stands for a condition, its tree is as true. Assumes nothing.
use Rattle.std.proofs.Common.{◌≡◌, ℕ, zero, suc, ◌<◌, ◌≤◌, Bool, not, ◌&&◌, ◌||◌, List, ℤ, if◌then◌else◌, ap, ◌∙◌, arith}
use Rattle.std.proofs.lemmas.Bool.{lt-ltb}
use Rattle.formulas.specs.declared.node.Node.{Node}
use Rattle.formulas.specs.declared.node.Node.TheVariants.{And, Or}
use Rattle.formulas.specs.Tree.{Condition, compares, negates, all, any, Conditions, one, more}
use Rattle.formulas.specs.Truth.{truth, all_true, any_true}
use Rattle.formulas.specs.Layout.{Stands, StandsAll}
use Rattle.judge.specs.Trees.{nothing, child_tree, node_tree, tree}

-- a node below m, looked at m deep
pub below : (P : ℕ → Type 0) (j : ℕ) → ((k : ℕ) → j ≤ k → P (suc k)) → (m : ℕ) → j < m → P m
below P j f zero h = absurd (omega arith)
below P j f (suc m) h = f m (omega arith)

-- a child with a smaller number has its own tree
pub child_is : (t : ℕ → Condition) (i j : ℕ) → j < i → child_tree t i j ≡ t j
child_is t i j l = ap (λ b. if b then t j else nothing) (lt-ltb j i l)

module _ (ns : List Node) (f : List ℤ) where
  -- a child that is as true as c
  child_true : (n i j : ℕ) (b : Bool) → j < i → truth f (tree n ns j) ≡ b → truth f (child_tree (tree n ns) i j) ≡ b
  child_true n i j b l e = ap (truth f) (child_is (tree n ns) i j l) ∙ e

  mutual
    pub stands_true : (c : Condition) (n i : ℕ) → i ≤ n → Stands ns i c → truth f (tree (suc n) ns i) ≡ truth f c
    stands_true (compares a o b) n i l s = ap (λ x. truth f (node_tree (tree n ns) i x)) s
    stands_true (negates c) n i l s =
        ap (λ x. truth f (node_tree (tree n ns) i x)) s.2
        ∙ ap not (child_true n i s.0 (truth f c) s.1 (below (λ k. truth f (tree k ns s.0) ≡ truth f c) s.0 (λ k h. stands_true c k s.0 h s.3) n (omega (arith, s.1))))
    stands_true (all cs) n i l s = all_stand_true cs n i l s
    stands_true (any cs) n i l s = any_stand_true cs n i l s

    all_stand_true : (cs : Conditions) (n i : ℕ) → i ≤ n → StandsAll And ns i cs → truth f (tree (suc n) ns i) ≡ all_true f cs
    all_stand_true (one c) n i l s = stands_true c n i l s
    all_stand_true (more c cs) n i l s =
        ap (λ x. truth f (node_tree (tree n ns) i x)) s.4
        ∙ ap (λ b. b && truth f (child_tree (tree n ns) i s.1))
        (child_true n i s.0 (truth f c) s.2 (below (λ k. truth f (tree k ns s.0) ≡ truth f c) s.0 (λ k h. stands_true c k s.0 h s.5) n (omega (arith, s.2))))
        ∙ ap (λ b. truth f c && b)
        (child_true n i s.1 (all_true f cs) s.3 (below (λ k. truth f (tree k ns s.1) ≡ all_true f cs) s.1 (λ k h. all_stand_true cs k s.1 h s.6) n (omega (arith, s.3))))

    any_stand_true : (cs : Conditions) (n i : ℕ) → i ≤ n → StandsAll Or ns i cs → truth f (tree (suc n) ns i) ≡ any_true f cs
    any_stand_true (one c) n i l s = stands_true c n i l s
    any_stand_true (more c cs) n i l s =
        ap (λ x. truth f (node_tree (tree n ns) i x)) s.4
        ∙ ap (λ b. b || truth f (child_tree (tree n ns) i s.1))
        (child_true n i s.0 (truth f c) s.2 (below (λ k. truth f (tree k ns s.0) ≡ truth f c) s.0 (λ k h. stands_true c k s.0 h s.5) n (omega (arith, s.2))))
        ∙ ap (λ b. truth f c || b)
        (child_true n i s.1 (any_true f cs) s.3 (below (λ k. truth f (tree k ns s.1) ≡ any_true f cs) s.1 (λ k h. any_stand_true cs k s.1 h s.6) n (omega (arith, s.3))))

-- what is the truth of a node's tree is that of each condition that it stands for
pub stood : (ns : List Node) (f : List ℤ) (i : ℕ) (b : Bool) → ((n : ℕ) → i < n → b ≡ truth f (tree n ns i)) → (c : Condition) → Stands ns i c → b ≡ truth f c
stood ns f i b deep c s = deep (suc i) (omega arith) ∙ stands_true ns f c i i (omega arith) s
