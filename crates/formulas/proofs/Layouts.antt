-- How many nodes a tree takes, and stores written one part after another. Assumes nothing.
use Rattle.std.proofs.Common.{◌≡◌, ℕ, suc, ◌+◌, ◌-◌, ◌<◌, ◌≤◌, List, [], ◌∷◌, ◌++◌, length, take, drop, set, sym, refl, ap, ◌∙◌, ⊎_elim, append_assoc, arith, length-append}
use Rattle.std.proofs.lemmas.List.{take_at, drop_at, drop-drop, take-take, length-take-le, set_split}
use Rattle.formulas.specs.declared.node.Node.{Node}
use Rattle.formulas.specs.declared.node.Side.{Side}
use Rattle.formulas.specs.Tree.{Condition, compares, negates, all, any, Conditions, one, more, side_text, relation_text, text, list_text}
use Rattle.formulas.specs.Layout.{size, list_size, layout, list_layout, stored}
use Rattle.formulas.proofs.Unique.{side_first, relation_bytes, SideFirst}

pub side_some : (a : Side) → 1 ≤ length (side_text a)
side_some a = go (side_text a) (side_first a [])
  where
    go : (w : List ℕ) → SideFirst (Rattle.formulas.specs.Faults.next (w ++ [])) → 1 ≤ length w
    go [] f = absurd (⊎_elim (λ d. omega (arith, d.1)) (λ g. ⊎_elim (λ e. omega (arith, e)) (λ e. omega (arith, e)) g) f)
    go (b ∷ w) f = omega arith

mutual
  pub size_layout : (n : ℕ) (c : Condition) → length (layout n c) ≡ size c
  size_layout n (compares a o b) = refl
  size_layout n (negates c) = length-append (layout n c) _ ∙ ap (λ k. k + 1) (size_layout n c)
  size_layout n (all cs) = size_list _ n cs
  size_layout n (any cs) = size_list _ n cs

  pub size_list : (joins : ℕ → ℕ → Node) (n : ℕ) (cs : Conditions) → length (list_layout joins n cs) ≡ list_size cs
  size_list joins n (one c) = size_layout n c
  size_list joins n (more c cs) =
      let last = joins (n + size c - 1) (n + size c + list_size cs - 1) ∷ [] in
      let i = size_layout n c in
      let j = size_list joins (n + size c) cs in
      length-append (layout n c) (list_layout joins (n + size c) cs ++ last) ∙ omega (arith, length-append (list_layout joins (n + size c) cs) last)

mutual
  pub size_some : (c : Condition) → 1 ≤ size c
  size_some (compares a o b) = omega arith
  size_some (negates c) = omega arith
  size_some (all cs) = list_some cs
  size_some (any cs) = list_some cs

  pub list_some : (cs : Conditions) → 1 ≤ list_size cs
  list_some (one c) = size_some c
  list_some (more c cs) = omega arith

-- a tree takes fewer nodes than its text has bytes
mutual
  pub size_text : (c : Condition) → size c < length (text c)
  size_text (compares a o b) =
      let r = relation_bytes o in
      omega (arith, side_some a, side_some b, r.1, length-append (side_text a) (relation_text o ++ side_text b), length-append (relation_text o) (side_text b))
  size_text (negates c) = omega (arith, size_text c, length-append (text c) (41 ∷ []))
  size_text (all cs) = omega (arith, list_text_size cs, length-append (list_text cs) (41 ∷ []))
  size_text (any cs) = omega (arith, list_text_size cs, length-append (list_text cs) (41 ∷ []))

  pub list_text_size : (cs : Conditions) → list_size cs < length (list_text cs)
  list_text_size (one c) = size_text c
  list_text_size (more c cs) = omega (arith, size_text c, list_text_size cs, length-append (text c) (44 ∷ list_text cs))

module _ {X : Type 0} where
  pub stored_set : (l : List X) (n : ℕ) (x : X) → n < length l → set l n x ≡ stored l n (x ∷ [])
  stored_set l n x h = let e : suc n ≡ n + 1 = omega arith in set_split l n x h ∙ ap (λ k. take n l ++ (x ∷ drop k l)) e

  pub stored_length : (l : List X) (n : ℕ) (new : List X) → n + length new ≤ length l → length (stored l n new) ≡ length l
  stored_length l n new h =
      length-append (take n l) (new ++ drop (n + length new) l)
      ∙ omega (arith, length-append new (drop (n + length new) l), length-take-le n l (omega arith), lib.ListN.length-drop (n + length new) l)

  -- what was written up to m, and the rest
  pub stored_take : (l : List X) (n m : ℕ) (new : List X) → n ≤ length l → m ≡ n + length new → take m (stored l n new) ≡ take n l ++ new
  stored_take l n m new h e =
      ap (take m) (sym (append_assoc (take n l) new (drop (n + length new) l)))
      ∙ take_at (take n l ++ new) (drop (n + length new) l) m (length-append (take n l) new ∙ omega (arith, length-take-le n l h))

  pub stored_drop : (l : List X) (n m : ℕ) (new : List X) → n ≤ length l → m ≡ n + length new → drop m (stored l n new) ≡ drop m l
  stored_drop l n m new h e =
      ap (drop m) (sym (append_assoc (take n l) new (drop (n + length new) l)))
      ∙ drop_at (take n l ++ new) (drop (n + length new) l) m (length-append (take n l) new ∙ omega (arith, length-take-le n l h))
      ∙ ap (λ k. drop k l) (sym e)

  -- one part after another
  pub stored_more : (l : List X) (n m : ℕ) (a b : List X) → n + length a ≤ length l → m ≡ n + length a → stored (stored l n a) m b ≡ stored l n (a ++ b)
  stored_more l n m a b h e =
      let d : drop (m + length b) (stored l n a) ≡ drop (m + length b) l =
      sym (drop-drop (length b) m (stored l n a)) ∙ ap (drop (length b)) (stored_drop l n m a (omega arith) e) ∙ drop-drop (length b) m l in
      let k : m + length b ≡ n + length (a ++ b) = omega (arith, length-append a b) in
      ap (λ x. x ++ (b ++ drop (m + length b) (stored l n a))) (stored_take l n m a (omega arith) e)
      ∙ ap (λ x. (take n l ++ a) ++ (b ++ x)) (d ∙ ap (λ j. drop j l) k)
      ∙ simp append_assoc

  pub below_kept : (l k r : List X) (n m : ℕ) → n ≤ m → take m r ≡ take m k → take n k ≡ take n l → take n r ≡ take n l
  below_kept l k r n m le e f = sym (take-take n m r le) ∙ ap (take n) e ∙ take-take n m k le ∙ f
