-- Nodes laid out in a store stand for their condition, and what a standing node says. Assumes nothing.
use Rattle.std.proofs.Common.{◌≡◌, ℕ, ◌+◌, ◌-◌, ◌<◌, Bool, not, ◌&&◌, ◌||◌, List, [], ◌∷◌, ◌++◌, length, get_or, ℤ, sym, refl, ap, ◌∙◌, subst, append_assoc, arith, length-append}
use Rattle.std.proofs.lemmas.List.{get_or_at}
use Rattle.formulas.specs.declared.node.Node.{Node}
use Rattle.formulas.specs.declared.node.Node.TheVariants.{Free, Compare, Not, And, Or}
use Rattle.formulas.specs.Tree.{Condition, compares, negates, all, any, Conditions, one, more}
use Rattle.formulas.specs.Truth.{truth, all_true, any_true, related, worth}
use Rattle.formulas.specs.Layout.{size, list_size, layout, list_layout, Stands, StandsAll}
use Rattle.formulas.proofs.Layouts.{size_layout, size_list, size_some, list_some}

-- nodes p ++ layout ++ q, with n nodes in p
mutual
  pub laid_out : (c : Condition) (n : ℕ) (p q ns : List Node) → length p ≡ n → ns ≡ p ++ (layout n c ++ q) → Stands ns (n + size c - 1) c
  laid_out (compares a o b) n p q ns l e =
      let z : n + 1 - 1 ≡ n = omega arith in
      ap (λ i. get_or ns i Free) z ∙ ap (λ x. get_or x n Free) e ∙ get_or_at p (Compare a o b) q Free n l
  laid_out (negates c) n p q ns l e =
      let last = Not (n + size c - 1) in
      let e₁ : ns ≡ p ++ (layout n c ++ (last ∷ q)) = e ∙ ap (λ x. p ++ x) (append_assoc (layout n c) (last ∷ []) q) in
      let e₂ : ns ≡ (p ++ layout n c) ++ (last ∷ q) = e₁ ∙ sym (append_assoc p (layout n c) (last ∷ q)) in
      let m : length (p ++ layout n c) ≡ n + (size c + 1) - 1 = length-append p (layout n c) ∙ omega (arith, size_layout n c) in
      let s = size_some c in
      (n + size c - 1, omega arith, ap (λ x. get_or x (n + (size c + 1) - 1) Free) e₂ ∙ get_or_at (p ++ layout n c) last q Free (n + (size c + 1) - 1) m, laid_out c n p (last ∷ q) ns l e₁)
  laid_out (all cs) n p q ns l e = laid_list And cs n p q ns l e
  laid_out (any cs) n p q ns l e = laid_list Or cs n p q ns l e

  laid_list : (joins : ℕ → ℕ → Node) (cs : Conditions) (n : ℕ) (p q ns : List Node) → length p ≡ n → ns ≡ p ++ (list_layout joins n cs ++ q) → StandsAll joins ns (n + list_size cs - 1) cs
  laid_list joins (one c) n p q ns l e = laid_out c n p q ns l e
  laid_list joins (more c cs) n p q ns l e =
      let a = layout n c in
      let b = list_layout joins (n + size c) cs in
      let last = joins (n + size c - 1) (n + size c + list_size cs - 1) in
      let e₁ : ns ≡ p ++ (a ++ (b ++ (last ∷ q))) = e ∙ ap (λ x. p ++ x) (append_assoc a (b ++ (last ∷ [])) q ∙ ap (λ x. a ++ x) (append_assoc b (last ∷ []) q)) in
      let e₂ : ns ≡ (p ++ a) ++ (b ++ (last ∷ q)) = e₁ ∙ sym (append_assoc p a (b ++ (last ∷ q))) in
      let e₃ : ns ≡ ((p ++ a) ++ b) ++ (last ∷ q) = e₂ ∙ sym (append_assoc (p ++ a) b (last ∷ q)) in
      let m₁ : length (p ++ a) ≡ n + size c = length-append p a ∙ omega (arith, size_layout n c) in
      let m₂ : length ((p ++ a) ++ b) ≡ n + (size c + list_size cs + 1) - 1 = length-append (p ++ a) b ∙ omega (arith, size_list joins (n + size c) cs) in
      let s = size_some c in
      let t = list_some cs in (
        n + size c - 1,
        n + size c + list_size cs - 1,
        omega arith,
        omega arith,
        ap (λ x. get_or x (n + (size c + list_size cs + 1) - 1) Free) e₃ ∙ get_or_at ((p ++ a) ++ b) last q Free (n + (size c + list_size cs + 1) - 1) m₂,
        laid_out c n p (b ++ (last ∷ q)) ns l e₁,
        laid_list joins cs (n + size c) (p ++ a) (last ∷ q) ns m₁ e₂,
      )

-- a child of a standing node
pub record Child (ns : List Node) (i j : ℕ) : Type 0 where
  pub is : Condition
  pub less : j < i
  pub stands : Stands ns j is

-- what a standing node says, by its kind, of the truth b of the condition
abbrev pub View : List Node → ℕ → List ℤ → Bool → Node → Type 0
View ns i f b Free = ⊥
View ns i f b (Compare x o y) = b ≡ related o (worth f x) (worth f y)
View ns i f b (Not j) = (c : Child ns i j) × (b ≡ not (truth f c.is))
View ns i f b (And j k) = (c : Child ns i j) × (d : Child ns i k) × (b ≡ (truth f c.is && truth f d.is))
View ns i f b (Or j k) = (c : Child ns i j) × (d : Child ns i k) × (b ≡ (truth f c.is || truth f d.is))

mutual
  view : (c : Condition) (ns : List Node) (i : ℕ) (f : List ℤ) → Stands ns i c → View ns i f (truth f c) (get_or ns i Free)
  view (compares a o b) ns i f h = subst (View ns i f (truth f (compares a o b))) (sym h) refl
  view (negates c) ns i f h = subst (View ns i f (truth f (negates c))) (sym h.2) (record { is = c; less = h.1; stands = h.3 }, refl)
  view (all cs) ns i f h = view_all cs ns i f h
  view (any cs) ns i f h = view_any cs ns i f h

  view_all : (cs : Conditions) (ns : List Node) (i : ℕ) (f : List ℤ) → StandsAll And ns i cs → View ns i f (all_true f cs) (get_or ns i Free)
  view_all (one c) ns i f h = view c ns i f h
  view_all (more c cs) ns i f h = subst (View ns i f (all_true f (more c cs))) (sym h.4) (record { is = c; less = h.2; stands = h.5 }, record { is = all cs; less = h.3; stands = h.6 }, refl)

  view_any : (cs : Conditions) (ns : List Node) (i : ℕ) (f : List ℤ) → StandsAll Or ns i cs → View ns i f (any_true f cs) (get_or ns i Free)
  view_any (one c) ns i f h = view c ns i f h
  view_any (more c cs) ns i f h = subst (View ns i f (any_true f (more c cs))) (sym h.4) (record { is = c; less = h.2; stands = h.5 }, record { is = any cs; less = h.3; stands = h.6 }, refl)

pub seen : (c : Condition) (ns : List Node) (i : ℕ) (f : List ℤ) (x : Node) → get_or ns i Free ≡ x → Stands ns i c → View ns i f (truth f c) x
seen c ns i f x e h = subst (View ns i f (truth f c)) e (view c ns i f h)
