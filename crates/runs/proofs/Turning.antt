-- Turns, and turns that stop: what they keep, and that there is one way only. Assumes nothing.
use Rattle.std.proofs.Common.{◌≡◌, ℕ, zero, suc, ◌+◌, ◌<◌, sym, refl, subst, inl, inr, add-one, arith}
use Rattle.std.proofs.lemmas.Bool.{cases_order}
use Rattle.runs.specs.Settle.{Turns, Turns.none, Turns.more, Stops}

pub turns_more : {S : Type 0} {R : ℕ → S → S → Type 0} {n : ℕ} {s t u : S} → Turns R n s t → R n t u → Turns R (n + 1) s u
turns_more {S} {R} {n} {s} {t} {u} a b = subst (λ (k : ℕ). Turns R k s u) (sym (add-one n)) (more a b)

pub turns_keep : {S : Type 0} (P : S → Type 0) {R : ℕ → S → S → Type 0} {k : ℕ} {s t : S} → ((j : ℕ) (a b : S) → j < k → R j a b → P a → P b)
    → Turns R k s t → P s → P t
turns_keep P f none p = p
turns_keep P f (more {n = k} {t = t} {u = u} a b) p = f k t u (omega arith) b (turns_keep P (λ j x y l. f j x y (omega arith)) a p)

-- R and F fix what they come to, and exclude each other
pub record Exact {S : Type 0} (R F : ℕ → S → S → Type 0) : Type 0 where
  pub same : (j : ℕ) (a b c : S) → R j a b → R j a c → b ≡ c
  pub last : (j : ℕ) (a b c : S) → F j a b → F j a c → b ≡ c
  pub apart : (j : ℕ) (a b c : S) → R j a b → F j a c → ⊥

module _ {S : Type 0} {R F : ℕ → S → S → Type 0} (x : Exact R F) where
  pub turns_same : {k : ℕ} {s t u : S} → Turns R k s t → Turns R k s u → t ≡ u
  turns_same none none = refl
  turns_same (more {n = k} {t = t} {u = u} a b) (more {t = t'} {u = u'} a' b') =
      let e : t ≡ t' = turns_same a a' in
      x.same k t' u u' (subst (λ z. R k z u) e b) b'

  -- a turn that was taken did not fail
  turn_apart : (j k : ℕ) {s t b u : S} → j < k → Turns R k s t → Turns R j s b → F j b u → ⊥
  turn_apart j zero l a p q = absurd (omega arith)
  turn_apart j (suc k) {s = s} {b = b} {u = u} l (more {t = t} {u = w} a z) p q = elim (cases_order j k) [
    | inl e ↦
        let pk : Turns R k s b = subst (λ (i : ℕ). Turns R i s b) e p in
        let same : t ≡ b = turns_same a pk in
        x.apart k b w u (subst (λ y. R k y w) same z) (subst (λ (i : ℕ). F i b u) e q)
    | inr o ↦ elim o [
      | inl lt ↦ turn_apart j k lt a p q
      | inr gt ↦ absurd (omega arith)
    ]
  ]

  pub turns_stops : {n j : ℕ} {s t u : S} → Turns R n s t → Stops R F n j s u → ⊥
  turns_stops {n} {j} a b = turn_apart j n b.within a b.first b.last

  pub stops_same : {n i j : ℕ} {s t u : S} → Stops R F n i s t → Stops R F n j s u → (i ≡ j) × (t ≡ u)
  stops_same {n} {i} {j} {s} {t} {u} a b = elim (cases_order i j) [
    | inl e ↦
        let first : Turns R j s a.before = subst (λ (k : ℕ). Turns R k s a.before) e a.first in
        let same : a.before ≡ b.before = turns_same first b.first in
        let last : F j a.before t = subst (λ (k : ℕ). F k a.before t) e a.last in
        (e, x.last j b.before t u (subst (λ y. F j y t) same last) b.last)
    | inr o ↦ elim o [
      | inl lt ↦ absurd (turn_apart i j lt b.first a.first a.last)
      | inr gt ↦ absurd (turn_apart j i gt a.first b.first b.last)
    ]
  ]
