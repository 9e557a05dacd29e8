-- The members of a set, in order. Assumes nothing.
use Rattle.std.proofs.Common.{◌≡◌, ℕ, zero, suc, ◌+◌, ◌-◌, ◌/◌, ◌%◌, ◌^◌, ◌<◌, ◌≤◌, Bool, cond, eqb, [], ◌∷◌, ◌++◌, length, get_or, Some, slice_get, sym, refl, ap, ◌∙◌, subst, ap₂, inl, inr, add-one, arith}
use Rattle.std.proofs.lemmas.Bool.{cases_eq, cases_lt, eq-eqb, ne_eqb}
use Rattle.std.proofs.lemmas.Option.{slice_get-get_or}
use Rattle.std.proofs.lemmas.List.{get_or_append_left, get_or-append_right, append-nil}
use Rattle.bits.specs.Sets.{In, below, members, size}
use Rattle.bits.proofs.Size.{length_below}

tail_at : (s n k d : ℕ) → s / 2 ^ n % 2 ≡ 1 → k ≡ 0 → get_or (cond (eqb (s / 2 ^ n % 2) 1) (n ∷ []) []) k d ≡ n
tail_at s n k d e z = ap₂ (λ (b : Bool) (x : ℕ). get_or (cond b (n ∷ []) []) x d) (eq-eqb (s / 2 ^ n % 2) 1 e) z

below_has : (n s i : ℕ) → i < length (below n s) → In s (get_or (below n s) i 0) × (get_or (below n s) i 0 < n)
unfolding below
below_has zero s i h = absurd (omega arith)
below_has (suc n) s i h = elim (cases_lt i (length (below n s))) [
  | inl lt ↦ let e = get_or_append_left (below n s) (cond (eqb (s / 2 ^ n % 2) 1) (n ∷ []) []) 0 i lt in
      let q = below_has n s i lt in (subst (In s) (sym e) q.0, rw e (omega (arith, q.1)))
  | inr ge ↦
      let lb = length_below n s in
      let b : s / 2 ^ n % 2 ≡ 1 = omega arith in
      let z : i - length (below n s) ≡ 0 = omega arith in
      let e : get_or (below (suc n) s) i 0 ≡ n = get_or-append_right (below n s) (cond (eqb (s / 2 ^ n % 2) 1) (n ∷ []) []) (length (below n s)) i 0 refl ge ∙ tail_at s n (i - length (below n s)) 0 b z in
      (subst (In s) (sym e) b, omega arith)
]

-- every member below n is there
pub has_below : (n s r : ℕ) → r < n → In s r → (i : ℕ) × (i < length (below n s)) × (get_or (below n s) i 0 ≡ r)
unfolding below
has_below zero s r h k = absurd (omega arith)
has_below (suc n) s r h k = elim (cases_eq r n) [
  | inl e ↦
      let lb = length_below n s in
      let b : s / 2 ^ n % 2 ≡ 1 = subst (In s) e k in
      (length (below n s), omega arith, get_or-append_right (below n s) (cond (eqb (s / 2 ^ n % 2) 1) (n ∷ []) []) (length (below n s)) (length (below n s)) 0 refl (omega arith) ∙ tail_at s n (length (below n s) - length (below n s)) 0 b (omega arith) ∙ sym e)
  | inr ne ↦
      let lb = length_below n s in
      let q = has_below n s r (omega arith) k in
      (q.0, omega (arith, q.1), get_or_append_left (below n s) (cond (eqb (s / 2 ^ n % 2) 1) (n ∷ []) []) 0 q.0 q.1 ∙ q.2)
]

pub member_has : (s i : ℕ) → i < size s → In s (get_or (members s) i 0) × (get_or (members s) i 0 < 64)
unfolding members
member_has s i h = below_has 64 s i h

-- ---- the steps of a loop over the members
pub count_more : (n s m : ℕ) → m ≡ length (below n s) → m + s / 2 ^ n % 2 ≡ length (below (n + 1) s)
count_more n s m e = let p = length_below n s in ap (λ (x : ℕ). x + s / 2 ^ n % 2) e ∙ sym p ∙ ap (λ (x : ℕ). length (below x s)) (sym (add-one n))

pub below_none : (s : ℕ) → [] ≡ below 0 s
unfolding below
below_none s = refl

pub below_with : (n s : ℕ) → In s n → below (n + 1) s ≡ below n s ++ n ∷ []
unfolding below
below_with n s e = ap (λ (x : ℕ). below x s) (add-one n) ∙ ap (λ (b : Bool). below n s ++ cond b (n ∷ []) []) (eq-eqb (s / 2 ^ n % 2) 1 e)

pub below_without : (n s : ℕ) → (In s n → ⊥) → below (n + 1) s ≡ below n s
unfolding below
below_without n s e = ap (λ (x : ℕ). below x s) (add-one n) ∙ ap (λ (b : Bool). below n s ++ cond b (n ∷ []) []) (ne_eqb (s / 2 ^ n % 2) 1 e) ∙ append-nil (below n s)

pub below_all : (s : ℕ) → below 64 s ≡ members s
unfolding members
below_all s = refl

rank_lt : (n s r : ℕ) → r < n → In s r → length (below r s) < length (below n s)
rank_lt zero s r h k = absurd (omega arith)
rank_lt (suc n) s r h k = let p = length_below n s in elim (cases_eq r n) [
  | inl e ↦ let q = ap (λ (x : ℕ). length (below x s)) e in let b : s / 2 ^ n % 2 ≡ 1 = subst (In s) e k in omega arith
  | inr ne ↦ let q = rank_lt n s r (omega arith) k in omega arith
]

-- a member stands after those below it
at_rank : (n s r d : ℕ) → r < n → In s r → get_or (below n s) (length (below r s)) d ≡ r
unfolding below
at_rank zero s r d h k = absurd (omega arith)
at_rank (suc n) s r d h k = elim (cases_eq r n) [
  | inl e ↦ get_or-append_right (below n s) (cond (eqb (s / 2 ^ n % 2) 1) (n ∷ []) []) (length (below n s)) (length (below r s)) d refl (le_of_eq (ap (λ (x : ℕ). length (below x s)) (sym e)))
      ∙ tail_at s n (length (below r s) - length (below n s)) d (subst (In s) e k) (zero_of_eq (ap (λ (x : ℕ). length (below x s)) e)) ∙ sym e
  | inr ne ↦ get_or_append_left (below n s) (cond (eqb (s / 2 ^ n % 2) 1) (n ∷ []) []) d (length (below r s)) (rank_lt n s r (omega arith) k) ∙ at_rank n s r d (omega arith) k
]
  where
    le_of_eq : {a b : ℕ} → a ≡ b → a ≤ b
    le_of_eq e = omega arith

    zero_of_eq : {a b : ℕ} → a ≡ b → a - b ≡ 0
    zero_of_eq e = omega arith

pub nth_is : (s r place : ℕ) → r < 64 → In s r → place ≡ length (below r s) → Some r ≡ slice_get (members s) place
unfolding members
nth_is s r place h k e =
    let is : get_or (below 64 s) place 0 ≡ r = ap (λ (x : ℕ). get_or (below 64 s) x 0) e ∙ at_rank 64 s r 0 h k in
    let lt : place < length (below 64 s) = omega (arith, rank_lt 64 s r h k) in
    ap Some (sym is) ∙ sym (slice_get-get_or (below 64 s) place 0 lt)

pub at_end : (n s : ℕ) → n ≡ 64 → length (below n s) ≡ size s
unfolding members
at_end n s e = ap (λ (x : ℕ). length (below x s)) e
