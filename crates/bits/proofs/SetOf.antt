-- The set of some numbers. Assumes nothing.
use Rattle.std.proofs.Common.{◌≡◌, ℕ, zero, suc, ◌+◌, ◌-◌, ◌^◌, ◌<◌, ◌≤◌, List, [], ◌∷◌, ◌++◌, length, get_or, take, sym, refl, ap, ◌∙◌, subst, inl, inr, ⊎_elim, arith}
use lib.Bits.{bit_or}
use Rattle.std.proofs.lemmas.Bool.{cases_eq}
use Rattle.std.proofs.lemmas.List.{take_all, take-append-le, length_push, length-take, get_or-take}
use Rattle.bits.specs.Sets.{In, Subset, below, members, set_of}
use Rattle.bits.proofs.Bits.{has_zero, has_pow, has_left, has_right, or_has, or_subset, mark_same, pow_same, in_below}
use Rattle.bits.proofs.Same.{set_ext}
use Rattle.bits.proofs.Members.{has_below, member_has, below_with, below_without}

pub set_has : (xs : List ℕ) (r : ℕ) → In (set_of xs) r → (i : ℕ) × (i < length xs) × (get_or xs i 0 ≡ r)
unfolding set_of
set_has [] r h = absurd (has_zero r h)
set_has (x ∷ xs) r h = ⊎_elim
    (λ k. let q = set_has xs r k in (suc q.0, omega (arith, q.1), q.2))
    (λ k. (0, omega arith, sym (has_pow x r k)))
    (or_has (set_of xs) (2 ^ x) r h)

pub has_set : (xs : List ℕ) (i : ℕ) → i < length xs → In (set_of xs) (get_or xs i 0)
unfolding set_of
has_set [] i h = absurd (omega arith)
has_set (x ∷ xs) zero h = mark_same (set_of xs) x
has_set (x ∷ xs) (suc i) h = has_left (set_of xs) (2 ^ x) (get_or xs i 0) (has_set xs i (omega arith))

pub set_empty : (r : ℕ) → In (set_of []) r → ⊥
unfolding set_of
set_empty r h = has_zero r h

-- the first numbers of a list are among its first ones
pub first_has : (n : ℕ) (xs : List ℕ) (r : ℕ) → In (set_of (take n xs)) r → (i : ℕ) × (i < n) × (i < length xs) × (get_or xs i 0 ≡ r)
first_has n xs r h =
    let q = set_has (take n xs) r h in
    let lt : q.0 < n = omega (arith, q.1, length-take n xs) in
    (q.0, lt, omega (arith, q.1, length-take n xs), sym (get_or-take n xs q.0 0 lt) ∙ q.2)

pub has_first : (n : ℕ) (xs : List ℕ) (i : ℕ) → i < n → i < length xs → In (set_of (take n xs)) (get_or xs i 0)
has_first n xs i h k = subst (In (set_of (take n xs))) (get_or-take n xs i 0 h) (has_set (take n xs) i (omega (arith, length-take n xs)))

pub first_mono : (m n : ℕ) (xs : List ℕ) → m ≤ n → Subset (set_of (take m xs)) (set_of (take n xs))
first_mono m n xs le r h =
    let q = first_has m xs r h in
    let i : q.0 < n = omega (arith, q.1) in
    subst (In (set_of (take n xs))) q.3 (has_first n xs q.0 i q.2)

-- one more: the first j are the first j - 1 and the one after them
pub first_more : (j : ℕ) (xs : List ℕ) → 1 ≤ j → j ≤ length xs → Subset (set_of (take j xs)) (bit_or (set_of (take (j - 1) xs)) (2 ^ get_or xs (j - 1) 0))
first_more j xs h k r p =
    let q = first_has j xs r p in
    elim (cases_eq q.0 (j - 1)) [
      | inl e ↦ has_right (set_of (take (j - 1) xs)) (2 ^ get_or xs (j - 1) 0) r (subst (λ (x : ℕ). In (2 ^ get_or xs x 0) r) e (subst (λ (x : ℕ). In (2 ^ x) r) (sym q.3) (pow_same r)))
      | inr ne ↦ has_left (set_of (take (j - 1) xs)) (2 ^ get_or xs (j - 1) 0) r
          (let lt : q.0 < j - 1 = omega (arith, q.1) in subst (In (set_of (take (j - 1) xs))) q.3 (has_first (j - 1) xs q.0 lt q.2))
    ]

-- one more number at the end
pub set_push : (xs : List ℕ) (r : ℕ) → set_of (xs ++ r ∷ []) ≡ bit_or (set_of xs) (2 ^ r)
unfolding set_of
set_push [] r = refl
set_push (x ∷ xs) r = ap (λ (a : ℕ). bit_or a (2 ^ x)) (set_push xs r) ∙ set_ext (bit_or (bit_or (set_of xs) (2 ^ r)) (2 ^ x)) (bit_or (bit_or (set_of xs) (2 ^ x)) (2 ^ r))
    (swap (set_of xs) (2 ^ r) (2 ^ x)) (swap (set_of xs) (2 ^ x) (2 ^ r))
  where
    swap : (a b c : ℕ) → Subset (bit_or (bit_or a b) c) (bit_or (bit_or a c) b)
    swap a b c = or_subset (bit_or a b) c (bit_or (bit_or a c) b)
        (or_subset a b (bit_or (bit_or a c) b) (λ q h. has_left (bit_or a c) b q (has_left a c q h)) (λ q h. has_right (bit_or a c) b q h))
        (λ q h. has_left (bit_or a c) b q (has_right a c q h))

-- ---- the set of a set's members is the set
pub members_subset : (s : ℕ) → Subset (set_of (members s)) s
members_subset s r h = let q = set_has (members s) r h in subst (In s) q.2 (member_has s q.0 q.1).0

pub subset_members : (s : ℕ) → s < 2 ^ 64 → Subset s (set_of (members s))
unfolding members
subset_members s h r k =
    let q = has_below 64 s r (in_below s 64 r h k) k in
    subst (In (set_of (members s))) q.2 (has_set (members s) q.0 q.1)

-- ---- the set of the first members of a set, member by member
pub first_step_in : (n s many : ℕ) → In s n → length (below n s) < many → set_of (take many (below (n + 1) s)) ≡ bit_or (set_of (take many (below n s))) (2 ^ n)
first_step_in n s many e h =
    let p : length (below n s ++ n ∷ []) ≤ many = let q = length_push (below n s) n in omega arith in
    ap (λ (x : List ℕ). set_of (take many x)) (below_with n s e) ∙ ap set_of (take_all many (below n s ++ n ∷ []) p) ∙ set_push (below n s) n
    ∙ ap (λ (x : List ℕ). bit_or (set_of x) (2 ^ n)) (sym (take_all many (below n s) (omega arith)))

pub first_step_past : (n s many : ℕ) → In s n → many ≤ length (below n s) → set_of (take many (below (n + 1) s)) ≡ set_of (take many (below n s))
first_step_past n s many e h = ap (λ (x : List ℕ). set_of (take many x)) (below_with n s e) ∙ ap set_of (take-append-le many (below n s) (n ∷ []) h)

pub first_step_off : (n s many : ℕ) → (In s n → ⊥) → set_of (take many (below (n + 1) s)) ≡ set_of (take many (below n s))
first_step_off n s many e = ap (λ (x : List ℕ). set_of (take many x)) (below_without n s e)

pub first_end : (n s many : ℕ) → n ≡ 64 → set_of (take many (below n s)) ≡ set_of (take many (members s))
unfolding members
first_end n s many e = ap (λ (x : ℕ). set_of (take many (below x s))) e

pub first_begin : (s many : ℕ) → 0 ≡ set_of (take many (below 0 s))
unfolding set_of below
first_begin s zero = refl
first_begin s (suc n) = refl
