-- How many members a set has. Assumes nothing.
use Rattle.std.proofs.Common.{◌≡◌, ℕ, zero, suc, ◌+◌, ◌*◌, ◌/◌, ◌%◌, ◌^◌, ◌<◌, ◌≤◌, ◌≢◌, Bool, true, false, cond, List, [], ◌∷◌, ◌++◌, length, sym, refl, ap, ◌∙◌, subst, inl, inr, pow-suc, arith, length-append}
use lib.Bits.{bit_or}
use lib.Count.{ones, ones_in, ones_step}
use Rattle.std.proofs.lemmas.Bool.{cases_eq, eq-eqb, ne_eqb, false≢true, true≢false}
use Rattle.bits.specs.Sets.{In, in?, below, members, size}
use Rattle.bits.proofs.Bits.{has_zero, pow_other, mark_same, mark_other}
use Rattle.bits.proofs.Low.{bit_half, bit_first, low_trailing}

-- members below n, one more
push_yes : (b : Bool) (xs : List ℕ) (n : ℕ) → b ≡ true → length (xs ++ cond b (n ∷ []) []) ≡ length xs + 1
push_yes true xs n e = length-append xs (n ∷ [])
push_yes false xs n e = absurd (false≢true e)

push_no : (b : Bool) (xs : List ℕ) (n : ℕ) → b ≡ false → length (xs ++ cond b (n ∷ []) []) ≡ length xs
push_no false xs n e = length-append xs [] ∙ omega arith
push_no true xs n e = absurd (true≢false e)

pub below_yes : (n s : ℕ) → In s n → length (below (suc n) s) ≡ length (below n s) + 1
unfolding below
below_yes n s h = push_yes (in? s n) (below n s) n (eq-eqb (s / 2 ^ n % 2) 1 h)

pub below_no : (n s : ℕ) → (In s n → ⊥) → length (below (suc n) s) ≡ length (below n s)
unfolding below
below_no n s h = push_no (in? s n) (below n s) n (ne_eqb (s / 2 ^ n % 2) 1 h)

pub below_zero : (s : ℕ) → length (below 0 s) ≡ 0
unfolding below
below_zero s = refl

below_le : (n s : ℕ) → length (below n s) ≤ n
below_le zero s = omega (arith, below_zero s)
below_le (suc n) s = elim (cases_eq (s / 2 ^ n % 2) 1) [
  | inl e ↦ omega (arith, below_yes n s e, below_le n s)
  | inr ne ↦ omega (arith, below_no n s ne, below_le n s)
]

pub some_below : (n s v : ℕ) → v < n → In s v → 1 ≤ length (below n s)
some_below zero s v l h = absurd (omega arith)
some_below (suc n) s v l h = elim (cases_eq (s / 2 ^ n % 2) 1) [
  | inl e ↦ omega (arith, below_yes n s e)
  | inr ne ↦
      elim (cases_eq v n) [ inl q ↦ absurd (ne (subst (λ (x : ℕ). In s x) q h)) | inr d ↦ omega (arith, below_no n s ne, some_below n s v (omega arith) h) ]
]

pub length_below : (n s : ℕ) → length (below (suc n) s) ≡ length (below n s) + s / 2 ^ n % 2
length_below n s = elim (cases_eq (s / 2 ^ n % 2) 1) [ inl e ↦ omega (arith, below_yes n s e) | inr ne ↦ omega (arith, below_no n s ne) ]

-- more members where there is more
pub below_sub : (n t s : ℕ) → ((v : ℕ) → v < n → In t v → In s v) → length (below n t) ≤ length (below n s)
below_sub zero t s h = omega (arith, below_zero t)
below_sub (suc n) t s h =
    let ih = below_sub n t s (λ v l k. h v (omega arith) k) in
    elim (cases_eq (t / 2 ^ n % 2) 1) [
      | inl e ↦ omega (arith, below_yes n t e, below_yes n s (h n (omega arith) e))
      | inr ne ↦ elim (cases_eq (s / 2 ^ n % 2) 1) [
        | inl e ↦ omega (arith, below_no n t ne, below_yes n s e)
        | inr ne' ↦ omega (arith, below_no n t ne, below_no n s ne')
      ]
    ]

below_none : (n s : ℕ) → ((v : ℕ) → v < n → In s v → ⊥) → length (below n s) ≡ 0
below_none zero s h = below_zero s
below_none (suc n) s h = below_no n s (h n (omega arith)) ∙ below_none n s (λ v l. h v (omega arith))

below_one : (n s v : ℕ) → ((w : ℕ) → w < n → In s w → w ≡ v) → length (below n s) ≤ 1
below_one zero s v h = omega (arith, below_zero s)
below_one (suc n) s v h = elim (cases_eq (s / 2 ^ n % 2) 1) [
  | inl e ↦
      let same : n ≡ v = h n (omega arith) e in
      let none = below_none n s (λ w l k. let q : w ≡ v = h w (omega arith) k in omega arith) in
      omega (arith, below_yes n s e)
  | inr ne ↦ omega (arith, below_no n s ne, below_one n s v (λ w l. h w (omega arith)))
]

two_below : (n s v w : ℕ) → v < w → w < n → In s v → In s w → 2 ≤ length (below n s)
two_below zero s v w l m h k = absurd (omega arith)
two_below (suc n) s v w l m h k = elim (cases_eq w n) [
  | inl q ↦ omega (arith, below_yes n s (subst (λ (x : ℕ). In s x) q k), some_below n s v (omega arith) h)
  | inr d ↦
      let ih = two_below n s v w l (omega arith) h k in
      elim (cases_eq (s / 2 ^ n % 2) 1) [ inl e ↦ omega (arith, below_yes n s e) | inr ne ↦ omega (arith, below_no n s ne) ]
]

below_some : (n s : ℕ) → 1 ≤ length (below n s) → (v : ℕ) × (v < n) × In s v
below_some zero s h = absurd (omega (arith, below_zero s))
below_some (suc n) s h = elim (cases_eq (s / 2 ^ n % 2) 1) [
  | inl e ↦ (n, omega arith, e)
  | inr ne ↦ let p = below_some n s (omega (arith, below_no n s ne)) in (p.0, omega (arith, p.1), p.2)
]

-- two members
pub record Two (s : ℕ) : Type 0 where
  pub one : ℕ
  pub two : ℕ
  pub differ : one < two
  pub small : two < 64
  pub first : In s one
  pub second : In s two

below_two : (n s : ℕ) → n ≤ 64 → 2 ≤ length (below n s) → Two s
below_two zero s b h = absurd (omega (arith, below_zero s))
below_two (suc n) s b h = elim (cases_eq (s / 2 ^ n % 2) 1) [
  | inl e ↦
      let p = below_some n s (omega (arith, below_yes n s e)) in
      record { one = p.0; two = n; differ = p.1; small = omega arith; first = p.2; second = e }
  | inr ne ↦ below_two n s (omega arith) (omega (arith, below_no n s ne))
]

-- the size of a set
pub size_le : (s : ℕ) → size s ≤ 64
unfolding members
size_le s = below_le 64 s

pub some_size : (s v : ℕ) → v < 64 → In s v → 1 ≤ size s
unfolding members
some_size s v l h = some_below 64 s v l h

pub size_sub : (t s : ℕ) → ((v : ℕ) → v < 64 → In t v → In s v) → size t ≤ size s
unfolding members
size_sub t s h = below_sub 64 t s h

pub size_pow : (v : ℕ) → size (2 ^ v) ≤ 1
unfolding members
size_pow v =
    below_one 64 (2 ^ v) v (λ w l k. elim (cases_eq w v) [
      | inl e ↦ e
      | inr ne ↦ absurd (let z = pow_other v w ne in omega arith)
    ])

pub size_two : (s : ℕ) → 1 < size s → Two s
unfolding members
size_two s h = below_two 64 s (omega arith) (omega arith)

pub two_size : (s v w : ℕ) → v < w → w < 64 → In s v → In s w → 1 < size s
unfolding members
two_size s v w l m h k = omega (arith, two_below 64 s v w l m h k)

pub size_zero : size 0 ≡ 0
unfolding members
size_zero = below_none 64 0 (λ v l h. has_zero v h)

-- some member, if not none
pub some_of : (s : ℕ) → (((v : ℕ) → v < 64 → In s v → ⊥) → ⊥) → (v : ℕ) × (v < 64) × In s v
some_of s h = elim (cases_eq (length (below 64 s)) 0) [
  | inl e ↦ absurd (h (λ v l k. omega (arith, some_below 64 s v l k)))
  | inr ne ↦ below_some 64 s (omega arith)
]

pub not_zero : (s : ℕ) → s < 2 ^ 64 → s ≢ 0 → ((v : ℕ) → v < 64 → In s v → ⊥) → ⊥
not_zero s l ne h = let p = low_trailing 64 s l ne in h _ p.1 p.0.there

-- one more member is one more
below_same_to : (n s r : ℕ) → n ≤ r → length (below n (bit_or s (2 ^ r))) ≡ length (below n s)
below_same_to zero s r h = below_zero (bit_or s (2 ^ r)) ∙ sym (below_zero s)
below_same_to (suc n) s r h =
    let p = length_below n (bit_or s (2 ^ r)) in
    let q = length_below n s in
    let i = below_same_to n s r (omega arith) in
    let j = mark_other s r n (omega arith) in omega arith

below_add : (n s r : ℕ) → r < n → ¬ In s r → length (below n (bit_or s (2 ^ r))) ≡ length (below n s) + 1
below_add zero s r h out = absurd (omega arith)
below_add (suc n) s r h out =
    let p = length_below n (bit_or s (2 ^ r)) in
    let q = length_below n s in
    elim (cases_eq r n) [
      | inl e ↦ let i = below_same_to n s r (omega arith) in
          let k : bit_or s (2 ^ r) / 2 ^ n % 2 ≡ 1 = subst (In (bit_or s (2 ^ r))) e (mark_same s r) in
          let z : s / 2 ^ n % 2 ≡ 1 → ⊥ = λ y. out (subst (In s) (sym e) y) in omega arith
      | inr ne ↦ let i = below_add n s r (omega arith) out in
          let j = mark_other s r n (λ x. ne (sym x)) in omega arith
    ]

pub size_add : (s r : ℕ) → r < 64 → ¬ In s r → size (bit_or s (2 ^ r)) ≡ size s + 1
unfolding members
size_add s r h out = below_add 64 s r h out

-- as the machine counts
below_half : (n s : ℕ) → length (below (suc n) s) ≡ s % 2 + length (below n (s / 2))
below_half zero s = elim (cases_eq (s / 2 ^ 0 % 2) 1) [
  | inl e ↦ omega (arith, below_yes 0 s e, below_zero s, below_zero (s / 2), bit_first s)
  | inr ne ↦ omega (arith, below_no 0 s ne, below_zero s, below_zero (s / 2), bit_first s)
]
below_half (suc n) s =
    let ih = below_half n s in
    elim (cases_eq (s / 2 / 2 ^ n % 2) 1) [
      | inl e ↦ omega (arith, below_yes (suc n) s (bit_half s n ∙ e), below_yes n (s / 2) e)
      | inr ne ↦ omega (arith, below_no (suc n) s (λ k. ne (sym (bit_half s n) ∙ k)), below_no n (s / 2) ne)
    ]

ones_zero : ones 0 ≡ 0
unfolding ones ones_in
ones_zero = refl

ones_below : (n s : ℕ) → s < 2 ^ n → ones s ≡ length (below n s)
ones_below zero s h = let z : s ≡ 0 = omega arith in ap ones z ∙ ones_zero ∙ sym (below_zero s)
ones_below (suc n) s h =
    let p : s < 2 ^ n * 2 = rw (pow-suc 2 n) at h in
    let ih = ones_below n (s / 2) (omega arith) in
    omega (arith, ones_step s, below_half n s)

pub ones_size : (s : ℕ) → s < 2 ^ 64 → ones s ≡ size s
unfolding members
ones_size s h = ones_below 64 s h
