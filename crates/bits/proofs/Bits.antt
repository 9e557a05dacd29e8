-- Bits of a mask: what is there after a place is taken out, or a rule marked. Assumes nothing.
use Rattle.std.proofs.Common.{◌≡◌, ℕ, zero, suc, ◌+◌, ◌-◌, ◌*◌, ◌/◌, ◌%◌, ◌^◌, ◌<◌, ◌≤◌, ◌≢◌, ◌⊎◌, sym, refl, ap, ◌∙◌, ap₂, inl, inr, ⊎_elim, mul-le-mul_right, one-mul, pow-suc, div-mul-le_self, arith, pow_pos, pow-add, pow_mono}
use native.Mathlib.Nat.{div-eq_of_lt, div_self, mul-div_cancel_left, mul-mod_left}
use lib.Bits.{bit_and, bit_or, bit_xor, xor_shr, xor_mod, or_shr, or_mod, or_zero_r, and_shr, and_mod, and_high, xor_add_and}
use lib.Pow.{pow-lt}
use Rattle.std.proofs.lemmas.Bool.{cases_eq, cases_lt, cases_order}
use Rattle.bits.specs.Sets.{In, Subset}

-- the bits of a power
pub pow_same : (v : ℕ) → 2 ^ v / 2 ^ v % 2 ≡ 1
pow_same v = ap (λ (x : ℕ). x % 2) (div_self (pow_pos v))

pow_above : (w k : ℕ) → 2 ^ (w + suc k) / 2 ^ w % 2 ≡ 0
pow_above w k =
    ap (λ (x : ℕ). x / 2 ^ w % 2) (pow-add 2 w (suc k)) ∙ ap (λ (x : ℕ). x % 2) (mul-div_cancel_left (2 ^ suc k) (pow_pos w))
    ∙ ap (λ (x : ℕ). x % 2) (pow-suc 2 k) ∙ mul-mod_left (2 ^ k) 2

pub pow_other : (v w : ℕ) → w ≢ v → 2 ^ v / 2 ^ w % 2 ≡ 0
pow_other v w ne = elim (cases_order w v) [
  | inl e ↦ absurd (ne e)
  | inr o ↦ elim o [
    | inl lt ↦ let e : v ≡ w + suc (v - suc w) = omega arith in ap (λ (x : ℕ). 2 ^ x / 2 ^ w % 2) e ∙ pow_above w (v - suc w)
    | inr gt ↦ ap (λ (x : ℕ). x % 2) (div-eq_of_lt (pow-lt gt))
  ]
]

pub has_pow : (v w : ℕ) → In (2 ^ v) w → w ≡ v
has_pow v w h = elim (cases_eq w v) [ inl e ↦ e | inr ne ↦ absurd (omega (arith, h, pow_other v w ne)) ]

xor_bit : (s p w : ℕ) → bit_xor s p / 2 ^ w % 2 ≡ bit_xor (s / 2 ^ w % 2) (p / 2 ^ w % 2)
xor_bit s p w = ap (λ (x : ℕ). x % 2) (xor_shr s p w) ∙ xor_mod (s / 2 ^ w) (p / 2 ^ w) 1

pub has_le : (s v : ℕ) → In s v → 2 ^ v ≤ s
has_le s v h =
    let q : 1 ≤ s / 2 ^ v = omega arith in
    let a : 1 * 2 ^ v ≤ s / 2 ^ v * 2 ^ v = mul-le-mul_right (2 ^ v) q in
    omega (arith, a, div-mul-le_self s (2 ^ v), one-mul (2 ^ v))

-- taking a bit out is an exclusive or
out_xor : (s v : ℕ) → In s v → s - 2 ^ v ≡ bit_xor s (2 ^ v)
out_xor s v h =
    let p : 2 ^ (1 + v) - 2 ^ v ≡ 2 ^ v = omega (arith, pow-add 2 1 v) in
    let a : bit_and s (2 ^ v) ≡ 2 ^ v = ap (bit_and s) (sym p) ∙ and_high s 1 v ∙ ap (λ (x : ℕ). x * 2 ^ v) h ∙ one-mul (2 ^ v) in
    omega (arith, a, xor_add_and s (2 ^ v), has_le s v h)

pub out_same : (s v : ℕ) → In s v → In (s - 2 ^ v) v → ⊥
out_same s v h k =
    let e : (s - 2 ^ v) / 2 ^ v % 2 ≡ 0 =
    ap (λ (x : ℕ). x / 2 ^ v % 2) (out_xor s v h) ∙ xor_bit s (2 ^ v) v ∙ ap₂ bit_xor h (pow_same v) in
    omega arith

pub out_other : (s v w : ℕ) → In s v → w ≢ v → (s - 2 ^ v) / 2 ^ w % 2 ≡ s / 2 ^ w % 2
out_other s v w h ne =
    ap (λ (x : ℕ). x / 2 ^ w % 2) (out_xor s v h) ∙ xor_bit s (2 ^ v) w ∙ ap (bit_xor (s / 2 ^ w % 2)) (pow_other v w ne) ∙ lib.Bits.xor_zero_r (s / 2 ^ w % 2)

-- what is in either
pub or_bit : (s p w : ℕ) → bit_or s p / 2 ^ w % 2 ≡ bit_or (s / 2 ^ w % 2) (p / 2 ^ w % 2)
or_bit s p w = ap (λ (x : ℕ). x % 2) (or_shr s p w) ∙ or_mod (s / 2 ^ w) (p / 2 ^ w) 1

or_is : (x y : ℕ) → x < 2 → y < 2 → bit_or x y ≡ 1 → (x ≡ 1) ⊎ (y ≡ 1)
or_is zero zero hx hy e = absurd (omega arith)
or_is zero (suc zero) hx hy e = inr refl
or_is (suc zero) y hx hy e = inl refl
or_is zero (suc (suc y)) hx hy e = absurd (omega arith)
or_is (suc (suc x)) y hx hy e = absurd (omega arith)

pub or_has : (a b r : ℕ) → In (bit_or a b) r → In a r ⊎ In b r
or_has a b r h = or_is (a / 2 ^ r % 2) (b / 2 ^ r % 2) (omega arith) (omega arith) (sym (or_bit a b r) ∙ h)

one_or : (x : ℕ) → x < 2 → bit_or 1 x ≡ 1
one_or zero h = refl
one_or (suc zero) h = refl
one_or (suc (suc x)) h = absurd (omega arith)

or_one : (x : ℕ) → x < 2 → bit_or x 1 ≡ 1
or_one zero h = refl
or_one (suc zero) h = refl
or_one (suc (suc x)) h = absurd (omega arith)

pub has_left : (a b r : ℕ) → In a r → In (bit_or a b) r
has_left a b r h = or_bit a b r ∙ ap (λ (x : ℕ). bit_or x (b / 2 ^ r % 2)) h ∙ one_or (b / 2 ^ r % 2) (omega arith)

pub has_right : (a b r : ℕ) → In b r → In (bit_or a b) r
has_right a b r h = or_bit a b r ∙ ap (bit_or (a / 2 ^ r % 2)) h ∙ or_one (a / 2 ^ r % 2) (omega arith)

pub or_subset : (a b c : ℕ) → Subset a c → Subset b c → Subset (bit_or a b) c
or_subset a b c f g r h = ⊎_elim (f r) (g r) (or_has a b r h)

pub or_mono : (a b c : ℕ) → Subset b c → Subset (bit_or a b) (bit_or a c)
or_mono a b c f r h = ⊎_elim (has_left a c r) (λ k. has_right a c r (f r k)) (or_has a b r h)

-- marking
pub mark_same : (s v : ℕ) → In (bit_or s (2 ^ v)) v
mark_same s v = has_right s (2 ^ v) v (pow_same v)

pub mark_more : (s v w : ℕ) → In s w → In (bit_or s (2 ^ v)) w
mark_more s v w = has_left s (2 ^ v) w

pub mark_only : (s v w : ℕ) → In (bit_or s (2 ^ v)) w → In s w ⊎ (w ≡ v)
mark_only s v w h = ⊎_elim inl (λ k. inr (has_pow v w k)) (or_has s (2 ^ v) w h)

pub mark_other : (s v w : ℕ) → w ≢ v → bit_or s (2 ^ v) / 2 ^ w % 2 ≡ s / 2 ^ w % 2
mark_other s v w ne = or_bit s (2 ^ v) w ∙ ap (bit_or (s / 2 ^ w % 2)) (pow_other v w ne) ∙ or_zero_r (s / 2 ^ w % 2)

-- what is in both
and_bit : (s p w : ℕ) → bit_and s p / 2 ^ w % 2 ≡ bit_and (s / 2 ^ w % 2) (p / 2 ^ w % 2)
and_bit s p w = ap (λ (x : ℕ). x % 2) (and_shr s p w) ∙ and_mod (s / 2 ^ w) (p / 2 ^ w) 1

pub and_has : (s p w : ℕ) → In (bit_and s p) w → In s w × In p w
and_has s p w h = go (s / 2 ^ w % 2) (p / 2 ^ w % 2) (omega arith) (omega arith) (sym (and_bit s p w) ∙ h)
  where
    go : (x y : ℕ) → x < 2 → y < 2 → bit_and x y ≡ 1 → (x ≡ 1) × (y ≡ 1)
    go zero zero h k e = absurd (omega arith)
    go zero (suc zero) h k e = absurd (omega arith)
    go (suc zero) zero h k e = absurd (omega arith)
    go (suc zero) (suc zero) h k e = (refl, refl)
    go (suc (suc x)) y h k e = absurd (omega arith)
    go zero (suc (suc y)) h k e = absurd (omega arith)
    go (suc zero) (suc (suc y)) h k e = absurd (omega arith)

pub has_and : (s p w : ℕ) → In s w → In p w → In (bit_and s p) w
has_and s p w h k = and_bit s p w ∙ ap₂ bit_and h k

pub has_zero : (v : ℕ) → In 0 v → ⊥
has_zero v h = let e : 0 / 2 ^ v ≡ 0 = div-eq_of_lt (pow_pos v) in omega arith

-- a number below 2 ^ n has nothing from n on
pub in_below : (s n v : ℕ) → s < 2 ^ n → In s v → v < n
in_below s n v h k = elim (cases_lt v n) [ inl lt ↦ lt | inr ge ↦ absurd (let a = has_le s v k in let p : 2 ^ n ≤ 2 ^ v = pow_mono ge in omega arith) ]
