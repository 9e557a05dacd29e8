-- Sets with the same members, and subsets, as numbers. Assumes nothing.
use Rattle.std.proofs.Common.{◌≡◌, ℕ, zero, suc, ◌+◌, ◌*◌, ◌/◌, ◌%◌, ◌^◌, ◌<◌, ◌≤◌, ◌≢◌, length, sym, ap, ◌∙◌, ap₂, inl, inr, mul-le-mul_right, mod-eq_of_lt, pow-suc, one-add, arith}
use native.Mathlib.Nat.{mod-le}
use lib.Pow.{mod-pow-add}
use Rattle.std.proofs.lemmas.Bool.{cases_eq, cases_lt}
use Rattle.bits.specs.Sets.{Subset, below, members, size}
use Rattle.bits.proofs.Size.{length_below, below_sub}

bit_le : (a b n : ℕ) → Subset a b → a / 2 ^ n % 2 ≤ b / 2 ^ n % 2
bit_le a b n f = elim (cases_eq (a / 2 ^ n % 2) 1) [ inl e ↦ let k = f n e in omega arith | inr ne ↦ omega arith ]

mod_more : (a n : ℕ) → a % 2 ^ suc n ≡ a / 2 ^ n % 2 * 2 ^ n + a % 2 ^ n
mod_more a n = ap (λ (x : ℕ). a % 2 ^ x) (sym (one-add n)) ∙ mod-pow-add a 1 n

-- subsets of one size are equal
below_same : (n a b : ℕ) → Subset a b → length (below n b) ≤ length (below n a) → a % 2 ^ n ≡ b % 2 ^ n
below_same zero a b f h = omega arith
below_same (suc n) a b f h =
    let p = length_below n a in
    let q = length_below n b in
    let i = below_sub n a b (λ v l. f v) in
    let j = bit_le a b n f in
    let e : a / 2 ^ n % 2 ≡ b / 2 ^ n % 2 = omega arith in
    let k = below_same n a b f (omega arith) in
    mod_more a n ∙ ap₂ (λ (x y : ℕ). x * 2 ^ n + y) e k ∙ sym (mod_more b n)

pub size_lt : (a b : ℕ) → a < 2 ^ 64 → b < 2 ^ 64 → Subset a b → a ≢ b → size a < size b
unfolding members
size_lt a b ha hb f ne = elim (cases_lt (size a) (size b)) [
  | inl lt ↦ lt
  | inr ge ↦ absurd (ne (sym (mod-eq_of_lt ha) ∙ below_same 64 a b f ge ∙ mod-eq_of_lt hb))
]

-- a subset is no larger as a number
below_mod_le : (n a b : ℕ) → Subset a b → a % 2 ^ n ≤ b % 2 ^ n
below_mod_le zero a b f = omega arith
below_mod_le (suc n) a b f =
    let i = below_mod_le n a b f in
    let j = mul-le-mul_right (2 ^ n) (bit_le a b n f) in
    let p = mod_more a n in
    let q = mod_more b n in omega arith

below_pow : (n : ℕ) → n < 2 ^ n
below_pow zero = omega arith
below_pow (suc n) = let i = below_pow n in let e = pow-suc 2 n in omega arith

pub subset_small : (a b : ℕ) → Subset a b → b < 2 ^ 64 → a < 2 ^ 64
subset_small a b f h =
    let p = below_mod_le a a b f in
    let q = mod-eq_of_lt (below_pow a) in
    let m : b % 2 ^ a ≤ b = mod-le b (2 ^ a) in omega arith

same_bits : (a b : ℕ) → Subset a b → Subset b a → (n : ℕ) → a % 2 ^ n ≡ b % 2 ^ n
same_bits a b f g zero = omega arith
same_bits a b f g (suc n) =
    let i = same_bits a b f g n in
    let p = bit_le a b n f in
    let q = bit_le b a n g in
    let e : a / 2 ^ n % 2 ≡ b / 2 ^ n % 2 = omega arith in
    mod_more a n ∙ ap₂ (λ (x y : ℕ). x * 2 ^ n + y) e i ∙ sym (mod_more b n)

-- sets with the same members are equal
pub set_ext : (a b : ℕ) → Subset a b → Subset b a → a ≡ b
set_ext a b f g =
    let p = below_pow (a + b) in
    sym (mod-eq_of_lt (let q : a ≤ a + b = omega arith in omega arith)) ∙ same_bits a b f g (a + b) ∙ mod-eq_of_lt (let q : b ≤ a + b = omega arith in omega arith)
