-- The lowest bit of a mask. Assumes nothing.
use Rattle.std.proofs.Common.{◌≡◌, ℕ, zero, suc, ◌*◌, ◌/◌, ◌%◌, ◌^◌, ◌<◌, ◌≢◌, sym, refl, ap, ◌∙◌, pow-suc, div-one, one-add, arith, shr-shr}
use lib.Count.{count_trailing_zeros, under}
use Rattle.bits.specs.Sets.{In, Lowest}

-- bit w + 1 of n is bit w of its half
pub bit_half : (n w : ℕ) → n / 2 ^ suc w % 2 ≡ n / 2 / 2 ^ w % 2
bit_half n w = ap (λ (x : ℕ). n / 2 ^ x % 2) (sym (one-add w)) ∙ ap (λ (x : ℕ). x % 2) (sym (shr-shr n 1 w))

pub bit_first : (n : ℕ) → n / 2 ^ 0 % 2 ≡ n % 2
bit_first n = ap (λ (x : ℕ). x % 2) (div-one n)

low_even : (n t : ℕ) → n % 2 ≡ 0 → Lowest (n / 2) t → Lowest n (suc t)
low_even n t e l = record { there = bit_half n t ∙ l.there; none = go }
  where
    go : (w : ℕ) → w < suc t → In n w → ⊥
    go zero h k = let p = bit_first n in omega arith
    go (suc w) h k = l.none w (omega arith) (sym (bit_half n w) ∙ k)

low_odd : (n : ℕ) → n % 2 ≡ 1 → Lowest n 0
low_odd n e = record { there = bit_first n ∙ e; none = λ w h k. omega arith }

pub low_trailing : (k n : ℕ) → n < 2 ^ k → n ≢ 0 → Lowest n (count_trailing_zeros k n) × (count_trailing_zeros k n < k)
unfolding count_trailing_zeros
low_trailing zero n h ne = absurd (ne (omega arith))
low_trailing (suc k) n h ne = go (n % 2) refl (λ l ne'. low_trailing k (n / 2) l ne')
  where
    go : (d : ℕ) → n % 2 ≡ d → (n / 2 < 2 ^ k → n / 2 ≢ 0 → Lowest (n / 2) (count_trailing_zeros k (n / 2)) × (count_trailing_zeros k (n / 2) < k))
        → Lowest n (under d (count_trailing_zeros k (n / 2))) × (under d (count_trailing_zeros k (n / 2)) < suc k)
    go zero e ih =
        let p : n < 2 ^ k * 2 = rw (pow-suc 2 k) at h in
        let l = ih (omega arith) (λ z. ne (omega arith)) in
        (low_even n (count_trailing_zeros k (n / 2)) e l.0, omega (arith, l.1))
    go (suc zero) e ih = (low_odd n e, omega arith)
    go (suc (suc d)) e ih = absurd (omega arith)
