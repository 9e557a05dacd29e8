-- The first numbers as a set. Assumes nothing.
use Rattle.std.proofs.Common.{◌≡◌, ℕ, suc, ◌+◌, ◌-◌, ◌/◌, ◌%◌, ◌^◌, ◌<◌, ◌≤◌, ◌↔◌, sym, ap, ◌∙◌, subst, ⊎_elim, pow-suc, arith, pow_pos, pow_mono}
use native.Mathlib.Nat.{div-eq_of_lt}
use lib.Pow.{ones_split, high, ones_lt}
use Rattle.std.proofs.lemmas.Bool.{cases_lt}
use Rattle.bits.specs.Sets.{In}

odd_ones : (j : ℕ) → (2 ^ suc j - 1) % 2 ≡ 1
odd_ones j = let e = pow-suc 2 j in let p = pow_pos j in omega arith

pub whole_has : (len v : ℕ) → v < len → In (2 ^ len - 1) v
whole_has len v lt =
    let e : len ≡ suc (len - v - 1) + v = omega arith in
    ap (λ (x : ℕ). (2 ^ x - 1) / 2 ^ v % 2) e ∙ ap (λ (x : ℕ). x / 2 ^ v % 2) (ones_split (suc (len - v - 1)) v) ∙ ap (λ (x : ℕ). x % 2) (high (2 ^ suc (len - v - 1) - 1) v (ones_lt v)) ∙ odd_ones (len - v - 1)

pub has_whole : (len v : ℕ) → In (2 ^ len - 1) v → v < len
has_whole len v h = ⊎_elim (λ lt. lt)
    (λ ge. absurd (let z : (2 ^ len - 1) / 2 ^ v ≡ 0 = div-eq_of_lt (let p = pow_pos len in let q : 2 ^ len ≤ 2 ^ v = pow_mono ge in omega arith) in omega arith)) (cases_lt v len)

-- of the numbers below 64, those of a set made by `first`
pub in_first : (many s v : ℕ) → (many < 64 → s ≡ 2 ^ many - 1) → (64 ≤ many → s ≡ 2 ^ 64 - 1) → v < 64 → In s v ↔ v < many
in_first many s v some all small = ⊎_elim
    (λ l. subst (λ x. In x v ↔ v < many) (sym (some l)) (has_whole many v, whole_has many v))
    (λ l. subst (λ x. In x v ↔ v < many) (sym (all l)) ((λ _. omega arith), (λ _. whole_has 64 v small)))
    (cases_lt many 64)
