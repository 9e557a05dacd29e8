-- The masks of allowed places. Assumes nothing.
use Rattle.std.proofs.Common.{◌≡◌, ℕ, zero, suc, ◌^◌, ◌<◌, ◌≤◌, List, [], ◌∷◌, length, get_or, set, sym, ap, ◌∙◌, subst, ⊎_elim, arith}
use lib.Bits.{bit_and}
use Rattle.std.proofs.lemmas.List.{get_or-set_same, get_or-set_other}
use Rattle.std.proofs.lemmas.Bool.{cases_eq, cases_lt}
use Rattle.bits.specs.Sets.{In}
use Rattle.bits.proofs.Bits.{pow_same, has_pow, and_has, has_and, has_zero}
use Rattle.network.specs.Tries.{Allows}

-- four numbers by their index
pub four : (a b c d : ℕ) (f : ℕ → ℕ) → a ≡ f 0 → b ≡ f 1 → c ≡ f 2 → d ≡ f 3 → (k : ℕ) → k < 4 → get_or (a ∷ b ∷ c ∷ d ∷ []) k 0 ≡ f k
four a b c d f p q r s zero h = p
four a b c d f p q r s (suc zero) h = q
four a b c d f p q r s (suc (suc zero)) h = r
four a b c d f p q r s (suc (suc (suc zero))) h = s
four a b c d f p q r s (suc (suc (suc (suc k)))) h = absurd (omega arith)

-- of a set, the place v alone: m is the mask of v, or empty where v is no place
module _ (s v m : ℕ) (one : v < 64 → m ≡ 2 ^ v) (none : 64 ≤ v → m ≡ 0) where
  kept : (w : ℕ) → (w < 64) × In (bit_and s m) w → ((w < 64) × In s w) × (w ≡ v)
  kept w a =
      let b = and_has s m w a.1 in
      ⊎_elim
      (λ low. ((a.0, b.0), has_pow v w (subst (λ x. In x w) (one low) b.1)))
      (λ high. absurd (has_zero w (subst (λ x. In x w) (none high) b.1)))
      (cases_lt v 64)

  keeps : (w : ℕ) → ((w < 64) × In s w) × (w ≡ v) → (w < 64) × In (bit_and s m) w
  keeps w a =
      let low : v < 64 = omega (arith, a.0.0, a.1) in
      (a.0.0, has_and s m w a.0.1 (subst (In m) (sym a.1) (subst (λ x. In x v) (sym (one low)) (pow_same v))))

module _ (cells : List ℕ) (i v : ℕ) (sets base : List ℕ) (m : ℕ) (one : v < 64 → m ≡ 2 ^ v) (none : 64 ≤ v → m ≡ 0)
    (long : length base ≡ 4) (here : i < 4) (is : (k : ℕ) → k < 4 → get_or base k 0 ≡ get_or sets (get_or cells k 0) 0) where
  pub masks_allow : Allows cells i v sets (set base i (bit_and (get_or base i 0) m))
  masks_allow k h w = ⊎_elim
      (λ e.
      let s : ℕ = get_or sets (get_or cells k 0) 0 in
      let at : get_or (set base i (bit_and (get_or base i 0) m)) k 0 ≡ bit_and s m =
      ap (λ x. get_or (set base i (bit_and (get_or base i 0) m)) x 0) e ∙ get_or-set_same base i (bit_and (get_or base i 0) m) 0 (omega arith)
      ∙ ap (λ x. bit_and x m) (ap (λ x. get_or base x 0) (sym e) ∙ is k h) in (
        (λ a. let b = kept s v m one none w (a.0, subst (λ x. In x w) at a.1) in (b.0, λ _. b.1)),
        (λ b. let a = keeps s v m one none w (b.0, b.1 e) in (a.0, subst (λ x. In x w) (sym at) a.1)),
      ))
      (λ ne.
      let at : get_or (set base i (bit_and (get_or base i 0) m)) k 0 ≡ get_or sets (get_or cells k 0) 0 =
      get_or-set_other base i k (bit_and (get_or base i 0) m) 0 ne ∙ is k h in (
        (λ a. ((a.0, subst (λ x. In x w) at a.1), λ e. absurd (ne e))),
        (λ b. (b.0.0, subst (λ x. In x w) (sym at) b.0.1)),
      ))
      (cases_eq k i)
