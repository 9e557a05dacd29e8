-- The loops before and after the runs of a Fit: one more rule that is on, and one more byte of the filling. Assumes nothing.
use Rattle.std.proofs.Common.{◌≡◌, ℕ, ◌+◌, ◌^◌, ◌<◌, Bool, true, false, cond, List, [], ◌∷◌, ◌++◌, length, get_or, drop, set, filter, sym, refl, ap, ◌∙◌, subst, inl, inr, arith}
use lib.Bits.{bit_or}
use Rattle.std.specs.List.{range_with_len}
use Rattle.std.proofs.lemmas.List.Elements.{filter-append}
use Rattle.std.proofs.lemmas.List.{append-nil, drop-set-lt, get_or-set_same, get_or-set_other}
use Rattle.std.proofs.lemmas.Bool.{cases_eq}
use Rattle.bits.specs.Sets.{set_of}
use Rattle.bits.proofs.Lists.{range_push}
use Rattle.bits.proofs.SetOf.{set_push}
use Rattle.calls.specs.History.{set_where}
use Rattle.session.specs.Pins.{LowestByte}

where_push : (p : ℕ → Bool) (n : ℕ) → set_where p (n + 1) ≡ set_of (filter p (range_with_len 0 n) ++ cond (p n) (n ∷ []) [])
where_push p n = ap (λ (xs : List ℕ). set_of (filter p xs)) (range_push n) ∙ ap set_of (filter-append p (range_with_len 0 n) (n ∷ []))

pub where_on : (p : ℕ → Bool) (n : ℕ) → p n ≡ true → set_where p (n + 1) ≡ bit_or (set_where p n) (2 ^ n)
where_on p n e = where_push p n ∙ ap (λ (b : Bool). set_of (filter p (range_with_len 0 n) ++ cond b (n ∷ []) [])) e ∙ set_push (filter p (range_with_len 0 n)) n

pub where_off : (p : ℕ → Bool) (n : ℕ) → p n ≡ false → set_where p (n + 1) ≡ set_where p n
where_off p n e = where_push p n ∙ ap (λ (b : Bool). set_of (filter p (range_with_len 0 n) ++ cond b (n ∷ []) [])) e ∙ ap set_of (append-nil (filter p (range_with_len 0 n)))

pub where_none : (p : ℕ → Bool) → 0 ≡ set_where p 0
unfolding set_of
where_none p = refl

-- one more byte
pub lowest_more : (sets filling filling₀ : List ℕ) (n v : ℕ) → n < length sets → n < length filling → LowestByte (get_or sets n 0) v
    → ((k : ℕ) → k < n → LowestByte (get_or sets k 0) (get_or filling k 0)) × (drop (length sets) filling ≡ drop (length sets) filling₀)
    → ((k : ℕ) → k < n + 1 → LowestByte (get_or sets k 0) (get_or (set filling n v) k 0)) × (drop (length sets) (set filling n v) ≡ drop (length sets) filling₀)
lowest_more sets filling filling₀ n v ls lf low i = (
  λ k lt. elim (cases_eq k n) [
    | inl e ↦ subst (λ (x : ℕ). LowestByte (get_or sets x 0) (get_or (set filling n v) x 0)) (sym e) (subst (LowestByte (get_or sets n 0)) (sym (get_or-set_same filling n v 0 lf)) low)
    | inr other ↦ subst (LowestByte (get_or sets k 0)) (sym (get_or-set_other filling n k v 0 other)) (i.0 k (omega arith))
  ],
  drop-set-lt (length sets) filling n v ls ∙ i.1,
)
