-- What holds of each item of a list, and of one that is added at its end. Assumes nothing.
use Rattle.std.proofs.Common.{◌≡◌, ℕ, ◌+◌, ◌<◌, List, [], ◌∷◌, ◌++◌, length, get_or, sym, ◌∙◌, subst, inl, inr, arith}
use Rattle.std.proofs.lemmas.List.{get_or_append_left, get_or_push}
use Rattle.std.proofs.lemmas.Bool.{cases_eq}

-- what held of each item holds of each with the one that was added
pub pushed : (P : ℕ → ℕ → Type 0) (xs : List ℕ) (x n : ℕ) → length xs ≡ n → ((c : ℕ) → c < n → P c (get_or xs c 0)) → P n x → (c : ℕ) → c < n + 1 → P c (get_or (xs ++ (x ∷ [])) c 0)
pushed P xs x n long each last c lt =
    elim (cases_eq c n) [
      | inl e ↦
          let at : get_or (xs ++ (x ∷ [])) c 0 ≡ x = get_or_push xs x 0 c (long ∙ sym e) in
          subst (P c) (sym at) (subst (λ k. P k x) (sym e) last)
      | inr other ↦ subst (P c) (sym (get_or_append_left xs (x ∷ []) 0 c (omega (arith, lt, other, long)))) (each c (omega (arith, lt, other)))
    ]
