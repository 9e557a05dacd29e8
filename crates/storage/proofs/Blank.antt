-- Stores that repeat one value. Assumes nothing.
use Rattle.std.proofs.Common.{◌≡◌, ℕ, List, [], ◌∷◌, length, replicate, ◌⊎◌, ⊎_elim, refl, sym, ◌∙◌, arith}
use Rattle.std.proofs.lemmas.List.{length-replicate, get_or-replicate, ext_get_or}
use Rattle.std.specs.Array.{AllOfLen}
use Rattle.std.specs.List.{AllByRecursion}

-- what is a value or its clones throughout, where a clone is the value, repeats it
pub blank : {X : Type 0} {Q : X → Type 0} (x : X) (xs : List X) → ((y : X) → Q y → y ≡ x) → AllByRecursion (λ y. (y ≡ x) ⊎ Q y) xs → xs ≡ replicate (length xs) x
blank x [] h all = refl
blank x (y ∷ ys) h (all, rest) = λ i. ⊎_elim (λ e. e) (λ q. h y q) all i ∷ blank x ys h rest i

-- an array of zeros
pub zeros : (n : ℕ) (xs : List ℕ) → AllOfLen (λ x. x ≡ 0) xs n → xs ≡ replicate n 0
zeros n xs all =
    ext_get_or 0 xs (replicate n 0) (all.long ∙ sym (length-replicate n 0))
    (λ k l. all.at k 0 (omega (arith, l, all.long)) ∙ sym (get_or-replicate n k 0 0 (omega (arith, l, all.long))))
