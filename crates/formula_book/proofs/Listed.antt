-- Listed places, by position. Assumes nothing.
use Rattle.std.proofs.Common.{◌≡◌, ℕ, zero, suc, ◌<◌, true, ltb, List, [], ◌∷◌, length, get_or, Decides, refl, arith}
use Rattle.std.proofs.lemmas.Bool.{and_parts, and_from, ltb-true, lt-ltb, false≢true}
use Rattle.network.specs.Cells.{Listed as PlacesListed}
use Rattle.formula_book.specs.Formulas.{Lists, listed}

module _ (l : Lists) where
  -- each place is of its cell's list
  abbrev pub Listed : List ℕ → List ℕ → Type 0
  Listed cs row = (length row ≡ length cs) × PlacesListed l.lengths cs row

  listed_from : (cs row : List ℕ) → length row ≡ length cs → ((k : ℕ) → k < length cs → get_or row k 0 < get_or l.lengths (get_or cs k 0) 0) → listed l cs row ≡ true
  listed_from [] [] e h = refl
  listed_from [] (w ∷ row) e h = absurd (omega arith)
  listed_from (c ∷ cs) [] e h = absurd (omega arith)
  listed_from (c ∷ cs) (w ∷ row) e h = and_from (ltb w (get_or l.lengths c 0)) (listed l cs row) (lt-ltb w (get_or l.lengths c 0) (h 0 (omega arith))) (listed_from cs row (omega arith) (λ k q. h (suc k) (omega arith)))

  listed_each : (cs row : List ℕ) → listed l cs row ≡ true → Listed cs row
  listed_each [] [] e = (refl, λ k h. absurd (omega arith))
  listed_each [] (w ∷ row) e = absurd (false≢true e)
  listed_each (c ∷ cs) [] e = absurd (false≢true e)
  listed_each (c ∷ cs) (w ∷ row) e =
      let both = and_parts (ltb w (get_or l.lengths c 0)) (listed l cs row) e in
      let rest = listed_each cs row both.1 in
      (omega (arith, rest.0), each (ltb-true w (get_or l.lengths c 0) both.0) rest.1)
    where
      each : w < get_or l.lengths c 0 → ((k : ℕ) → k < length cs → get_or row k 0 < get_or l.lengths (get_or cs k 0) 0)
          → (k : ℕ) → k < suc (length cs) → get_or (w ∷ row) k 0 < get_or l.lengths (get_or (c ∷ cs) k 0) 0
      each first rest zero h = first
      each first rest (suc k) h = rest k (omega arith)

  pub listed_decides : (cs row : List ℕ) → Decides (listed l cs row) (Listed cs row)
  listed_decides cs row = (listed_each cs row, λ h. listed_from cs row h.0 h.1)
