-- Rows of one width, one after another. Assumes nothing.
use Rattle.std.proofs.Common.{◌≡◌, ℕ, zero, suc, ◌+◌, ◌*◌, ◌<◌, List, [], ◌∷◌, ◌++◌, length, get_or, take, drop, sym, ap, ◌∙◌, append_assoc, suc-mul, zero-mul, arith, length-append}
use Rattle.std.specs.List.{flat_map}
use Rattle.std.proofs.lemmas.List.{take_at, drop_at}

abbrev pub Wide : ℕ → List (List ℕ) → Type 0
Wide w rs = (i : ℕ) → i < length rs → length (get_or rs i []) ≡ w

abbrev pub run : List (List ℕ) → List ℕ
run rs = flat_map (λ row. row) rs

pub run_length : (w : ℕ) (rs : List (List ℕ)) → Wide w rs → length (run rs) ≡ length rs * w
run_length w [] h = sym (zero-mul w)
run_length w (r ∷ rs) h =
    length-append r (run rs)
    ∙ omega (arith, h 0 (omega arith), run_length w rs (λ i g. h (suc i) (omega arith)), suc-mul (length rs) w)

-- p stands before the rows, and m is its length
pub row_part : (w : ℕ) (rs : List (List ℕ)) (m : ℕ) (p q bytes : List ℕ) → Wide w rs → length p ≡ m → bytes ≡ p ++ (run rs ++ q)
    → (j : ℕ) → j < length rs → take w (drop (m + j * w) bytes) ≡ get_or rs j []
row_part w [] m p q bytes h l e j a = absurd (omega arith)
row_part w (r ∷ rs) m p q bytes h l e zero a =
    let n : length p ≡ m + 0 * w = omega (arith, zero-mul w) in
    ap (λ x. take w (drop (m + 0 * w) x)) e ∙ ap (take w) (drop_at p ((r ++ run rs) ++ q) (m + 0 * w) n ∙ append_assoc r (run rs) q) ∙ take_at r (run rs ++ q) w (h 0 (omega arith))
row_part w (r ∷ rs) m p q bytes h l e (suc j) a =
    let n : m + suc j * w ≡ (m + w) + j * w = omega (arith, suc-mul j w) in
    ap (λ i. take w (drop i bytes)) n
    ∙ row_part w rs (m + w) (p ++ r) q bytes (λ i g. h (suc i) (omega arith)) (length-append p r ∙ omega (arith, h 0 (omega arith)))
    (e ∙ ap (λ x. p ++ x) (append_assoc r (run rs) q) ∙ sym (append_assoc p r (run rs ++ q))) j (omega arith)
