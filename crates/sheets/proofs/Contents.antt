-- Contents determine lists, rows rules and formulas. Assumes nothing.
use Rattle.std.proofs.Common.{◌≡◌, ℕ, suc, ◌<◌, ◌≤◌, List, [], ◌∷◌, ◌++◌, length, get_or, ℤ, pos, negsuc, nat_abs, sym, refl, ap, ◌∙◌, arith, w32, SFits, to_z, of_z}
use Rattle.std.specs.List.{flat_map}
use Rattle.std.proofs.lemmas.Int.{to_z-of_z}
use Rattle.rows.specs.declared.rule.Kind.{Kind}
use Rattle.rows.specs.declared.rule.Kind.TheVariants.{Permitted, Forbidden}
use Rattle.sheets.specs.Sheet.{RowsField, four_bytes, list_bytes, kind_byte, rows_bytes, GoodRows}
use Rattle.sheets.proofs.Fields.{same_front, byte}
use Rattle.sheets.proofs.Wide.{Wide}

-- a number of at most a million fits 32 bits
pub small_fits : (z : ℤ) → nat_abs z ≤ 1000000 → SFits w32 z
small_fits (pos n) h = record { sfits = omega arith }
small_fits (negsuc n) h = record { sfits = omega arith }

pub four_unique : (y z : ℤ) → SFits w32 y → SFits w32 z → (r t : List ℕ) → four_bytes y ++ r ≡ four_bytes z ++ t → (y ≡ z) × (r ≡ t)
four_unique y z p q r t e =
    let a = byte _ _ _ _ e in
    let b = byte _ _ _ _ a.1 in
    let c = byte _ _ _ _ b.1 in
    let d = byte _ _ _ _ c.1 in
    let n : of_z w32 y ≡ of_z w32 z = omega (arith, a.0, b.0, c.0, d.0) in
    (sym (to_z-of_z w32 y p) ∙ ap (to_z w32) n ∙ to_z-of_z w32 z q, d.1)

abbrev Small : List ℤ → Type 0
Small zs = (k : ℕ) → k < length zs → nat_abs (get_or zs k (pos 0)) ≤ 1000000

pub lists_unique : (ys zs : List ℤ) → Small ys → Small zs → list_bytes ys ≡ list_bytes zs → ys ≡ zs
lists_unique [] [] p q e = refl
lists_unique [] (z ∷ zs) p q e = absurd (omega (arith, ap length e))
lists_unique (y ∷ ys) [] p q e = absurd (omega (arith, ap length e))
lists_unique (y ∷ ys) (z ∷ zs) p q e =
    let i = four_unique y z (small_fits y (p 0 (omega arith))) (small_fits z (q 0 (omega arith))) (list_bytes ys) (list_bytes zs) e in
    let j = lists_unique ys zs (λ k h. p (suc k) (omega arith)) (λ k h. q (suc k) (omega arith)) i.1 in
    λ k. i.0 k ∷ j k

rows_apart : (w : ℕ) (qs rs : List (List ℕ)) → 1 ≤ w → Wide w qs → Wide w rs → flat_map (λ row. row) qs ≡ flat_map (λ row. row) rs → qs ≡ rs
rows_apart w [] [] some p q e = refl
rows_apart w [] (r ∷ rs) some p q e = absurd (omega (arith, ap length e, q 0 (omega arith), lib.ListN.length-append r (flat_map (λ row. row) rs)))
rows_apart w (y ∷ qs) [] some p q e = absurd (omega (arith, ap length e, p 0 (omega arith), lib.ListN.length-append y (flat_map (λ row. row) qs)))
rows_apart w (y ∷ qs) (r ∷ rs) some p q e =
    let i = same_front y r (flat_map (λ row. row) qs) (flat_map (λ row. row) rs) (p 0 (omega arith) ∙ sym (q 0 (omega arith))) e in
    let j = rows_apart w qs rs some (λ k h. p (suc k) (omega arith)) (λ k h. q (suc k) (omega arith)) i.1 in
    λ k. i.0 k ∷ j k

kind_unique : (a b : Kind) → kind_byte a ≡ kind_byte b → a ≡ b
kind_unique Permitted Permitted e = refl
kind_unique Permitted Forbidden e = absurd (omega (arith, e))
kind_unique Forbidden Permitted e = absurd (omega (arith, e))
kind_unique Forbidden Forbidden e = refl

pub rows_unique : (lists : List (List ℤ)) (x y : RowsField) → GoodRows lists x → GoodRows lists y → rows_bytes x ≡ rows_bytes y → x ≡ y
rows_unique lists x y g h e =
    let a = byte _ _ _ _ e in
    let b = byte _ _ _ _ a.1 in
    let c = same_front x.cells y.cells (flat_map (λ row. row) x.rows) (flat_map (λ row. row) y.rows) b.0 b.1 in
    let d = rows_apart (length x.cells) x.rows y.rows g.some (λ i l. (g.rows i l).wide) (λ i l. (h.rows i l).wide ∙ sym b.0) c.1 in
    let k = kind_unique x.kind y.kind a.0 in
    λ i. record { kind = k i; cells = c.0 i; rows = d i }
