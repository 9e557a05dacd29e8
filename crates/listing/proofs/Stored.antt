-- What is written of the stores and the file is the sheet's text. Assumes nothing.
use Rattle.std.proofs.Common.{◌≡◌, ℕ, ◌+◌, ◌-◌, ◌*◌, ◌^◌, ◌<◌, ◌≤◌, min, List, [], ◌∷◌, ◌++◌, map, length, take, drop, replicate, ℤ, pos, sym, refl, ap, ◌∙◌, ap₂, ⊎_elim, append_assoc, arith, length-append}
use lib.ListN.{length-map}
use Rattle.std.specs.List.{range_with_len, flat_map, AllByRecursion}
use Rattle.std.proofs.lemmas.List.FromFn.{fill_by_all}
use Rattle.std.proofs.lemmas.List.{take_at, drop_at, drop_all}
use Rattle.std.proofs.lemmas.Bool.{cases_lt}
use Rattle.std.proofs.lemmas.List.Concat.{flat_map-append}
use Rattle.bits.proofs.Lists.{each_map}
use Rattle.rows.specs.declared.rule.RowsRule.{RowsRule}
use Rattle.formulas.specs.Tree.{Condition}
use Rattle.sheets.specs.declared.stores.Extent.{Extent}
use Rattle.sheets.specs.Sheet.{Sheet, RowsField, Field, GoodList, GoodRows, cell_field, rows_field, formula_field, field_bytes, fields_of, file_of}
use Rattle.sheets.specs.Stored.{Contents, filled, places_of, stored_rule_of, rules_of}
use Rattle.sheets.proofs.Storing.{length_rules}
use Rattle.sheets.proofs.Wide.{Wide, row_part}
use Rattle.sheet_books.specs.Books.{Holds}
use Rattle.sheets.proofs.Filled.{length_filled}
use Rattle.sheet_books.proofs.Parts.{filled_take}
use Rattle.sheet_books.proofs.StoredNumbers.{Short, spread}
use Rattle.listing.specs.Listing.{numbered, cell_line, list_in, rows_line, field_of, formula_line, formula_lines, listing_of}

-- a place cut off at a bound past the end
pub drop_cut : {X : Type 0} (xs : List X) (k m n : ℕ) → m ≡ min k n → length xs ≤ n → drop m xs ≡ drop k xs
drop_cut xs k m n e h = ⊎_elim
    (λ (l : k < n). let z : m ≡ k = omega arith in ap (λ i. drop i xs) z)
    (λ (l : n ≤ k). drop_all m xs (omega arith) ∙ sym (drop_all k xs (omega arith)))
    (cases_lt k n)

-- ---- the cells, of which n stand before
cells_same : (lists : List (List ℤ)) (n : ℕ) (p q numbers : List ℤ) → Short lists → length p ≡ 64 * n → numbers ≡ p ++ (spread lists ++ q)
    → numbered (λ c k. cell_line c (list_in numbers c k)) n (map length lists) ≡ numbered cell_line n lists
cells_same [] n p q numbers s l e = refl
cells_same (zs ∷ lists) n p q numbers s l e =
    let f = filled (pos 0) 64 zs in
    let blank = replicate (64 - length zs) (pos 0) in
    let e₁ : numbers ≡ p ++ (f ++ (spread lists ++ q)) = e ∙ ap (λ x. p ++ x) (append_assoc f (spread lists) q) in
    let here : list_in numbers n (length zs) ≡ zs =
    ap (λ x. take (length zs) (drop (64 * n) x)) e₁ ∙ ap (take (length zs)) (drop_at p (f ++ (spread lists ++ q)) (64 * n) l ∙ append_assoc zs blank (spread lists ++ q)) ∙ take_at zs (blank ++ (spread lists ++ q)) (length zs) refl in
    ap₂ (λ x y. cell_line n x ++ y) here
    (cells_same lists (n + 1) (p ++ f) q numbers s.1 (length-append p f ∙ omega (arith, length_filled (pos 0) 64 zs s.0)) (e₁ ∙ sym (append_assoc p f (spread lists ++ q))))

-- ---- the rules by rows
field_same : (x : RowsField) (m : ℕ) (p q bytes : List ℕ) → Wide (length x.cells) x.rows → length p ≡ m → bytes ≡ p ++ (places_of x ++ q) → field_of bytes (stored_rule_of m x) ≡ x
field_same x m p q bytes wide l e =
    let w = length x.cells in
    let cs : take w (filled 0 4 x.cells) ≡ x.cells = filled_take 0 4 x.cells w refl in
    let rs : map (λ j. take w (drop (m + j * w) bytes)) (range_with_len 0 (length x.rows)) ≡ x.rows =
    sym (fill_by_all (λ j. take w (drop (m + j * w) bytes)) x.rows (length x.rows) [] refl (λ k h. sym (row_part w x.rows m p q bytes wide l e k h))) in
    λ i. record { kind = x.kind; cells = cs i; rows = rs i }

abbrev WideRows : RowsField → Type 0
WideRows x = Wide (length x.cells) x.rows

rules_same : (xs : List RowsField) (r n : ℕ) (p q bytes : List ℕ) → AllByRecursion WideRows xs → length p ≡ n → bytes ≡ p ++ (flat_map places_of xs ++ q)
    → numbered (λ k rule. rows_line k (field_of bytes rule)) r (rules_of n xs) ≡ numbered rows_line r xs
rules_same [] r n p q bytes w l e = refl
rules_same (x ∷ xs) r n p q bytes w l e =
    let e₁ : bytes ≡ p ++ (places_of x ++ (flat_map places_of xs ++ q)) = e ∙ ap (λ y. p ++ y) (append_assoc (places_of x) (flat_map places_of xs) q) in
    ap₂ (λ y z. rows_line r y ++ z) (field_same x n p (flat_map places_of xs ++ q) bytes w.0 l e₁)
    (rules_same xs (r + 1) (n + length (places_of x)) (p ++ places_of x) q bytes w.1 (length-append p (places_of x) ∙ omega arith) (e₁ ∙ sym (append_assoc p (places_of x) (flat_map places_of xs ++ q))))

-- ---- the formulas, of a file's fields
abbrev end_field : Field
end_field = record { tag = 4; content = [] }

abbrev pub all_fields : Sheet → List Field
all_fields s = fields_of s ++ (end_field ∷ [])

pub file_fields : (s : Sheet) → file_of s ≡ flat_map field_bytes (all_fields s)
file_fields s = sym (flat_map-append field_bytes (fields_of s) (end_field ∷ []))

past_cells : (n : ℕ) (lists : List (List ℤ)) (fs : List Field) → formula_lines n (map cell_field lists ++ fs) ≡ formula_lines n fs
past_cells n [] fs = refl
past_cells n (zs ∷ lists) fs = past_cells n lists fs

past_rows : (n : ℕ) (xs : List RowsField) (fs : List Field) → formula_lines n (map rows_field xs ++ fs) ≡ formula_lines n fs
past_rows n [] fs = refl
past_rows n (x ∷ xs) fs = past_rows n xs fs

formulas_same : (n : ℕ) (cs : List Condition) → formula_lines n (map formula_field cs ++ (end_field ∷ [])) ≡ numbered formula_line n cs
formulas_same n [] = refl
formulas_same n (c ∷ cs) = ap (λ l. formula_line n c ++ l) (formulas_same (n + 1) cs)

lines_same : (n : ℕ) (s : Sheet) → formula_lines n (all_fields s) ≡ numbered formula_line n s.formulas
lines_same n s =
    let a = map cell_field s.lists in
    let b = map rows_field s.rows in
    let d = map formula_field s.formulas in
    ap (formula_lines n) (append_assoc a (b ++ d) (end_field ∷ []) ∙ ap (λ l. a ++ l) (append_assoc b d (end_field ∷ [])))
    ∙ past_cells n s.lists (b ++ (d ++ (end_field ∷ []))) ∙ past_rows n s.rows (d ++ (end_field ∷ [])) ∙ formulas_same n s.formulas

-- ---- all of it
module _ (held : Contents) (e : Extent) (s : Sheet) (h : Holds held e s) where
  short : Short s.lists
  short = each_map GoodList (λ zs. length zs ≤ 64) s.lists (λ zs g. g.few) h.good.lists

  wide : AllByRecursion WideRows s.rows
  wide = each_map (GoodRows s.lists) WideRows s.rows (λ x g i l. (g.rows i l).wide) h.good.rows

  module _ (rules : List RowsRule) (are : rules ≡ rules_of 0 s.rows) where
    pub few : length rules + length (all_fields s) < 2 ^ 64
    few =
        let a = map cell_field s.lists in
        let b = map rows_field s.rows in
        let d = map formula_field s.formulas in
        let g = h.good in
        omega (
          arith,
          ap length are,
          length_rules 0 s.rows,
          length-append (a ++ (b ++ d)) (end_field ∷ []),
          length-append a (b ++ d),
          length-append b d,
          length-map s.lists cell_field,
          length-map s.rows rows_field,
          length-map s.formulas formula_field,
          g.few_cells,
          g.few_rules,
        )

    pub listing_same : (lengths : List ℕ) → lengths ≡ map length s.lists
        → numbered (λ c n. cell_line c (list_in held.numbers c n)) 0 lengths ++ (numbered (λ r rule. rows_line r (field_of held.places rule)) 0 rules ++ formula_lines (length rules) (all_fields s)) ≡ listing_of s
    listing_same lengths so =
        let b = h.before in
        let numbers_after : List ℤ = replicate (length b.numbers - length (spread s.lists)) (pos 0) in
        let places_after : List ℕ = replicate (length b.places - length (flat_map places_of s.rows)) 0 in
        let cells : numbered (λ c n. cell_line c (list_in held.numbers c n)) 0 lengths ≡ numbered cell_line 0 s.lists =
        ap (numbered (λ c n. cell_line c (list_in held.numbers c n)) 0) so ∙ cells_same s.lists 0 [] numbers_after held.numbers short refl (ap (λ (x : Contents). x.numbers) h.held) in
        let rows : numbered (λ r rule. rows_line r (field_of held.places rule)) 0 rules ≡ numbered rows_line 0 s.rows =
        ap (numbered (λ r rule. rows_line r (field_of held.places rule)) 0) are ∙ rules_same s.rows 0 0 [] places_after held.places wide refl (ap (λ (x : Contents). x.places) h.held) in
        let formulas : formula_lines (length rules) (all_fields s) ≡ numbered formula_line (length s.rows) s.formulas =
        ap (λ n. formula_lines n (all_fields s)) (ap length are ∙ length_rules 0 s.rows) ∙ lines_same (length s.rows) s in
        ap₂ (λ x y. x ++ y) cells (ap₂ (λ x y. x ++ y) rows formulas)
