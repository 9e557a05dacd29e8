-- The readable text of a sheet. Assumes nothing.
use Rattle.std.specs.Prelude.{ℕ, ◌+◌, ◌*◌, cond, List, [], ◌∷◌, ◌++◌, map, length, take, drop, ℤ, codes, ◌==◌}
use Rattle.std.specs.List.{range_with_len, flat_map, join_with_byte}
use Rattle.rows.specs.declared.rule.Kind.{Kind}
use Rattle.rows.specs.declared.rule.Kind.TheVariants.{Permitted, Forbidden}
use Rattle.rows.specs.declared.rule.RowsRule.{RowsRule}
use Rattle.formulas.specs.Tree.{Condition, text, numeral, number_text}
use Rattle.sheets.specs.Sheet.{Sheet, RowsField, Field}

-- the lines of some things, numbered from n on
abbrev pub numbered : {X : Type 0} → (ℕ → X → List ℕ) → ℕ → List X → List ℕ
numbered f n [] = []
numbered f n (x ∷ xs) = f n x ++ numbered f (n + 1) xs

-- a cell and the numbers of its list, as C0: 1 2 3
abbrev pub cell_line : ℕ → List ℤ → List ℕ
cell_line c zs = 67 ∷ (numeral c ++ (58 ∷ (flat_map (λ z. 32 ∷ number_text z) zs ++ (10 ∷ []))))

-- what kind of rows a rule stores
abbrev pub kind_text : Kind → List ℕ
kind_text Permitted = codes " permitted"
kind_text Forbidden = codes " forbidden"

-- texts with a comma between them
abbrev pub commas : List (List ℕ) → List ℕ
commas ws = join_with_byte 44 ws

-- the places of a row, a blank before each
abbrev pub row_text : List ℕ → List ℕ
row_text row = flat_map (λ v. 32 ∷ numeral v) row

-- a rule by rows: its cells, then the places of its rows, as rule 0 permitted C0 C1: 0 1, 1 2
abbrev pub rows_line : ℕ → RowsField → List ℕ
rows_line r x =
    codes "rule " ++ (numeral r ++ (kind_text x.kind ++ (flat_map (λ c. codes " C" ++ numeral c) x.cells ++ (58 ∷ (commas (map row_text x.rows) ++ (10 ∷ []))))))

-- a rule by a formula's text, as rule 2 formula C0<C1
abbrev pub text_line : ℕ → List ℕ → List ℕ
text_line r t = codes "rule " ++ (numeral r ++ (codes " formula " ++ (t ++ (10 ∷ []))))

-- a rule by a formula
abbrev pub formula_line : ℕ → Condition → List ℕ
formula_line r c = text_line r (text c)

-- the text of a sheet: its cells, its rules by rows, and its rules by formulas, a line each
abbrev pub listing_of : Sheet → List ℕ
listing_of s = numbered cell_line 0 s.lists ++ (numbered rows_line 0 s.rows ++ numbered formula_line (length s.rows) s.formulas)

-- ---- what the parts of the code write
-- the rows of a stored rule, cut out of the places
abbrev pub rows_in : List ℕ → RowsRule → List (List ℕ)
rows_in places rule = map (λ j. take rule.width (drop (rule.start + j * rule.width) places)) (range_with_len 0 rule.count)

-- a stored rule by rows
abbrev pub field_of : List ℕ → RowsRule → RowsField
field_of places rule = record { kind = rule.kind; cells = take rule.width rule.cells; rows = rows_in places rule }

-- the list of cell c: so many numbers, of the 64 places of the cell
abbrev pub list_in : List ℤ → ℕ → ℕ → List ℤ
list_in numbers c n = take n (drop (64 * c) numbers)

-- the line of a field if it is a formula's, numbered n, and nothing otherwise
abbrev pub field_line : ℕ → Field → List ℕ
field_line n f = cond (f.tag == 3) (text_line n f.content) []

-- the lines of the formulas among some fields of a file, the first formula numbered n
abbrev pub formula_lines : ℕ → List Field → List ℕ
formula_lines n [] = []
formula_lines n (f ∷ fs) = field_line n f ++ formula_lines (cond (f.tag == 3) (n + 1) n) fs
