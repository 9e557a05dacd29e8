-- A sheet, its limits, and its bytes. Assumes nothing.
use Rattle.std.specs.Prelude.{◌≡◌, ℕ, ◌+◌, ◌/◌, ◌%◌, ◌<◌, ◌≤◌, List, [], ◌∷◌, ◌++◌, map, length, ℤ, pos, ◌≢◌, slice_index, slice_index_or, unsigned_abs}
use Rattle.std.specs.Int.{w32, cast_unsigned}
use Rattle.std.specs.List.{flat_map, AllByRecursion}
use Rattle.rows.specs.declared.rule.Kind.{Kind}
use Rattle.rows.specs.declared.rule.Kind.TheVariants.{Permitted, Forbidden}
use Rattle.formulas.specs.Tree.{Condition, text}
use Rattle.formulas.specs.Faults.{Accepted}

-- a rule by its rows; a row has as many places as the rule has cells
pub record RowsField : Type 0 where
  pub kind : Kind
  pub cells : List ℕ
  pub rows : List (List ℕ)

-- each cell's list of numbers, then the rules by rows, then the rules by formulas; rules are numbered in that order
pub record Sheet : Type 0 where
  pub lists : List (List ℤ)
  pub rows : List RowsField
  pub formulas : List Condition

-- the sheet with nothing in it
abbrev pub empty : Sheet
empty = record { lists = []; rows = []; formulas = [] }

-- the sheet with one more list
abbrev pub with_list : Sheet → List ℤ → Sheet
with_list s zs = record { lists = s.lists ++ (zs ∷ []); rows = s.rows; formulas = s.formulas }

-- the sheet with one more rule by rows
abbrev pub with_rows : Sheet → RowsField → Sheet
with_rows s x = record { lists = s.lists; rows = s.rows ++ (x ∷ []); formulas = s.formulas }

-- the sheet with one more formula
abbrev pub with_formula : Sheet → Condition → Sheet
with_formula s c = record { lists = s.lists; rows = s.rows; formulas = s.formulas ++ (c ∷ []) }

-- a number in four bytes, high byte first, two's complement
abbrev pub four_bytes : ℤ → List ℕ
four_bytes z = cast_unsigned w32 z / 16777216 ∷ cast_unsigned w32 z / 65536 % 256 ∷ cast_unsigned w32 z / 256 % 256 ∷ cast_unsigned w32 z % 256 ∷ []

-- the numbers of a list, one after another
abbrev pub list_bytes : List ℤ → List ℕ
list_bytes zs = flat_map four_bytes zs

-- the byte of a kind
abbrev pub kind_byte : Kind → ℕ
kind_byte Permitted = 0
kind_byte Forbidden = 1

-- kind, width, the cells, then the rows, one byte a place
abbrev pub rows_bytes : RowsField → List ℕ
rows_bytes r = kind_byte r.kind ∷ length r.cells ∷ (r.cells ++ flat_map (λ row. row) r.rows)

-- a field of a file
pub record Field : Type 0 where
  pub tag : ℕ
  pub content : List ℕ

-- its bytes: its tag, the length of its content in two bytes, high byte first, and its content
abbrev pub field_bytes : Field → List ℕ
field_bytes f = f.tag ∷ length f.content / 256 ∷ length f.content % 256 ∷ f.content

-- the field of a cell
abbrev pub cell_field : List ℤ → Field
cell_field zs = record { tag = 1; content = list_bytes zs }

-- the field of a rule by its rows
abbrev pub rows_field : RowsField → Field
rows_field r = record { tag = 2; content = rows_bytes r }

-- the field of a formula
abbrev pub formula_field : Condition → Field
formula_field c = record { tag = 3; content = text c }

-- the fields of a sheet but for the end
abbrev pub fields_of : Sheet → List Field
fields_of s = map cell_field s.lists ++ (map rows_field s.rows ++ map formula_field s.formulas)

-- the bytes of these fields, one after another
abbrev pub bytes_of : Sheet → List ℕ
bytes_of s = flat_map field_bytes (fields_of s)

-- the whole file: the fields and the end field
abbrev pub file_of : Sheet → List ℕ
file_of s = bytes_of s ++ (4 ∷ 0 ∷ 0 ∷ [])

-- 1 to 64 different numbers from -1,000,000 to 1,000,000
pub record GoodList (zs : List ℤ) : Type 0 where
  pub some : 1 ≤ length zs
  pub few : length zs ≤ 64
  pub small : (k : ℕ) → k < length zs → unsigned_abs (slice_index_or zs k (pos 0)) ≤ 1000000
  pub apart : (j k : ℕ) → j < k → k < length zs → slice_index_or zs j (pos 0) ≢ slice_index_or zs k (pos 0)

-- one place for each cell of a rule, each of its cell's list
pub record GoodRow (lists : List (List ℤ)) (cells row : List ℕ) : Type 0 where
  pub wide : length row ≡ length cells
  pub listed : (k : ℕ) → k < length cells → slice_index row k < length (slice_index_or lists (slice_index cells k) [])

-- 1 to 4 different cells of the sheet, and good rows
pub record GoodRows (lists : List (List ℤ)) (r : RowsField) : Type 0 where
  pub some : 1 ≤ length r.cells
  pub few : length r.cells ≤ 4
  pub known : (k : ℕ) → k < length r.cells → slice_index r.cells k < length lists
  pub apart : (j k : ℕ) → j < k → k < length r.cells → slice_index r.cells j ≢ slice_index r.cells k
  pub rows : (i : ℕ) → i < length r.rows → GoodRow lists r.cells (slice_index_or r.rows i [])

-- a formula on the cells of the sheet, under the limits of formulas
abbrev pub GoodFormula : List (List ℤ) → Condition → Type 0
GoodFormula lists c = Accepted (length lists) (text c) c

-- at most 64 good lists, and at most 64 good rules
pub record Good (s : Sheet) : Type 0 where
  pub few_cells : length s.lists ≤ 64
  pub few_rules : length s.rows + length s.formulas ≤ 64
  pub lists : AllByRecursion GoodList s.lists
  pub rows : AllByRecursion (GoodRows s.lists) s.rows
  pub formulas : AllByRecursion (GoodFormula s.lists) s.formulas
