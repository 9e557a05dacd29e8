-- Which files are read, each as which sheet, and which are refused. Assumes nothing.
use Rattle.std.specs.Prelude.{◌≡◌, ℕ, ◌+◌, ◌*◌, ◌<◌, ◌≤◌, ◌≢◌, ◌⊎◌, List, [], ◌∷◌, ◌++◌, length, ℤ}
use Rattle.formulas.specs.declared.fault.Flaw.{Flaw}
use Rattle.formulas.specs.Faults.{First}
use Rattle.sheets.specs.declared.fault.RuleFault.TheVariants.{List as ListFault, Rows as RowsFault, Formula as InFormula}
use Rattle.sheets.specs.declared.fault.LoadFault.{LoadFault}
use Rattle.sheets.specs.declared.fault.LoadFault.TheVariants.{Cut, Tag, Many, Rule}
use Rattle.sheets.specs.Sheet.{Sheet, RowsField, list_bytes, rows_bytes, bytes_of, file_of, GoodList, GoodRows, Good}

-- with s read so far, a field of this tag can come: cells before rules by rows, these before rules by formulas, then the end
pub data Fits (s : Sheet) : ℕ → Type 0 where
  cell : s.rows ≡ [] → s.formulas ≡ [] → Fits s 1
  rows : s.formulas ≡ [] → Fits s 2
  formula : Fits s 3
  end : Fits s 4

-- with s read so far, a field of this tag would be the 65th cell or the 65th rule
abbrev pub Full : Sheet → ℕ → Type 0
Full s t = ((t ≡ 1) × (length s.lists ≡ 64)) ⊎ ((t ≢ 1) × (length s.rows + length s.formulas ≡ 64))

-- with s read so far, up to the place k, the bytes that come next begin with a field that is refused
pub data Wrong (s : Sheet) (k : ℕ) : List ℕ → LoadFault → Type 0 where
  -- no end field
  no_end : Wrong s k [] (Cut k)
  -- an unknown or misplaced tag
  bad_tag : {t : ℕ} {r : List ℕ} → (Fits s t → ⊥) → Wrong s k (t ∷ r) (Tag k)
  -- an end with a length that is not 0
  long_end : {h l : ℕ} {r : List ℕ} → h * 256 + l ≢ 0 → Wrong s k (4 ∷ h ∷ l ∷ r) (Tag k)
  -- a byte after the end
  after_end : {b : ℕ} {r : List ℕ} → Wrong s k (4 ∷ 0 ∷ 0 ∷ b ∷ r) (Tag (k + 3))
  -- a field cut in its tag and length
  cut_head : {t : ℕ} {r : List ℕ} → Fits s t → length r < 2 → Wrong s k (t ∷ r) (Cut k)
  -- a field cut in its content
  cut_content : {t h l : ℕ} {r : List ℕ} → Fits s t → t ≢ 4 → length r < h * 256 + l → Wrong s k (t ∷ h ∷ l ∷ r) (Cut k)
  -- one too many
  too_many : {t h l : ℕ} {r : List ℕ} → Fits s t → t ≢ 4 → h * 256 + l ≤ length r → Full s t → Wrong s k (t ∷ h ∷ l ∷ r) (Many k)
  -- content that is no good list, no good rows rule, or no good formula
  bad_list : {h l : ℕ} (c r : List ℕ) → Fits s 1 → (Full s 1 → ⊥) → length c ≡ h * 256 + l → ((zs : List ℤ) → GoodList zs → c ≢ list_bytes zs) → Wrong s k (1 ∷ h ∷ l ∷ (c ++ r)) (Rule (ListFault k))
  bad_rows : {h l : ℕ} (c r : List ℕ) → Fits s 2 → (Full s 2 → ⊥) → length c ≡ h * 256 + l → ((x : RowsField) → GoodRows s.lists x → c ≢ rows_bytes x) → Wrong s k (2 ∷ h ∷ l ∷ (c ++ r)) (Rule (RowsFault k))
  bad_formula : {h l j : ℕ} {f : Flaw} (c r : List ℕ) → (Full s 3 → ⊥) → length c ≡ h * 256 + l → First (length s.lists) c f j → Wrong s k (3 ∷ h ∷ l ∷ (c ++ r)) (Rule (InFormula (record { flaw = f; offset = k + 3 + j })))

-- the file is that of a good sheet
pub record ReadAs (file : List ℕ) (s : Sheet) : Type 0 where
  pub good : Good s
  pub said : file ≡ file_of s

-- some good fields come first, and then one that is refused
pub record RefusedWith (file : List ℕ) (e : LoadFault) : Type 0 where
  pub before : Sheet
  pub good : Good before
  pub rest : List ℕ
  pub said : file ≡ bytes_of before ++ rest
  pub wrong : Wrong before (length (bytes_of before)) rest e
