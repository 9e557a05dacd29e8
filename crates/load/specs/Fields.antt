-- The words of the inner functions' contracts: a field's head, and what a field adds. Assumes nothing.
use Rattle.std.specs.Prelude.{◌≡◌, ℕ, ◌+◌, ◌*◌, ◌<◌, ◌≤◌, List, [], ◌∷◌, ◌++◌, length, drop}
use Rattle.formulas.specs.declared.fault.FormulaFault.{FormulaFault}
use Rattle.formulas.specs.Faults.{First}
use Rattle.sheets.specs.declared.stores.Extent.{Extent}
use Rattle.sheets.specs.Sheet.{Sheet, bytes_of, Good}
use Rattle.sheets.specs.Reading.{Fits, Full}
use Rattle.sheets.specs.Stored.{Contents, held, stored, extent_of}
use Rattle.sheets.specs.declared.tag.Tag.{Tag}
use Rattle.sheets.specs.declared.tag.Tag.TheVariants.{Cell, Rows, Formula, End}
use Rattle.load.specs.declared.loading.Loading.{Loading}

-- after so much, a field of this tag can come
abbrev pub Comes : Tag → Extent → Type 0
Comes Cell e = (e.rules ≡ 0) × (e.formulas ≡ 0)
Comes Rows e = e.formulas ≡ 0
Comes Formula e = Unit {0}
Comes End e = Unit {0}

-- after so much, a field of this tag would be one too many
abbrev pub Filled : Tag → Extent → Type 0
Filled Cell e = e.cells ≡ 64
Filled Rows e = e.rules + e.formulas ≡ 64
Filled Formula e = e.rules + e.formulas ≡ 64
Filled End e = ⊥

-- there is room for one more
abbrev pub Unfilled : Tag → Extent → Type 0
Unfilled Cell e = e.cells < 64
Unfilled Rows e = e.rules + e.formulas < 64
Unfilled Formula e = e.rules + e.formulas < 64
Unfilled End e = Unit {0}

-- with s read so far, the bytes begin with a whole field of this tag and length, which may come and is not one too many
pub record Content (s : Sheet) (bs : List ℕ) (tag size : ℕ) : Type 0 where
  pub high : ℕ
  pub low : ℕ
  pub rest : List ℕ
  pub is : bs ≡ tag ∷ high ∷ low ∷ rest
  pub long : size ≡ high * 256 + low
  pub whole : size ≤ length rest
  pub fits : Fits s tag
  pub room : Full s tag → ⊥

-- what comes next, by its head: a whole field, or the end field and nothing after it
abbrev pub Headed : Sheet → List ℕ → Tag → ℕ → Type 0
Headed s bs Cell size = Content s bs 1 size
Headed s bs Rows size = Content s bs 2 size
Headed s bs Formula size = Content s bs 3 size
Headed s bs End size = bs ≡ 4 ∷ 0 ∷ 0 ∷ []

-- the file has said s up to the place where the next field begins
pub record Begun (file : List ℕ) (at : ℕ) (s : Sheet) : Type 0 where
  pub good : Good s
  pub here : at ≡ length (bytes_of s)
  pub said : file ≡ bytes_of s ++ drop at file

-- the file is short, and what is taken of two stores is at most a place for each byte before the next field
pub record Room (file : List ℕ) (at : ℕ) (e : Extent) : Type 0 where
  pub short : length file ≤ 32768
  pub within : at ≤ length file
  pub places : e.places ≤ at
  pub nodes : e.nodes ≤ at

-- every store is as long as before
pub record SameSizes (before after : Contents) : Type 0 where
  pub lengths : length after.lengths ≡ length before.lengths
  pub numbers : length after.numbers ≡ length before.numbers
  pub rules : length after.rules ≡ length before.rules
  pub places : length after.places ≡ length before.places
  pub formulas : length after.formulas ≡ length before.formulas
  pub nodes : length after.nodes ≡ length before.nodes

-- both hold the same loan of stores, which are as long as before
pub record Kept (before after : Loading) : Type 0 where
  pub loan : after.stores.ghost_name ≡ before.stores.ghost_name
  pub sizes : SameSizes (held before.stores.now) (held after.stores.now)

-- the sheet stands in the stores, and takes so much of them
pub record Holds (l : Loading) (s : Sheet) : Type 0 where
  pub stores : held l.stores.now ≡ stored (held l.stores.now) s
  pub extent : l.extent ≡ extent_of s

-- the content is that of a good part, which stands in the stores with the sheet before it
pub record Added {X : Type 0} (IsGood : X → Type 0) (bytes : X → List ℕ) (sheet_with : X → Sheet) (content : List ℕ) (after : Loading) : Type 0 where
  pub part : X
  pub good : IsGood part
  pub said : content ≡ bytes part
  pub holds : Holds after (sheet_with part)

-- a formula's first fault, told by its place in the file, in which the formula begins at base
pub record Inside (cells : ℕ) (s : List ℕ) (base : ℕ) (e : FormulaFault) : Type 0 where
  pub at : ℕ
  pub first : First cells s e.flaw at
  pub place : e.offset ≡ base + at

-- one more field was read, which stands in the stores too
pub record Advanced (file : List ℕ) (at : ℕ) (after : Loading) (next : ℕ) : Type 0 where
  pub sheet : Sheet
  pub begun : Begun file next sheet
  pub holds : Holds after sheet
  pub further : at < next
