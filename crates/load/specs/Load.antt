-- What Load comes to: a sheet that stands in the stores, or the first fault. Assumes nothing.
use Rattle.std.specs.Prelude.{◌≡◌, ℕ, ◌≤◌, List, length, Ok, Err, Result}
use Rattle.sheets.specs.declared.fault.LoadFault.{LoadFault}
use Rattle.sheets.specs.declared.fault.LoadFault.TheVariants.{Size}
use Rattle.sheets.specs.declared.stores.Extent.{Extent}
use Rattle.sheets.specs.Sheet.{Sheet}
use Rattle.sheets.specs.Reading.{ReadAs, RefusedWith}
use Rattle.sheets.specs.Stored.{Contents, Enough, stored, zeroed, extent_of}

-- the file is at most 32,768 bytes long, and every store has its published size
pub record Sized (file : List ℕ) (before : Contents) : Type 0 where
  pub short : length file ≤ 32768
  pub enough : Enough before

-- the file is that of a good sheet, which stands in the stores; they are zero past it
pub record ReadSheet (file : List ℕ) (before after : Contents) (e : Extent) : Type 0 where
  pub sized : Sized file before
  pub sheet : Sheet
  pub read : ReadAs file sheet
  pub extent : e ≡ extent_of sheet
  pub stores : after ≡ stored before sheet

-- too long a file or too small a store, and all is untouched; or the first fault of the file, and all stores are zero
pub data Refused (file : List ℕ) (before after : Contents) (e : LoadFault) : Type 0 where
  unsized : (Sized file before → ⊥) → e ≡ Size → after ≡ before → Refused file before after e
  faulty : Sized file before → RefusedWith file e → after ≡ zeroed before → Refused file before after e

-- a file of a good sheet is read, a file with a first fault is refused with it, and nothing else decides
pub record Exact (file : List ℕ) (before : Contents) (r : Result Extent LoadFault) : Type 0 where
  pub reads : Sized file before → (s : Sheet) → ReadAs file s → r ≡ Ok (extent_of s)
  pub refuses : Sized file before → (e : LoadFault) → RefusedWith file e → r ≡ Err e
  pub unsized : (Sized file before → ⊥) → r ≡ Err Size
