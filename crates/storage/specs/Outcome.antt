-- What a file is to whoever reads it into stores of the published sizes. Assumes nothing.
use Rattle.std.specs.Prelude.{ℕ, ◌<◌, ◌≤◌, List, length, Ok, Err, Result}
use Rattle.sheets.specs.declared.fault.LoadFault.{LoadFault}
use Rattle.sheets.specs.declared.fault.LoadFault.TheVariants.{Size}
use Rattle.sheets.specs.Sheet.{Sheet}
use Rattle.sheets.specs.Reading.{ReadAs, RefusedWith}

-- too long a file, a file with a first fault, or a good sheet's
pub data Outcome (file : List ℕ) : Result Sheet LoadFault → Type 0 where
  too_long : 32768 < length file → Outcome file (Err Size)
  faulty : {e : LoadFault} → length file ≤ 32768 → RefusedWith file e → Outcome file (Err e)
  read : {s : Sheet} → length file ≤ 32768 → ReadAs file s → Outcome file (Ok s)
