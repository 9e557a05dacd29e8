-- What reading a file into stores of the published sizes comes to. Assumes nothing.
use Rattle.std.proofs.Common.{ℕ, List, length, Ok, Err, sym, subst, ⊎_elim}
use Rattle.std.proofs.lemmas.Bool.{cases_lt}
use Rattle.sheets.specs.declared.fault.LoadFault.{LoadFault}
use Rattle.sheets.specs.declared.stores.Extent.{Extent}
use Rattle.sheets.specs.Stored.{Contents, Enough}
use Rattle.sheet_books.specs.Books.{Holds}
use Rattle.load.specs.Load.{ReadSheet, Refused, unsized, faulty as refused}
use Rattle.storage.specs.Outcome.{Outcome, too_long, faulty, read}

-- a sheet that was read stands in the stores
pub holds_read : (file : List ℕ) (before after : Contents) (e : Extent) (r : ReadSheet file before after e) → Holds after e r.sheet
holds_read file before after e r = record { good = r.read.good; before = before; held = r.stores; takes = r.extent }

-- it is the file's
pub is_read : (file : List ℕ) (before after : Contents) (e : Extent) (r : ReadSheet file before after e) → Outcome file (Ok r.sheet)
is_read file before after e r = read r.sized.short r.read

-- a fault is the file's, and not that of the stores
pub is_refused : (file : List ℕ) (before after : Contents) (e : LoadFault) → Enough before → Refused file before after e → Outcome file (Err e)
is_refused file before after e enough (unsized n is same) =
    subst (λ x. Outcome file (Err x)) (sym is)
    (⊎_elim (λ l. too_long l) (λ l. absurd (n (record { short = l; enough = enough }))) (cases_lt 32768 (length file)))
is_refused file before after e enough (refused sized with same) = faulty sized.short with
