-- The worked formulas, and what is to come of them. Assumes nothing.
use Rattle.std.specs.Prelude.{◌≡◌, ℕ, false, List, ℤ, Some, None, Option, codes}
use Rattle.formulas.specs.declared.fault.Flaw.TheVariants.{Grammar, Cells}
use Rattle.reader.specs.declared.unread.Unread.{Unread}
use Rattle.reader.specs.declared.unread.Unread.TheVariants.{Fault}
use Rattle.formulas.specs.Tree.{Condition, text}
use Rattle.sheets.specs.Meaning.{formula_rule}
use Rattle.worked.specs.declared.sample.Sample.{Sample}
use Rattle.worked.specs.declared.sample.Sample.TheVariants.{NoCell, LeadingZero, UnlikeItself}

-- the bytes of each
abbrev pub bytes_of : Sample → List ℕ
bytes_of NoCell = codes "1=1"
bytes_of LeadingZero = codes "C0=07"
bytes_of UnlikeItself = codes "C0<>C0"

-- why each is not read: fault 9 at the first byte, fault 6 at the fifth; and the last is
abbrev pub unread_of : Sample → Option Unread
unread_of NoCell = Some (Fault (record { flaw = Cells; offset = 0 }))
unread_of LeadingZero = Some (Fault (record { flaw = Grammar; offset = 4 }))
unread_of UnlikeItself = None

-- the formula of this text permits no row, whatever the lists of the cells are
abbrev pub PermitsNone : List ℕ → Type 0
PermitsNone s = (c : Condition) → s ≡ text c → (lists : List (List ℤ)) (row : List ℕ) → (formula_rule lists c).permits row ≡ false
