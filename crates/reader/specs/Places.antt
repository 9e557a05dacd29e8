-- Places in a text. Assumes nothing.
use Rattle.std.specs.Prelude.{◌≡◌, ℕ, ◌≤◌, List, ◌∷◌, take, drop}
use Rattle.formulas.specs.declared.fault.FormulaFault.{FormulaFault}
use Rattle.formulas.specs.Tree.{numeral}
use Rattle.formulas.specs.Faults.{next, Digit, First}
use Rattle.formulas.specs.Reading.{Spans, Clear, Deep, AwaitsSide}
use Rattle.reader.specs.declared.cursor.Cursor.{Cursor}

-- the next byte, and 256 where the text ends
abbrev pub ahead : Cursor → ℕ
ahead a = next (drop a.at a.text.now.bytes.now)

-- the bytes before a place
abbrev pub behind : Cursor → List ℕ
behind a = take a.at a.text.now.bytes.now

-- w stands in a text from one place up to another
pub record Reads (a : Cursor) (w : List ℕ) (b : Cursor) : Type 0 where
  pub text : b.text.now ≡ a.text.now
  pub spans : Spans a.text.now.bytes.now a.at w b.at

-- no fault 7 up to a place, and no fault 8 before it
abbrev pub ClearTo : Cursor → Type 0
ClearTo a = Clear a.text.now.cells a.text.now.bytes.now a.at

-- a condition can begin at a place on a level from 1 to 16: no fault comes before it
pub record Ready (a : Cursor) (level : ℕ) : Type 0 where
  pub clear : ClearTo a
  pub deep : Deep a.text.now.bytes.now a.at level
  pub some : 1 ≤ level
  pub shallow : level ≤ 16

-- a fault is the first of the place's text
abbrev pub FirstIn : Cursor → FormulaFault → Type 0
FirstIn a e = First a.text.now.cells a.text.now.bytes.now e.flaw e.offset

-- a cell's name ends at a place, and a side was awaited where it began
pub record AwaitsShift (a : Cursor) : Type 0 where
  pub from : ℕ
  pub cell : ℕ
  pub awaits : AwaitsSide a.text.now.bytes.now from
  pub named : Spans a.text.now.bytes.now from (67 ∷ numeral cell) a.at
  pub ended : Digit (ahead a) → ⊥
