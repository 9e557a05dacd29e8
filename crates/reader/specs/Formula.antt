-- What reading a whole formula promises. Assumes nothing.
use Rattle.std.specs.Prelude.{◌≡◌, ℕ, ◌+◌, ◌-◌, ◌≤◌, true, List, ◌++◌, length, take, replicate, is_ok, Err, Result}
use Rattle.formulas.specs.declared.node.Node.{Node}
use Rattle.formulas.specs.declared.node.Node.TheVariants.{Free}
use Rattle.formulas.specs.declared.fault.Flaw.{Flaw}
use Rattle.formulas.specs.declared.fault.FormulaFault.{FormulaFault}
use Rattle.formulas.specs.Tree.{Condition, cells_of}
use Rattle.formulas.specs.Faults.{First, Accepted, number as flaw_number}
use Rattle.formulas.specs.Layout.{size, layout, stored}
use Rattle.reader.specs.declared.formula.Formula.{Formula}
use Rattle.reader.specs.declared.unread.Unread.{Unread}
use Rattle.reader.specs.declared.unread.Unread.TheVariants.{NoRoom, Fault}

-- the text is that of a condition under the limits, whose nodes stand from n on, and whose root and cells are those told
pub record ReadFormula (cells : ℕ) (s : List ℕ) (before : List Node) (n : ℕ) (after : List Node) (used : ℕ) (f : Formula) : Type 0 where
  pub is : Condition
  pub accepted : Accepted cells s is
  pub nodes : after ≡ stored before n (layout n is)
  pub count : used ≡ n + size is
  pub root : f.root ≡ n + size is - 1
  pub width : f.width ≡ length (cells_of is)
  pub named : f.cells ≡ cells_of is ++ replicate (4 - length (cells_of is)) 0

-- the store can take what is read of the text: nodes are numbered by 16 bits, and a formula has no more of them than its text has bytes
pub record Fits (s : List ℕ) (nodes : List Node) (n : ℕ) : Type 0 where
  pub few : length nodes ≤ 32768
  pub room : n + length s ≤ length nodes

-- the number that stands for each case
abbrev pub number : Unread → ℕ
number NoRoom = 10
number (Fault e) = flaw_number e.flaw

-- its byte of the formula, 0 where there is no room
abbrev pub offset : Unread → ℕ
offset NoRoom = 0
offset (Fault e) = e.offset

-- a formula that is not read: the store cannot take it, and is untouched; or it has a fault, its first: the nodes below n are as they were, and the others free
pub data NotRead (cells : ℕ) (s : List ℕ) (before : List Node) (n : ℕ) (after : List Node) (used : ℕ) : Unread → Type 0 where
  no_room : (Fits s before n → ⊥) → after ≡ before → used ≡ n → NotRead cells s before n after used NoRoom
  fault : {e : FormulaFault} → Fits s before n → First cells s e.flaw e.offset → used ≡ n → after ≡ take n before ++ replicate (length before - n) Free
      → NotRead cells s before n after used (Fault e)

-- where the store can take it, it is read exactly if it is some condition's text under the limits, and refused with a fault exactly if that is the first
pub record Decided (cells : ℕ) (s : List ℕ) (nodes : List Node) (n : ℕ) (r : Result Formula Unread) : Type 0 where
  pub accepts : (c : Condition) → Fits s nodes n → Accepted cells s c → is_ok r ≡ true
  pub refuses : (f : Flaw) (k : ℕ) → Fits s nodes n → First cells s f k → r ≡ Err (Fault (record { flaw = f; offset = k }))
  pub no_room : (Fits s nodes n → ⊥) → r ≡ Err NoRoom
