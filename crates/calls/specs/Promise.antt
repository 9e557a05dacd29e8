-- What a Fit promises: a filling or a core. Assumes nothing.
use Rattle.std.specs.Prelude.{◌≡◌, ℕ, ◌≤◌, ◌≢◌, List, [], length, take, drop, Some, None, vec_items}
use Rattle.std.specs.List.{AllByRecursion}
use Rattle.bits.specs.Sets.{size}
use Rattle.network.specs.Fillings.{MeetsAll}
use Rattle.runs.specs.declared.line.Line.{Line}
use Rattle.runs.specs.Law.{Right}
use Rattle.cores.specs.Core.{Core, Short}
use Rattle.clash.specs.declared.fitted.Fitted.{Fitted as Values}
use Rattle.calls.specs.declared.step.Step.{Step}
use Rattle.calls.specs.Sheet.{Sheet, cells}
use Rattle.calls.specs.History.{Did, on_after, Filling, Fillable}
use Rattle.calls.specs.Plays.{sizes, Plays}

-- the lines that a Fit wrote, where it returned f
abbrev pub lines_of : Step → Values → List Line
lines_of a f = take f.lines (vec_items a.buffers.log)

-- the bytes of its filling, one for each cell
abbrev pub filling_of : Sheet → Step → List ℕ
filling_of s a = take (cells s) (vec_items a.buffers.filling)

-- no core: a filling under the standing pins that meets every rule that is on, in one line
pub record Filled (s : Sheet) (h : List Did) (a : Step) (f : Values) : Type 0 where
  pub filling : Filling s h (filling_of s a)
  pub meets : MeetsAll s.book (on_after s h) (filling_of s a)
  pub one : f.lines ≡ 1
  pub no_core : f.core ≡ None

-- a core: no filling under the standing pins meets every rule that is on, and it is a core of these, in few lines
pub record Clashed (s : Sheet) (h : List Did) (a : Step) (f : Values) : Type 0 where
  pub rules : ℕ
  pub is : f.core ≡ Some rules
  pub never : Fillable s h (on_after s h) → ⊥
  pub core : Core (Fillable s h) (on_after s h) rules
  pub few : Short (size (on_after s h)) (size rules) f.lines

-- a filling or a core
pub data Ended (s : Sheet) (h : List Did) (a : Step) (f : Values) : Type 0 where
  filled : Filled s h a f → Ended s h a f
  clashed : Clashed s h a f → Ended s h a f

-- what a Fit keeps, of the lines and the bytes that it was handed: the lines past its own, the bytes after a filling, and all bytes at a clash
pub record Keeps (cells : ℕ) (f : Values) (log log' : List Line) (filling filling' : List ℕ) : Type 0 where
  pub rest : drop f.lines log' ≡ drop f.lines log
  pub later : f.core ≡ None → drop cells filling' ≡ drop cells filling
  pub bytes : f.core ≢ None → filling' ≡ filling

-- the same of the buffers of a step
abbrev pub StepKeeps : Sheet → Step → Step → Values → Type 0
StepKeeps s b a f = Keeps (cells s) f (vec_items b.buffers.log) (vec_items a.buffers.log) (vec_items b.buffers.filling) (vec_items a.buffers.filling)

-- a Fit after the calls h: a filling or a core; as many lines as it returns, each right by the fillings under the standing pins; all else is kept, and how long the buffers are
pub record FillingOrCore (s : Sheet) (h : List Did) (b a : Step) (f : Values) : Type 0 where
  pub ended : Ended s h a f
  pub counted : f.lines ≤ length (vec_items a.buffers.log)
  pub right : AllByRecursion (Right (Fillable s h)) (lines_of a f)
  pub keeps : StepKeeps s b a f
  pub sized : sizes a.buffers ≡ sizes b.buffers

-- every call is answered as it is judged, every refused call changes nothing, and every Fit gives a filling or a core
abbrev pub FillingsAndCores : Sheet → List Step → List Step → Type 0
FillingsAndCores s before after = Plays {S = Unit {0}} s (λ h _ b a f _. FillingOrCore s h b a f) [] tt before after tt
