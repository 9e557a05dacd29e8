-- What a session is, and what the single calls change. Assumes nothing.
use Rattle.std.specs.Prelude.{◌≡◌, ℕ, true, false, ◌≢◌, List, length, replicate, Some, None, slice_index, slice_index_or, slice_set}
use Rattle.network.specs.Book.{BookMeaning}
use Rattle.choosers.specs.Choice.{Machine}
use Rattle.runs.specs.declared.line.Line.{Line}
use Rattle.clash.specs.declared.fitted.Fitted.{Fitted as Values}
use Rattle.clash.specs.Running.{Lasting, lasting}
use Rattle.calls.specs.declared.call.Call.{Call}
use Rattle.calls.specs.declared.call.Call.TheVariants.{Pin, Free, Switch, Fit}
use Rattle.calls.specs.declared.answer.Answer.{Answer}
use Rattle.calls.specs.Answers.{said, returned}
use Rattle.calls.specs.Sheet.{Sheet, sheet, cells, Sizes, Judged}
use Rattle.calls.specs.History.{set_where}
use Rattle.calls.specs.Promise.{Keeps}
use Rattle.calls.specs.Runs.{starts, FitRuns, FitLaw, OnlyFit}
use Rattle.session.specs.Pins.{held}
use Rattle.session.specs.declared.table.Table.{Table}
use Rattle.session.specs.declared.session.Session.{Session}

-- the sheet of a session, by what its book means
abbrev pub sheet_of : {B C : Type 0} → (B → BookMeaning) → Session B C → Sheet
sheet_of meaning s = sheet s.lengths.now (meaning s.book)

-- what lasts from Fit to Fit
abbrev pub lasting_of : {B C : Type 0} → Session B C → Lasting C
lasting_of s = lasting s.chooser s.table.weights

-- a session just made
pub record Made {B C : Type 0} (lengths : List ℕ) (book : B) (chooser : C) (s : Session B C) : Type 0 where
  pub lists : s.lengths.now ≡ lengths
  pub book_is : s.book ≡ book
  pub chooser_is : s.chooser ≡ chooser
  pub pins : s.table.pins ≡ replicate 64 None
  pub switches : s.table.switches ≡ replicate 64 true
  pub weights : s.table.weights ≡ replicate 64 1

-- the table after a call that is not refused
abbrev pub changed : Table → Call → Table
changed t (Pin cell place) = record { pins = slice_set t.pins cell (Some place); switches = t.switches; weights = t.weights }
changed t (Free cell) = record { pins = slice_set t.pins cell None; switches = t.switches; weights = t.weights }
changed t (Switch rule on) = record { pins = t.pins; switches = slice_set t.switches rule on; weights = t.weights }
changed t Fit = t

-- the session with another table
abbrev pub with_table : {B C : Type 0} → Session B C → Table → Session B C
with_table s t = record { lengths = s.lengths; book = s.book; chooser = s.chooser; table = t }

-- the session with another chooser and other weights
abbrev pub with_lasting : {B C : Type 0} → Session B C → Lasting C → Session B C
with_lasting s l = record { lengths = s.lengths; book = s.book; chooser = l.chooser; table = record { pins = s.table.pins; switches = s.table.switches; weights = l.weights } }

-- a Pin, a Free or a Switch: answered as it is judged, whatever buffers there are; refused, it leaves the whole session untouched; otherwise it makes the one change
pub record Changed {B C : Type 0} (meaning : B → BookMeaning) (call : Call) (s : Session B C) (answer : Answer) (t : Session B C) : Type 0 where
  pub judged : (z : Sizes) → Judged (sheet_of meaning s) z call (said answer).number
  pub refused : (said answer).number ≢ 0 → t ≡ s
  pub done : (said answer).number ≡ 0 → t ≡ with_table s (changed s.table call)

-- what each cell starts with, by the pins of the table
abbrev pub table_start : List ℕ → Table → List ℕ
table_start lengths t = starts lengths (λ c. held (slice_index lengths c) (slice_index_or t.pins c None))

-- the rules that are on, by the switches of the table
abbrev pub table_on : BookMeaning → Table → ℕ
table_on m t = set_where (λ r. slice_index_or t.switches r false) m.count

-- a Fit that is not refused: its runs change the chooser and the weights alone, and it returns what they come to, which is a filling or a core as promised
pub record Solved {B C : Type 0} (meaning : B → BookMeaning) (k : Machine C) (s : Session B C) (log : List Line) (filling : List ℕ) (f : Values) (t : Session B C) (log' : List Line) (filling' : List ℕ) : Type 0 where
  pub kept : t ≡ with_lasting s (lasting_of t)
  pub runs : FitRuns k (meaning s.book) (table_start s.lengths.now s.table) (table_on (meaning s.book) s.table) (lasting_of s) log' filling' f (lasting_of t)
  pub only : OnlyFit k (meaning s.book) (table_start s.lengths.now s.table) (table_on (meaning s.book) s.table) (lasting_of s) log' filling' f (lasting_of t)
  pub law : FitLaw (meaning s.book) (table_start s.lengths.now s.table) (table_on (meaning s.book) s.table) log' filling' f
  pub keeps : Keeps (cells (sheet_of meaning s)) f log log' filling filling'

-- the lengths of the three buffers of a Fit
abbrev pub sizes_of : List ℕ → List Line → List ℕ → Sizes
sizes_of work log filling = record { work = length work; log = length log; filling = length filling }

-- a Fit: answered as it is judged; refused, session and buffers are untouched; otherwise it is solved
pub record FitCalled {B C : Type 0} (meaning : B → BookMeaning) (k : Machine C) (s : Session B C) (work : List ℕ) (log : List Line) (filling : List ℕ) (answer : Answer)
    (t : Session B C) (work' : List ℕ) (log' : List Line) (filling' : List ℕ) : Type 0 where
  pub judged : Judged (sheet_of meaning s) (sizes_of work log filling) Fit (said answer).number
  pub refused : (said answer).number ≢ 0 → (t ≡ s) × (work' ≡ work) × (log' ≡ log) × (filling' ≡ filling)
  pub done : (said answer).number ≡ 0 → (f : Values) × (said answer ≡ returned f) × Solved meaning k s log filling f t log' filling'
