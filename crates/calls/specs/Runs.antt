-- Which filling, core and lines a Fit gives: those of its runs. Assumes nothing.
use Rattle.std.specs.Prelude.{◌≡◌, ℕ, ◌-◌, ◌^◌, ◌≤◌, List, [], map, length, take, replicate, Some, None, vec_items, vec_len, Option, slice_index}
use Rattle.std.specs.List.{AllByRecursion, AllZip, range_with_len}
use Rattle.bits.specs.Sets.{size}
use Rattle.network.specs.Book.{BookMeaning}
use Rattle.network.specs.Fillings.{Inside, MeetsAll, Meetable}
use Rattle.choosers.specs.Choice.{Machine}
use Rattle.runs.specs.declared.line.Line.{Line}
use Rattle.runs.specs.Law.{Ready, Right, Alone}
use Rattle.runs.specs.Run.{Run}
use Rattle.cores.specs.Core.{Core, Short, Outcome, Outcome.left, Outcome.core}
use Rattle.cores.specs.Fit.{Fit}
use Rattle.clash.specs.declared.fitted.Fitted.{Fitted as Values}
use Rattle.clash.specs.Running.{Lasting, lasting}
use Rattle.calls.specs.declared.step.Step.{Step}
use Rattle.calls.specs.Answers.{said, returned}
use Rattle.calls.specs.Sheet.{Sheet, places}
use Rattle.calls.specs.History.{Did, standing, on_after}
use Rattle.calls.specs.Plays.{sizes, Plays}
use Rattle.calls.specs.Promise.{lines_of, filling_of, StepKeeps}

-- a run that may be asked for, from a chooser and weights to others: it writes the line and leaves the sets
pub record Ran {C : Type 0} (k : Machine C) (m : BookMeaning) (start : List ℕ) (s : Lasting C) (l : Line) (sets : List ℕ) (t : Lasting C) : Type 0 where
  pub ready : Ready m start l.listed
  pub run : Run k m start l.listed s.chooser s.weights l t.chooser t.weights sets

-- what a cell starts with, where its list has so many places: all of them; where it is pinned, that place and no other
abbrev pub start_of : ℕ → Option ℕ → ℕ
start_of places None = 2 ^ places - 1
start_of places (Some v) = 2 ^ v

-- what each cell starts with
abbrev pub starts : List ℕ → (ℕ → Option ℕ) → List ℕ
starts lengths pins = map (λ c. start_of (slice_index lengths c) (pins c)) (range_with_len 0 (length lengths))

-- what each cell starts with after the calls h
abbrev pub start_after : Sheet → List Did → List ℕ
start_after s h = starts s.lengths (standing h)

-- what a Fit returns by its outcome: the filling that its first run left, or the core that its rounds found
abbrev pub Comes : Outcome (List ℕ) → Values → List ℕ → Type 0
Comes (left sets) f filling = (f.core ≡ None) × Alone sets filling
Comes (core c) f filling = f.core ≡ Some c

-- a Fit of the rules that are on, from the starting sets: its log begins with the lines of its runs, in order, and it returns what they come to
pub record FitRuns {C : Type 0} (k : Machine C) (m : BookMeaning) (start : List ℕ) (on : ℕ) (x : Lasting C) (log : List Line) (filling : List ℕ) (f : Values) (y : Lasting C) : Type 0 where
  pub out : Outcome (List ℕ)
  pub runs : Fit (Ran k m start) on x (take f.lines log) out y
  pub comes : Comes out f (take (length start) filling)
  pub counted : f.lines ≤ length log

-- what the runs of a Fit come to, by the fillings inside the starting sets: where it gives no core, its bytes are a filling that meets every rule that is on,
-- in one line; where it gives one, no filling does, and it is a core of these rules, in few lines; and each line is right
pub record FitLaw (m : BookMeaning) (start : List ℕ) (on : ℕ) (log : List Line) (filling : List ℕ) (f : Values) : Type 0 where
  pub filled : f.core ≡ None → Inside (take (length start) filling) start × MeetsAll m on (take (length start) filling) × (f.lines ≡ 1)
  pub clashed : (c : ℕ) → f.core ≡ Some c → (Meetable m start on → ⊥) × Core (Meetable m start) on c × Short (size on) (size c) f.lines
  pub right : AllByRecursion (Right (Meetable m start)) (take f.lines log)

-- nothing else comes of these runs: not another answer, nor other lines or another filling, whatever else the log and the bytes hold, nor another chooser or other weights
abbrev pub OnlyFit : {C : Type 0} → Machine C → BookMeaning → List ℕ → ℕ → Lasting C → List Line → List ℕ → Values → Lasting C → Type 0
OnlyFit {C} k m start on x log filling f y = (log' : List Line) (filling' : List ℕ) (g : Values) (z : Lasting C) → FitRuns k m start on x log' filling' g z
    → (f ≡ g) × (take f.lines log ≡ take g.lines log') × (f.core ≡ None → take (length start) filling ≡ take (length start) filling') × (y ≡ z)

-- a Fit's runs, for the buffers of a step, after the calls h
abbrev pub StepRuns : {C : Type 0} → Machine C → Sheet → List Did → Lasting C → Step → Values → Lasting C → Type 0
StepRuns k s h x a f y = FitRuns k s.book (start_after s h) (on_after s h) x (vec_items a.buffers.log) (vec_items a.buffers.filling) f y

-- a Fit goes by its runs, keeps what it is to keep, and leaves the buffers as long as they were
abbrev pub StepDone : {C : Type 0} → Machine C → Sheet → List Did → Lasting C → Step → Step → Values → Lasting C → Type 0
StepDone k s h x b a f y = StepRuns k s h x a f y × StepKeeps s b a f × (sizes a.buffers ≡ sizes b.buffers)

-- calls one after another, each Fit by its runs: from a chooser and weights to others
abbrev pub PlaysByRuns : {C : Type 0} → Machine C → Sheet → List Did → Lasting C → List Step → List Step → Lasting C → Type 0
PlaysByRuns k s = Plays s (λ h x b a f y. StepRuns k s h x a f y)

-- what lasts where a session is just made: its chooser, and 1 as the weight of each rule
abbrev pub fresh : {C : Type 0} → C → Lasting C
fresh chooser = lasting chooser (replicate 64 1)

-- two steps that make the same call with buffers of the same lengths
pub record Alike (b b' : Step) : Type 0 where
  pub call : b.call ≡ b'.call
  pub work : vec_len b.buffers.work ≡ vec_len b'.buffers.work
  pub log : vec_len b.buffers.log ≡ vec_len b'.buffers.log
  pub filling : vec_len b.buffers.filling ≡ vec_len b'.buffers.filling

-- two steps with the same answer, after a Fit also with the same lines and, at a filling, the same filling
pub record Agree (s : Sheet) (a a' : Step) : Type 0 where
  pub call : a.call ≡ a'.call
  pub answer : a.answer ≡ a'.answer
  pub lines : (f : Values) → said a.answer ≡ returned f → lines_of a f ≡ lines_of a' f
  pub filling : (f : Values) → said a.answer ≡ returned f → f.core ≡ None → filling_of s a ≡ filling_of s a'

-- what was played follows from the sheet, the chooser at the start and the calls: whatever else the buffers hold at entry,
-- every play of these calls by runs has these answers, lines and fillings, and leaves this
abbrev pub Follows : {C : Type 0} → Machine C → Sheet → Lasting C → List Step → List Step → Lasting C → Type 0
Follows {C} k s x before after y = (before' after' : List Step) (y' : Lasting C) → AllZip Alike before before' → PlaysByRuns k s [] x before' after' y'
    → AllZip (Agree s) after after' × (y ≡ y')
