-- A session of a script: its calls, what is promised of them, and its text. Assumes nothing.
use Rattle.std.specs.Prelude.{◌≡◌, ℕ, ◌+◌, List, [], ◌∷◌, ◌++◌, map, Some, None, Option}
use Rattle.std.specs.List.{filter_map, AllByRecursion}
use Rattle.choosers.specs.declared.weighted.Weighted.{Weighted}
use Rattle.choosers.specs.declared.last_conflict.LastConflict.{LastConflict}
use Rattle.clash.specs.Running.{Lasting}
use Rattle.calls.specs.declared.call.Call.{Call}
use Rattle.calls.specs.declared.call.Call.TheVariants.{Pin, Free, Switch, Fit}
use Rattle.calls.specs.declared.step.Step.{Step}
use Rattle.calls.specs.Sheet.{Sheet, cells, Sizes, Checked}
use Rattle.calls.specs.Plays.{sizes}
use Rattle.calls.specs.Promise.{FillingsAndCores}
use Rattle.calls.specs.Runs.{PlaysByRuns, Follows, fresh}
use Rattle.answers.specs.Answers.{usual, usual_start, fit_sizes}
use Rattle.script.specs.declared.line.Line.{Line}
use Rattle.script.specs.declared.line.Line.TheVariants.{Blank, Call as CallLine, Turn, NotUnderstood}
use Rattle.replaying.specs.Lines.{open_line, not_understood, answer_text}

-- the call of a line, if it is one
abbrev pub call_of : Line → Option Call
call_of (CallLine call) = Some call
call_of Blank = None
call_of (Turn flags) = None
call_of NotUnderstood = None

-- the calls among some lines, in order
abbrev pub calls_of : List Line → List Call
calls_of ls = filter_map call_of ls

-- how long the buffers of a call are: those of a Fit as long as one wants, and others empty
abbrev pub room_of : Call → Sizes
room_of Fit = fit_sizes
room_of (Pin cell place) = record { work = 0; log = 0; filling = 0 }
room_of (Free cell) = record { work = 0; log = 0; filling = 0 }
room_of (Switch rule on) = record { work = 0; log = 0; filling = 0 }

-- the calls among some lines, still to be made
pub record Prepared (ls : List Line) (before : List Step) : Type 0 where
  pub calls : map (λ b. b.call) before ≡ calls_of ls
  pub room : AllByRecursion (λ b. sizes b.buffers ≡ room_of b.call) before

-- what is told of some lines, the first of which has the number n, where the calls among them came to these steps, on a session of so many cells
abbrev pub told : ℕ → ℕ → List Line → List Step → List ℕ
told cells n [] after = []
told cells n (Blank ∷ ls) after = told cells (n + 1) ls after
told cells n (NotUnderstood ∷ ls) after = not_understood n ++ told cells (n + 1) ls after
told cells n (Turn flags ∷ ls) after = told cells (n + 1) ls after
told cells n (CallLine call ∷ ls) [] = told cells (n + 1) ls []
told cells n (CallLine call ∷ ls) (a ∷ after) = answer_text cells a a.answer ++ told cells (n + 1) ls after

-- the text of a session over a sheet, with the calls among some lines, the first of which has the number n: whether it is open, and what is told of the
-- lines, where every Fit came to a filling or a core as promised, namely those of its runs, and these follow from the sheet and the calls
pub record SessionText (s : Sheet) (n : ℕ) (ls : List Line) (t : List ℕ) : Type 0 where
  pub number : ℕ
  pub checked : Checked s number
  pub before : List Step
  pub after : List Step
  pub prepared : Prepared ls before
  pub fillings_and_cores : FillingsAndCores s before after
  pub left : Lasting (LastConflict Weighted)
  pub runs : PlaysByRuns usual s [] (fresh usual_start) before after left
  pub follows : Follows usual s (fresh usual_start) before after left
  pub text : t ≡ open_line number ++ told (cells s) n ls after
