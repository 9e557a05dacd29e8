-- The text that fit prints for a file. Assumes nothing.
use Rattle.std.specs.Prelude.{◌≡◌, ℕ, ◌≢◌, List, [], ◌∷◌, map, length, ℤ, Some, None, Ok, Err, Option, slice_index}
use Rattle.network.specs.Book.{BookMeaning}
use Rattle.choosers.specs.Choice.{Machine}
use Rattle.choosers.specs.Kinds.{pick, lighter, hold, held_or}
use Rattle.choosers.specs.declared.weighted.Weighted.{Weighted}
use Rattle.choosers.specs.declared.last_conflict.LastConflict.{LastConflict}
use Rattle.clash.specs.declared.fitted.Fitted.{Fitted as Values}
use Rattle.clash.specs.Running.{Lasting}
use Rattle.calls.specs.declared.call.Call.TheVariants.{Fit}
use Rattle.calls.specs.declared.answer.Answer.{Answer}
use Rattle.calls.specs.declared.answer.Answer.TheVariants.{Done, Fitted, Refused}
use Rattle.calls.specs.declared.step.Step.{Step}
use Rattle.calls.specs.Answers.{number_of}
use Rattle.calls.specs.Sheet.{Sheet, sheet, cells, Sizes, Checked, Opens, Enough}
use Rattle.calls.specs.Plays.{sizes}
use Rattle.calls.specs.Promise.{filling_of, FillingOrCore}
use Rattle.calls.specs.Runs.{StepRuns, fresh}
use Rattle.sheets.specs.declared.fault.LoadFault.{LoadFault}
use Rattle.sheets.specs.Faults.{number as fault_number, offset as fault_offset}
use Rattle.sheets.specs.Sheet.{Sheet as Stated}
use Rattle.sheets.specs.Meaning.{Means, number_at}
use Rattle.storage.specs.Outcome.{Outcome}
use Rattle.text.specs.Text.{fault_text}
use Rattle.report.specs.Report.{fits_text, clash_text}

-- the text of a Fit with so many lines, where f gives the number of each cell: of a filling, or of a core
abbrev pub fitted_text : ℕ → ℕ → (ℕ → ℤ) → Option ℕ → List ℕ
fitted_text lines cells f None = fits_text lines cells f
fitted_text lines cells f (Some core) = clash_text lines core

-- the text of an answer; only a Fit is done with something to tell
abbrev pub answer_text : ℕ → (ℕ → ℤ) → Answer → List ℕ
answer_text cells f Done = []
answer_text cells f (Fitted v) = fitted_text v.lines cells f v.core
answer_text cells f (Refused r) = fault_text (number_of r) 0

-- what the chooser means that fit runs under: last conflict over weighted
abbrev pub usual : Machine (LastConflict Weighted)
usual = record {
  names = λ c fs. held_or c.held fs (pick lighter fs (length fs));
  told = λ c e. record { below = c.below; held = hold c.held e };
}

-- that chooser as it starts, with no cell held
abbrev pub usual_start : LastConflict Weighted
usual_start = record { below = record {}; held = None }

-- how long the buffers are that a Fit wants
abbrev pub fit_sizes : Sizes
fit_sizes = record { work = 4096; log = 450; filling = 64 }

-- one call, a Fit with buffers that are long enough
pub record OneFit (steps : List Step) : Type 0 where
  pub step : Step
  pub alone : steps ≡ step ∷ []
  pub call : step.call ≡ Fit
  pub enough : Enough (sizes step.buffers)

-- the text of one Fit on a session just made over a sheet, where `number` gives the number at a place of a cell: why the session cannot be opened;
-- or the filling or the core that is promised, which are those of the Fit's runs
pub data FitText {C : Type 0} (k : Machine C) (c : C) (s : Sheet) (number : ℕ → ℕ → ℤ) : List ℕ → Type 0 where
  unopened : {n : ℕ} → Checked s n → n ≢ 0 → FitText k c s number (fault_text n 0)
  fits : {b a : Step} {f : Values} {y : Lasting C} → Opens s → FillingOrCore s [] b a f → StepRuns k s [] (fresh c) a f y → f.core ≡ None
      → FitText k c s number (fits_text f.lines (cells s) (λ c. number c (slice_index (filling_of s a) c)))
  clashes : {b a : Step} {f : Values} {core : ℕ} {y : Lasting C} → Opens s → FillingOrCore s [] b a f → StepRuns k s [] (fresh c) a f y → f.core ≡ Some core
      → FitText k c s number (clash_text f.lines core)

-- the text of a stated sheet: that of one Fit over a book with the sheet's rules, with the numbers of its lists
pub record SheetText (s : Stated) (t : List ℕ) : Type 0 where
  pub book : BookMeaning
  pub means : Means s book
  pub fit : FitText usual usual_start (sheet (map length s.lists) book) (number_at s.lists) t

-- the text for a file: the number and the offset of its first fault, or the text of the sheet that it is
pub data Answers (file : List ℕ) : List ℕ → Type 0 where
  refused : {e : LoadFault} → Outcome file (Err e) → Answers file (fault_text (fault_number e) (fault_offset e))
  read : {s : Stated} {t : List ℕ} → Outcome file (Ok s) → SheetText s t → Answers file t
