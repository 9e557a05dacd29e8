-- What calls show: their answers, and what a Fit wrote. Assumes nothing.
use Rattle.std.specs.Prelude.{◌≡◌, ℕ, List, length, take, Some, None, vec_items}
use Rattle.std.specs.List.{AllZip}
use Rattle.runs.specs.declared.line.Line.{Line}
use Rattle.calls.specs.declared.call.Call.{Call}
use Rattle.calls.specs.declared.answer.Answer.{Answer}
use Rattle.calls.specs.declared.answer.Answer.TheVariants.{Done, Fitted}
use Rattle.calls.specs.declared.step.Step.{Step}
use Rattle.calls.specs.Sheet.{Enough}
use Rattle.calls.specs.Plays.{sizes}

-- what a call shows: that it was done; or, of a Fit, its lines and its filling, or its lines and its core
pub data Shown : Type 0 where
  done : Shown
  filled : List Line → List ℕ → Shown
  clashed : List Line → ℕ → Shown

-- the answer to a call that shows this
abbrev pub answer_of : Shown → Answer
answer_of done = Done
answer_of (filled lines f) = Fitted (record { lines = length lines; core = None })
answer_of (clashed lines core) = Fitted (record { lines = length lines; core = Some core })

-- the log begins with these lines
abbrev pub Logged : List Line → Step → Type 0
Logged lines a = take (length lines) (vec_items a.buffers.log) ≡ lines

-- the buffers hold what is shown, where the sheet has so many cells
abbrev pub Written : ℕ → Shown → Step → Type 0
Written cells done a = Unit {0}
Written cells (filled lines f) a = Logged lines a × (take cells (vec_items a.buffers.filling) ≡ f)
Written cells (clashed lines core) a = Logged lines a

-- the call shows this
pub record Shows (cells : ℕ) (x : Shown) (a : Step) : Type 0 where
  pub answer : a.answer ≡ answer_of x
  pub written : Written cells x a

-- each of some calls shows what stands in its place
abbrev pub Show : ℕ → List Shown → List Step → Type 0
Show cells xs after = AllZip (Shows cells) xs after

-- the steps make these calls, with buffers that are long enough for a Fit
abbrev pub Make : List Call → List Step → Type 0
Make cs before = AllZip (λ c b. (b.call ≡ c) × Enough (sizes b.buffers)) cs before
