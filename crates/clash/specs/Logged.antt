-- Lines written into a log, and a Fit's answer. Assumes nothing.
use Rattle.std.specs.Prelude.{◌≡◌, ℕ, ◌+◌, ◌≤◌, List, ◌++◌, length, take, drop, Some, None}
use Rattle.runs.specs.declared.line.Line.{Line}
use Rattle.cores.specs.Core.{Outcome, Outcome.left, Outcome.core, RightFit}
use Rattle.cores.specs.Fit.{Fit}
use Rattle.clash.specs.declared.fitted.Fitted.{Fitted}

-- the lines ls stand in the log from one place to another, and the lines before and after them are as they were
pub record Wrote (before : List Line) (from to : ℕ) (ls : List Line) (after : List Line) : Type 0 where
  pub upto : to ≡ from + length ls
  pub begins : take to after ≡ take from before ++ ls
  pub keeps : drop to after ≡ drop to before

-- the answer to an outcome: no core, where `sets` are those that the first run left; or the core
abbrev pub Answers : {O : Type 0} → Outcome O → Fitted → O → Type 0
Answers (left o) f sets = (f.core ≡ None) × (o ≡ sets)
Answers (core c) f sets = f.core ≡ Some c

-- a Fit's log begins with the lines of its runs, in order, and its later lines are kept; the answer is its outcome, which is a right one
pub record Logged {S O : Type 0} (R : S → Line → O → S → Type 0) (Fits : ℕ → Type 0) (on : ℕ) (s : S) (before : List Line) (f : Fitted) (t : S) (sets : O) (after : List Line) : Type 0 where
  pub out : Outcome O
  pub runs : Fit R on s (take f.lines after) out t
  pub law : RightFit Fits on (take f.lines after) out
  pub answers : Answers out f sets
  pub inside : f.lines ≤ length after
  pub keeps : drop f.lines after ≡ drop f.lines before
