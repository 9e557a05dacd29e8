-- The number that stands for a verdict, where a log line is read as numbers. Assumes nothing.
use Rattle.std.specs.Prelude.{ℕ}
use Rattle.runs.specs.declared.line.Verdict.{Verdict}
use Rattle.runs.specs.declared.line.Verdict.TheVariants.{Met, Unmet}

-- 0 where some filling meets the listed rules, and 1 where none does
abbrev pub number_of : Verdict → ℕ
number_of Met = 0
number_of Unmet = 1
