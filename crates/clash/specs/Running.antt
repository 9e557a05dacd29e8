-- What lasts from run to run, and what is asked of something that runs. Assumes nothing.
use Rattle.std.specs.Prelude.{ℕ, List}
use Rattle.bits.specs.Sets.{Subset}
use Rattle.runs.specs.declared.line.Line.{Line}
use Rattle.cores.specs.Fit.{Lawful}

-- a chooser, and the weight of each rule
pub record Lasting (C : Type 0) : Type 0 where
  pub chooser : C
  pub weights : List ℕ

-- what lasts, of these parts
abbrev pub lasting : {C : Type 0} → C → List ℕ → Lasting C
lasting c w = record { chooser = c; weights = w }

-- every line is right, where `fits` says that some filling meets the rules of a set; and of rules that may be listed, any fewer may be listed too
pub record Laws {S O : Type 0} (ready fits : ℕ → Type 0) (runs : S → Line → O → S → Type 0) : Type 0 where
  pub lawful : Lawful runs fits
  pub part : (a b : ℕ) → Subset a b → ready b → ready a
