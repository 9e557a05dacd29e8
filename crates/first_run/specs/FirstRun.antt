-- The text that once prints for a file. Assumes nothing.
use Rattle.std.specs.Prelude.{◌≡◌, ℕ, ◌≢◌, List, [], ◌++◌, map, length, take, replicate, codes, Ok, Err, Result}
use Rattle.bits.specs.Sets.{members}
use Rattle.network.specs.Book.{BookMeaning}
use Rattle.network.specs.Fillings.{Meetable}
use Rattle.choosers.specs.declared.weighted.Weighted.{Weighted}
use Rattle.choosers.specs.declared.last_conflict.LastConflict.{LastConflict}
use Rattle.runs.specs.declared.line.Line.{Line}
use Rattle.runs.specs.declared.line.Verdict.TheVariants.{Met, Unmet}
use Rattle.runs.specs.Run.{Run}
use Rattle.runs.specs.Law.{Right, Fills, Alone}
use Rattle.calls.specs.Sheet.{Sheet, sheet, Checked, Opens}
use Rattle.calls.specs.History.{on_after}
use Rattle.calls.specs.Runs.{start_after}
use Rattle.sheets.specs.declared.fault.LoadFault.{LoadFault}
use Rattle.sheets.specs.Faults.{number, offset}
use Rattle.sheets.specs.Sheet.{Sheet as Stated}
use Rattle.sheets.specs.Meaning.{Means}
use Rattle.storage.specs.Outcome.{Outcome}
use Rattle.text.specs.Text.{fault_text}
use Rattle.run_lines.specs.Lines.{log_line, numbers_line}
use Rattle.answers.specs.Answers.{usual, usual_start}

-- one run of all rules, from whole lists and with 1 as the weight of each rule, under the chooser that fit has: its line is right,
-- and where it found a filling the sets that it left hold one that meets all rules
pub record OneRun (s : Sheet) (line : Line) (weights sets : List ℕ) : Type 0 where
  pub chooser : LastConflict Weighted
  pub run : Run usual s.book (start_after s []) (on_after s []) usual_start (replicate 64 1) line chooser weights sets
  pub right : Right (Meetable s.book (start_after s [])) line
  pub fills : line.verdict ≡ Met → Fills s.book (start_after s []) (on_after s []) sets

-- the line of what a run found: the filling that its sets hold, or the rules used
pub data Found (line : Line) (sets : List ℕ) : List ℕ → Type 0 where
  filling : {f : List ℕ} → line.verdict ≡ Met → Alone sets f → Found line sets (numbers_line (codes "filling") f)
  used : line.verdict ≡ Unmet → Found line sets (numbers_line (codes "used") (members line.used))

-- the lines that are told of a run over so many rules: its own, what it found, and the weights
pub record Told (rules : ℕ) (line : Line) (weights sets : List ℕ) (t : List ℕ) : Type 0 where
  pub second : List ℕ
  pub found : Found line sets second
  pub told : t ≡ log_line line ++ (second ++ numbers_line (codes "weights") (take rules weights))

-- the text of a sheet: why no session can be opened over it, or what is told of a run
pub data RunText (s : Sheet) : List ℕ → Type 0 where
  unopened : {n : ℕ} → Checked s n → n ≢ 0 → RunText s (fault_text n 0)
  made : {t : List ℕ} {line : Line} {weights sets : List ℕ} → Opens s → OneRun s line weights sets → Told s.book.count line weights sets t → RunText s t

-- the text of a stated sheet: that of a run over a book with the sheet's rules
pub record SheetText (s : Stated) (t : List ℕ) : Type 0 where
  pub book : BookMeaning
  pub means : Means s book
  pub run : RunText (sheet (map length s.lists) book) t

-- the text of what a file was read as
abbrev pub text_of : Result Stated LoadFault → List ℕ → Type 0
text_of (Ok s) t = SheetText s t
text_of (Err e) t = t ≡ fault_text (number e) (offset e)

-- the text for a file: that of the sheet that it is, or of its first fault
pub record FirstRun (file t : List ℕ) : Type 0 where
  pub read : Result Stated LoadFault
  pub outcome : Outcome file read
  pub text : text_of read t
