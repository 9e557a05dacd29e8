-- The text that replay prints for a file and a script. Assumes nothing.
use Rattle.std.specs.Prelude.{◌≡◌, ℕ, ◌+◌, Bool, true, false, List, ◌∷◌, ◌++◌, map, length, replicate, Ok, Err}
use Rattle.std.specs.List.{AllByRecursion}
use Rattle.network.specs.Book.{BookMeaning, flag_at, turned}
use Rattle.calls.specs.Sheet.{sheet}
use Rattle.sheets.specs.declared.fault.LoadFault.{LoadFault}
use Rattle.sheets.specs.Sheet.{Sheet as Stated}
use Rattle.sheets.specs.Meaning.{Means}
use Rattle.storage.specs.Outcome.{Outcome}
use Rattle.script.specs.declared.line.Line.{Line}
use Rattle.script.specs.declared.line.Line.TheVariants.{Blank, Call, Turn, NotUnderstood}
use Rattle.script.specs.Script.{IsScript}
use Rattle.replaying.specs.Lines.{load_line}
use Rattle.replaying.specs.Sessions.{SessionText}

-- the text of a session over a stated sheet, with the flagged rules turned round
pub record TurnedText (s : Stated) (flags : List Bool) (n : ℕ) (ls : List Line) (t : List ℕ) : Type 0 where
  pub book : BookMeaning
  pub means : Means s book
  pub session : SessionText (sheet (map length s.lists) (turned (flag_at flags) book)) n ls t

-- the line begins no session
abbrev pub stays : Line → Bool
stays (Turn flags) = false
stays Blank = true
stays (Call call) = true
stays NotUnderstood = true

-- no line of these begins a session
abbrev pub AllStay : List Line → Type 0
AllStay ls = AllByRecursion (λ l. stays l ≡ true) ls

-- the text of some lines, the first of which has the number n, on a session with the flagged rules turned round and, from each turn on, on a new one
pub data Sessions (s : Stated) : List Bool → ℕ → List Line → List ℕ → Type 0 where
  last : {flags : List Bool} {n : ℕ} {ls : List Line} {t : List ℕ} → AllStay ls → TurnedText s flags n ls t → Sessions s flags n ls t
  next : {flags turn : List Bool} {n : ℕ} {ls more : List Line} {t u : List ℕ} → AllStay ls → TurnedText s flags n ls t
      → Sessions s turn (n + length ls + 1) more u → Sessions s flags n (ls ++ (Turn turn ∷ more)) (t ++ u)

-- no rule is turned round
abbrev pub no_flags : List Bool
no_flags = replicate 64 false

-- the text for a file and a script: the line of the file's first fault; or the text of the script's sessions, each over a book with the rules of the
-- sheet that the file is, the first with no rule turned round
pub data Replays (file script : List ℕ) : List ℕ → Type 0 where
  refused : {e : LoadFault} → Outcome file (Err e) → Replays file script (load_line e)
  played : {s : Stated} {ls : List Line} {t : List ℕ} → Outcome file (Ok s) → IsScript script ls → Sessions s no_flags 1 ls t → Replays file script t
