-- The lines that replay prints: the parts of a line have one blank between them, and every line ends with a newline byte. Assumes nothing.
use Rattle.std.specs.Prelude.{ℕ, List, [], ◌∷◌, ◌++◌, take, Some, None, Option, vec_items, codes}
use Rattle.std.specs.List.{flat_map}
use Rattle.std.specs.Option.{unwrap_or}
use Rattle.formulas.specs.Tree.{numeral}
use Rattle.sheets.specs.declared.fault.LoadFault.{LoadFault}
use Rattle.sheets.specs.Faults.{number, layer, offset}
use Rattle.shown.specs.Shown.{layer_text}
use Rattle.run_lines.specs.Lines.{set_text, log_line, numbers_line}
use Rattle.clash.specs.declared.fitted.Fitted.{Fitted as Values}
use Rattle.calls.specs.declared.call.Call.{Call}
use Rattle.calls.specs.declared.call.Call.TheVariants.{Pin, Free, Switch, Fit}
use Rattle.calls.specs.declared.answer.Answer.{Answer}
use Rattle.calls.specs.declared.answer.Answer.TheVariants.{Done, Fitted, Refused}
use Rattle.calls.specs.declared.step.Step.{Step}
use Rattle.calls.specs.Answers.{number_of}
use Rattle.calls.specs.Promise.{lines_of}

-- open and a number: 0, or that of the refusal
abbrev pub open_line : ℕ → List ℕ
open_line n = codes "open " ++ (numeral n ++ (10 ∷ []))

-- load, the number of a fault, its layer and its offset
abbrev pub load_line : LoadFault → List ℕ
load_line e = codes "load " ++ (numeral (number e) ++ (32 ∷ (layer_text (layer e) ++ (32 ∷ (numeral (offset e) ++ (10 ∷ []))))))

-- the line of a script that is not understood
abbrev pub not_understood : ℕ → List ℕ
not_understood n = codes "line " ++ (numeral n ++ (codes " not understood" ++ (10 ∷ [])))

-- the words for a call that is answered by a number, as a Fit is only where it was refused
abbrev pub call_text : Call → List ℕ
call_text (Pin cell place) = codes "pin"
call_text (Free cell) = codes "free"
call_text (Switch rule on) = codes "switch"
call_text Fit = codes "fit refused"

-- the words for a call, and its number
abbrev pub call_line : Call → ℕ → List ℕ
call_line call n = call_text call ++ (32 ∷ (numeral n ++ (10 ∷ [])))

-- the verdict of a Fit: 0 at a filling, 1 at a core
abbrev pub verdict_of : Option ℕ → ℕ
verdict_of None = 0
verdict_of (Some core) = 1

-- fit, the verdict, how many lines, and the core
abbrev pub fit_line : Values → List ℕ
fit_line f = codes "fit " ++ (numeral (verdict_of f.core) ++ (32 ∷ (numeral f.lines ++ (32 ∷ (set_text (unwrap_or f.core 0) ++ (10 ∷ []))))))

-- the line of a filling, if there is one
abbrev pub filling_text : Option ℕ → List ℕ → List ℕ
filling_text None places = numbers_line (codes "filling") places
filling_text (Some core) places = []

-- a Fit that was done: what it came to, its filling if there is one, and its log
abbrev pub fitted_text : ℕ → Step → Values → List ℕ
fitted_text cells a f = fit_line f ++ (filling_text f.core (take cells (vec_items a.buffers.filling)) ++ flat_map log_line (lines_of a f))

-- the answer to a call, on a session of so many cells
abbrev pub answer_text : ℕ → Step → Answer → List ℕ
answer_text cells a Done = call_line a.call 0
answer_text cells a (Fitted f) = fitted_text cells a f
answer_text cells a (Refused r) = call_line a.call (number_of r)
