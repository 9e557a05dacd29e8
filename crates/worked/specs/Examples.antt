-- The worked sheets, and what is to come of them. Assumes nothing.
use Rattle.std.specs.Prelude.{◌≡◌, ℕ, false, List, [], ◌∷◌, map, length, take, ℤ, pos, codes}
use Rattle.bits.specs.Sets.{set_of}
use Rattle.network.specs.Book.{BookMeaning}
use Rattle.choosers.specs.declared.weighted.Weighted.{Weighted}
use Rattle.choosers.specs.declared.last_conflict.LastConflict.{LastConflict}
use Rattle.runs.specs.declared.line.Line.{Line}
use Rattle.runs.specs.declared.line.Verdict.TheVariants.{Met, Unmet}
use Rattle.clash.specs.Running.{Lasting}
use Rattle.calls.specs.declared.call.Call.{Call}
use Rattle.calls.specs.declared.call.Call.TheVariants.{Pin, Free, Switch, Fit}
use Rattle.calls.specs.declared.step.Step.{Step}
use Rattle.calls.specs.Sheet.{sheet}
use Rattle.calls.specs.Runs.{fresh, PlaysByRuns}
use Rattle.rows.specs.declared.rule.Kind.{Kind}
use Rattle.rows.specs.declared.rule.Kind.TheVariants.{Permitted, Forbidden}
use Rattle.formulas.specs.declared.node.Shift.TheVariants.{Bare}
use Rattle.formulas.specs.declared.node.Side.{Side}
use Rattle.formulas.specs.declared.node.Side.TheVariants.{Number, Cell}
use Rattle.formulas.specs.declared.node.Relation.TheVariants.{Equal, NotEqual, Less}
use Rattle.formulas.specs.Tree.{Condition, compares}
use Rattle.sheets.specs.Sheet.{Sheet}
use Rattle.sheets.specs.Meaning.{Means}
use Rattle.answers.specs.Answers.{usual, usual_start}
use Rattle.worked.specs.declared.example.Example.{Example}
use Rattle.worked.specs.declared.example.Example.TheVariants.{Opposed, LoneRule, NothingPermitted, NothingForbidden, Freed}
use Rattle.worked.specs.Shows.{Shown, done, filled, clashed, Show, Make}

-- the list of each cell
abbrev pub lists : List (List ℤ)
lists =
    let three = pos 1 ∷ pos 2 ∷ pos 3 ∷ [] in
    three ∷ three ∷ three ∷ []

-- the side C0, C1 and so on
abbrev pub cell : ℕ → Side
cell c = Cell c Bare

-- the side 1, 2 and so on
abbrev pub number : ℕ → Side
number n = Number (pos n)

-- the sheet with these formulas
abbrev pub with_formulas : List Condition → Sheet
with_formulas conditions = record { lists = lists; rows = []; formulas = conditions }

-- the sheet with one rule of no rows, on C0
abbrev pub with_no_row : Kind → Sheet
with_no_row kind = record { lists = lists; rows = record { kind = kind; cells = 0 ∷ []; rows = [] } ∷ []; formulas = [] }

-- C0<C1, C1<C0 and C2=2
abbrev pub opposed : Sheet
opposed = with_formulas (compares (cell 0) Less (cell 1) ∷ compares (cell 1) Less (cell 0) ∷ compares (cell 2) Equal (number 2) ∷ [])

-- C0<C1, C0<>1 and C2<1
abbrev pub lone_rule : Sheet
lone_rule = with_formulas (compares (cell 0) Less (cell 1) ∷ compares (cell 0) NotEqual (number 1) ∷ compares (cell 2) Less (number 1) ∷ [])

-- the sheet of each example
abbrev pub sheet_of : Example → Sheet
sheet_of Opposed = opposed
sheet_of LoneRule = lone_rule
sheet_of NothingPermitted = with_no_row Permitted
sheet_of NothingForbidden = with_no_row Forbidden
sheet_of Freed = opposed

-- the calls that are made on it
abbrev pub calls_of : Example → List Call
calls_of Opposed = Fit ∷ []
calls_of LoneRule = Fit ∷ []
calls_of NothingPermitted = Fit ∷ []
calls_of NothingForbidden = Fit ∷ []
calls_of Freed = Switch 1 false ∷ Pin 0 2 ∷ Fit ∷ Free 0 ∷ Fit ∷ []

-- the line of a run that found a filling, by the rules listed
abbrev pub met : List ℕ → Line
met listed = record { listed = set_of listed; used = 0; verdict = Met }

-- the line of a run that found none, by the rules listed and the rules used
abbrev pub unmet : List ℕ → List ℕ → Line
unmet listed used = record { listed = set_of listed; used = set_of used; verdict = Unmet }

-- a Fit that found a core, by its rules
abbrev pub clash : List Line → List ℕ → Shown
clash lines core = clashed lines (set_of core)

-- what each of these calls shows
abbrev pub shown_of : Example → List Shown
shown_of Opposed =
    let both = 0 ∷ 1 ∷ [] in
    clash (unmet (0 ∷ 1 ∷ 2 ∷ []) both ∷ unmet both both ∷ met [] ∷ met (0 ∷ []) ∷ met (1 ∷ []) ∷ unmet both both ∷ []) both ∷ []
shown_of LoneRule =
    let whole = 0 ∷ 1 ∷ 2 ∷ [] in
    let lone = 2 ∷ [] in
    clash (unmet whole whole ∷ met [] ∷ met (0 ∷ 1 ∷ []) ∷ unmet lone lone ∷ []) lone ∷ []
shown_of NothingPermitted =
    let only = 0 ∷ [] in
    clash (unmet only only ∷ met [] ∷ unmet only only ∷ []) only ∷ []
shown_of NothingForbidden = filled (met (0 ∷ []) ∷ []) (0 ∷ 0 ∷ 0 ∷ []) ∷ []
shown_of Freed =
    let first = 0 ∷ [] in
    done ∷ done ∷ clash (unmet (0 ∷ 2 ∷ []) first ∷ unmet first first ∷ met [] ∷ unmet first first ∷ []) first
    ∷ done ∷ filled (met (0 ∷ 2 ∷ []) ∷ []) (0 ∷ 1 ∷ 1 ∷ []) ∷ []

-- the weights of the rules after these calls
abbrev pub weights_of : Example → List ℕ
weights_of Opposed = 1 ∷ 4 ∷ 1 ∷ []
weights_of LoneRule = 1 ∷ 1 ∷ 3 ∷ []
weights_of NothingPermitted = 3 ∷ []
weights_of NothingForbidden = 1 ∷ []
weights_of Freed = 4 ∷ 1 ∷ 1 ∷ []

-- what fit prints for the file of the sheet, where one Fit is made
abbrev pub text_of : Example → List ℕ
text_of Opposed = codes "CLASH 6\nrule 0\nrule 1\n"
text_of LoneRule = codes "CLASH 4\nrule 2\n"
text_of NothingPermitted = codes "CLASH 3\nrule 0\n"
text_of NothingForbidden = codes "FITS 1\nC0=1\nC1=1\nC2=1\n"
text_of Freed = codes "CLASH 6\nrule 0\nrule 1\n"

-- the steps show what the calls of the example are to show, and these are the weights after them
abbrev pub Comes : Example → List Step → List ℕ → Type 0
Comes x after weights = Show 3 (shown_of x) after × (take (length (weights_of x)) weights ≡ weights_of x)

-- made over a book that has the rules of the example's sheet, from the steps before to the steps after, its calls come to that
abbrev pub Worked : Example → List ℕ → BookMeaning → List Step → List Step → List ℕ → Type 0
Worked x lengths book before after weights = Means (sheet_of x) book → lengths ≡ map length lists → Make (calls_of x) before → Comes x after weights

-- every play of these calls by runs, under last conflict over weighted and over any book that has the rules of the example's sheet, comes to that
abbrev pub Holds : Example → List Call → Type 0
Holds x calls = (book : BookMeaning) (before after : List Step) (y : Lasting (LastConflict Weighted)) → Means (sheet_of x) book → Make calls before
    → PlaysByRuns usual (sheet (map length lists) book) [] (fresh usual_start) before after y → Comes x after y.weights
