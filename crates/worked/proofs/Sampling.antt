-- The faults of the worked formulas, and the rows that one permits. Assumes nothing.
use Rattle.std.proofs.Common.{◌≡◌, ℕ, ◌^◌, ◌<◌, ◌≤◌, true, false, not, List, length, replicate, ℤ, pos, negsuc, None, Ok, Err, Result, codes, sym, refl, ap, subst, inl, inr, arith}
use Rattle.std.specs.Prelude.{is_ok}
use Rattle.std.specs.Result.{result_err}
use Rattle.std.proofs.lemmas.Bool.{and_right, eq-eqb, false≢true}
use Rattle.formulas.specs.declared.fault.Flaw.TheVariants.{Grammar, Cells}
use Rattle.formulas.specs.declared.node.Node.{Node}
use Rattle.reader.specs.declared.unread.Unread.{Unread}
use Rattle.formulas.specs.declared.node.Relation.TheVariants.{Equal, NotEqual}
use Rattle.formulas.specs.Tree.{Condition, compares, numeral, side_text, relation_text, cells_of}
use Rattle.formulas.specs.Truth.{truth, same, worth}
use Rattle.formulas.specs.Faults.{First, Accepted, Outside}
use Rattle.formulas.specs.Reading.{Spans, Clear, AwaitsSide}
use Rattle.formulas.proofs.Firsts.{first_grammar, first_cells, text_unique}
use Rattle.formulas.proofs.Levels.{deep_start}
use Rattle.formulas.proofs.Clears.{clear_start, clear_side, clear_relation, clear_digits, clear_condition}
use Rattle.formulas.proofs.Awaits.{await_start, right_side}
use Rattle.formulas.proofs.Tokens.{digits_number, leading_outside}
use Rattle.formulas.proofs.Exact.{spans_whole, at_end}
use Rattle.reader.specs.declared.formula.Formula.{Formula}
use Rattle.reader.specs.Formula.{Fits, Decided}
use Rattle.sheets.specs.Meaning.{formula_rule, listed, numbers_at}
use Rattle.worked.specs.declared.sample.Sample.{Sample}
use Rattle.worked.specs.declared.sample.Sample.TheVariants.{NoCell, LeadingZero, UnlikeItself}
use Rattle.worked.specs.Examples.{cell, number}
use Rattle.worked.specs.Samples.{bytes_of, unread_of, PermitsNone}

one_is_one : Condition
one_is_one = compares (number 1) Equal (number 1)

first_no_cell : (cells : ℕ) → cells ≤ 1000000 → First cells (codes "1=1") Cells 0
unfolding numeral one_is_one
first_no_cell cells many =
    let s = codes "1=1" in
    first_cells (record { first = refl; formula = one_is_one; said = refl; wrong = inl refl })
    (clear_condition many one_is_one clear_start (deep_start s) (spans_whole s one_is_one refl) (omega arith, omega arith) (omega arith) (at_end one_is_one 256 refl))

first_leading_zero : (cells : ℕ) → 1 ≤ cells → cells ≤ 1000000 → First cells (codes "C0=07") Grammar 4
unfolding numeral
first_leading_zero cells some many =
    let s = codes "C0=07" in
    let side : Spans s 0 (side_text (cell 0)) 2 = record { upto = refl; within = omega arith; said = refl } in
    let equal : Spans s 2 (relation_text Equal) 3 = record { upto = refl; within = omega arith; said = refl } in
    let zero : Spans s 3 (numeral 0) 4 = record { upto = refl; within = omega arith; said = refl } in
    let awaits : AwaitsSide s 3 = right_side s 0 await_start (λ e. omega arith) (λ e. omega arith) (λ e. omega arith) (cell 0) Equal side equal tt in
    let outside : Outside s 4 = leading_outside (digits_number awaits (λ e. omega arith) (λ e. omega arith)) zero (omega arith, omega arith) in
    let c₂ : Clear cells s 2 = clear_side many (cell 0) clear_start side (some, tt) ((λ d. omega (arith, d.0, d.1)), (λ e. omega arith), (λ e. omega arith)) in
    let c₃ : Clear cells s 3 = clear_relation many Equal c₂ equal in
    first_grammar outside (clear_digits zero (omega arith) (inr refl) c₃)

unlike : Condition
unlike = compares (cell 0) NotEqual (cell 0)

accepted_unlike : (cells : ℕ) → 1 ≤ cells → Accepted cells (codes "C0<>C0") unlike
unfolding numeral unlike
accepted_unlike cells some = record { said = refl; known = ((some, tt), (some, tt)); shallow = omega arith; some = omega arith; few = omega arith }

same_self : (z : ℤ) → same z z ≡ true
same_self (pos n) = eq-eqb n n refl
same_self (negsuc n) = eq-eqb n n refl

pub unlike_none : PermitsNone (codes "C0<>C0")
unfolding numeral unlike
unlike_none c e lists row =
    subst (λ d. (formula_rule lists d).permits row ≡ false) (text_unique unlike c e)
    (and_right (listed lists (cells_of unlike) row) (truth (numbers_at lists (replicate 64 (pos 0)) (cells_of unlike) row) unlike)
    (ap not (same_self (worth (numbers_at lists (replicate 64 (pos 0)) (cells_of unlike) row) (cell 0)))))

short : (x : Sample) → length (bytes_of x) ≤ 6
short NoCell = omega arith
short LeadingZero = omega arith
short UnlikeItself = omega arith

-- a store of nodes can take the bytes of each
fits : (x : Sample) (s : List ℕ) (nodes : List Node) → s ≡ bytes_of x → length nodes ≡ 32768 → Fits s nodes 0
fits x s nodes e f = record { few = omega (arith, f); room = omega (arith, short x, ap length e, f) }

no_error : (r : Result Formula Unread) → is_ok r ≡ true → result_err r ≡ None
no_error (Ok v) e = refl
no_error (Err v) e = absurd (false≢true e)

pub unread : (x : Sample) (cells : ℕ) (s : List ℕ) (nodes : List Node) (r : Result Formula Unread) → cells < 2 ^ 8 → s ≡ bytes_of x → length nodes ≡ 32768
    → Decided cells s nodes 0 r → 1 ≤ cells → result_err r ≡ unread_of x
unread NoCell cells s nodes r l e f d some = ap result_err (d.refuses Cells 0 (fits NoCell s nodes e f) (subst (λ t. First cells t Cells 0) (sym e) (first_no_cell cells (omega arith))))
unread LeadingZero cells s nodes r l e f d some =
    ap result_err (d.refuses Grammar 4 (fits LeadingZero s nodes e f) (subst (λ t. First cells t Grammar 4) (sym e) (first_leading_zero cells some (omega arith))))
unread UnlikeItself cells s nodes r l e f d some =
    no_error r (d.accepts unlike (fits UnlikeItself s nodes e f) (subst (λ t. Accepted cells t unlike) (sym e) (accepted_unlike cells some)))
