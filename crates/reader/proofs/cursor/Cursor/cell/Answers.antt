use Rattle.std.proofs.Common.{◌+◌, ◌≤◌, sym, subst, inl, inr, arith}
use Rattle.formulas.specs.Tree.{numeral}
use Rattle.formulas.specs.Faults.{Digit}
use Rattle.formulas.specs.Reading.{Spans, AwaitsDigits}
use Rattle.formulas.proofs.Firsts.{first_range}
use Rattle.formulas.proofs.Tokens.{digits_cell, digits_outside, leading_outside, cell_large}
use Rattle.reader.proofs.Refusals.{out_as, refuses, told, no_digits, zero_of, cell_clear}
use Rattle.reader.proofs.Places.{reads_ahead, reads_join, ahead_in, moved, first_in, clear_on, spans_after, clear_letter_read, some_digit, no_digit}
use Rattle.reader.proofs.cursor.Cursor.cell.Goals as goal

pub returns-in_err-cell : goal.returns-in_err-cell
returns-in_err-cell c =
    let r = c.requires.letter in
    let d = c.args.name in
    let b = c.in_err-cell.ensures in
    out_as c.from_residual.result _ _ c.in_err-cell.field-0.0 c.from_residual.ensures.1
    (first_in r (refuses d.at _ b.0
    (digits_outside (moved (λ t k. AwaitsDigits 0 t.bytes.now k) r (digits_cell c.requires.awaits (reads_ahead r))) d.within b.1)
    (clear_letter_read r (λ m t e. absurd (no_digits d.text.now.bytes.now d.at b.1 m t e)) c.requires.clear)))

pub returns-then-cell-from : goal.returns-then-cell-from
returns-then-cell-from c =
    let r = c.requires.letter in
    let v = c.in_ok-cell.ensures in
    told c.fault.ensures (first_range (cell_large (digits_cell c.requires.awaits (reads_ahead r)) (reads_join r v.0).spans (spans_after r v.0) (omega arith)) c.requires.clear)

pub returns-then-is_some : goal.returns-then-is_some
returns-then-is_some c =
    let r = c.requires.letter in
    let v = c.in_ok-cell.ensures in
    let d = some_digit c.in_ok-cell.after c.digit.result c.is_some.ensures c.if-is_some.true c.digit.ensures in
    let d' = subst Digit (ahead_in (reads_join r v.0)) d in
    let few : c.in_ok-cell.cell ≤ 1000000 = omega arith in
    let z = zero_of c.in_ok-cell.cell few v.1 d in
    refuses c.in_ok-cell.after.at _ c.fault-then-is_some.ensures
    (leading_outside (digits_cell c.requires.awaits (reads_ahead r)) (subst (λ n. Spans c.args.self.text.now.bytes.now (c.args.self.at + 1) (numeral n) c.in_ok-cell.after.at) z (spans_after r v.0)) d')
    (cell_clear c.in_ok-cell.cell (omega arith) (reads_ahead r) (spans_after r v.0) (omega arith) (inr z) c.requires.clear)

pub returns-in_err-shift : goal.returns-in_err-shift
returns-in_err-shift c =
    let r = c.requires.letter in
    let v = c.in_ok-cell.ensures in
    let all = reads_join r v.0 in
    let none = no_digit c.in_ok-cell.after c.digit.result c.is_some.ensures c.if-is_some.false c.digit.ensures in
    out_as c.from_residual-in_err-shift.result _ _ c.in_err-shift.field-0.0 c.from_residual-in_err-shift.ensures.1
    (first_in all (c.in_err-shift.ensures (clear_on all
    (cell_clear c.in_ok-cell.cell (omega arith) (reads_ahead r) (spans_after r v.0) (omega arith) (inl (λ p. none (subst Digit (sym (ahead_in all)) p))) c.requires.clear))))
