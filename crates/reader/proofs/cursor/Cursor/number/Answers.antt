use Rattle.std.proofs.Common.{subst, inr, arith}
use Rattle.formulas.specs.Tree.{numeral}
use Rattle.formulas.specs.Faults.{Digit}
use Rattle.formulas.specs.Reading.{Spans}
use Rattle.formulas.proofs.Firsts.{first_range}
use Rattle.formulas.proofs.Tokens.{digits_outside, leading_outside, digits_large}
use Rattle.formulas.proofs.Clears.{clear_digits}
use Rattle.reader.proofs.Refusals.{out_as, refuses, told, zero_of}
use Rattle.reader.proofs.Places.{ahead_in, some_digit}
use Rattle.reader.proofs.cursor.Cursor.number.Goals as goal

pub returns-in_err-value : goal.returns-in_err-value
returns-in_err-value c =
    let b = c.in_err-value.ensures in
    out_as c.from_residual.result _ _ c.in_err-value.field-0.0 c.from_residual.ensures.1
    (λ clear. refuses c.args.self.at _ b.0 (digits_outside c.requires.awaits c.args.self.within b.1) clear)

pub returns-then-value-gt-LIMIT : goal.returns-then-value-gt-LIMIT
returns-then-value-gt-LIMIT c =
    let v = c.in_ok-value.ensures in
    λ clear. told c.fault.ensures (first_range (digits_large c.requires.awaits v.0.spans (omega arith) c.if-value-gt-LIMIT.true c.requires.fresh) clear)

pub returns-then-is_some : goal.returns-then-is_some
returns-then-is_some c =
    let v = c.in_ok-value.ensures in
    let d = some_digit c.in_ok-value.end c.digit.result c.is_some.ensures c.if-is_some.true c.digit.ensures in
    let z = zero_of c.in_ok-value.value c.if-value-gt-LIMIT.false v.1 d in
    λ clear. refuses c.in_ok-value.end.at _ c.fault-then-is_some.ensures
    (leading_outside c.requires.awaits (subst (λ n. Spans c.args.self.text.now.bytes.now c.args.self.at (numeral n) c.in_ok-value.end.at) z v.0.spans) (subst Digit (ahead_in v.0) d))
    (clear_digits v.0.spans c.if-value-gt-LIMIT.false (inr z) clear)
