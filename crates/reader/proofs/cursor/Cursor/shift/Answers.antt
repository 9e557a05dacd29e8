use Rattle.std.proofs.Common.{refl, inl, inr}
use Rattle.formulas.specs.Reading.{Clear, AwaitsDigits}
use Rattle.formulas.proofs.Tokens.{digits_plus, digits_minus}
use Rattle.reader.proofs.Refusals.{out_as, sign_clear}
use Rattle.reader.proofs.Places.{reads_ahead, moved, first_in}
use Rattle.reader.proofs.cursor.Cursor.shift.Goals as goal

pub number-requires-clause-awaits : goal.number-requires-clause-awaits
number-requires-clause-awaits c =
    let q = c.requires in
    let r = c.in-Some.ensures in
    moved (λ t k. AwaitsDigits 0 t.bytes.now k) r (digits_plus q.awaits q.cell q.named (reads_ahead r))

pub returns-in_err-value : goal.returns-in_err-value
returns-in_err-value c =
    let q = c.requires in
    let r = c.in-Some.ensures in
    out_as c.from_residual.result _ _ c.in_err-value.field-0.0 c.from_residual.ensures.1
    (λ clear. first_in r (c.in_err-value.ensures (moved (λ t k. Clear t.cells t.bytes.now k) r (sign_clear q.cell 43 q.named (reads_ahead r) (inl refl) clear))))

pub number-requires-in-Some-past-clause-awaits : goal.number-requires-in-Some-past-clause-awaits
number-requires-in-Some-past-clause-awaits c =
    let q = c.requires in
    let r = c.in-Some-past.ensures in
    moved (λ t k. AwaitsDigits 0 t.bytes.now k) r (digits_minus q.awaits q.cell q.named (reads_ahead r))

pub returns-in_err-value-2 : goal.returns-in_err-value-2
returns-in_err-value-2 c =
    let q = c.requires in
    let r = c.in-Some-past.ensures in
    out_as c.from_residual-in_err-value-2.result _ _ c.in_err-value-2.field-0.0 c.from_residual-in_err-value-2.ensures.1
    (λ clear. first_in r (c.in_err-value-2.ensures (moved (λ t k. Clear t.cells t.bytes.now k) r (sign_clear q.cell 45 q.named (reads_ahead r) (inr refl) clear))))
