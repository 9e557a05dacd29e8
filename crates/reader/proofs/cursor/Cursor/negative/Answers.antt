use Rattle.std.proofs.Common.{◌∙◌, sym, arith}
use Rattle.std.proofs.lemmas.Bool.{false≢true}
use Rattle.formulas.specs.Reading.{AwaitsDigits}
use Rattle.formulas.proofs.Firsts.{first_range}
use Rattle.formulas.proofs.Tokens.{digits_negative, digits_outside, zero_outside, negative_large}
use Rattle.reader.proofs.Refusals.{out_as, refuses, told, no_digits, zero_stands, nonzero, ended, negated, negative_text}
use Rattle.reader.proofs.Places.{reads_ahead, reads_join, moved, first_in, spans_after, clear_minus_read}
use Rattle.reader.proofs.cursor.Cursor.negative.Goals as goal

pub returns-then-sees : goal.returns-then-sees
returns-then-sees c =
    let r = c.requires.minus in
    let d = c.args.digits in
    let z = c.sees.ensures.0 c.if-sees.true in
    λ clear. first_in r (refuses d.at _ c.fault.ensures
    (zero_outside (moved (λ t k. AwaitsDigits 1 t.bytes.now k) r (digits_negative c.requires.awaits (reads_ahead r))) d.within z)
    (clear_minus_read r (λ m t e. omega (arith, zero_stands d.text.now.bytes.now d.at z m t e)) clear))

pub returns-in_err-value : goal.returns-in_err-value
returns-in_err-value c =
    let r = c.requires.minus in
    let d = c.args.digits in
    let b = c.in_err-value.ensures in
    out_as c.from_residual.result _ _ c.in_err-value.field-0.0 c.from_residual.ensures.1
    (λ clear. first_in r (refuses d.at _ b.0
    (digits_outside (moved (λ t k. AwaitsDigits 1 t.bytes.now k) r (digits_negative c.requires.awaits (reads_ahead r))) d.within b.1)
    (clear_minus_read r (λ m t e. absurd (no_digits d.text.now.bytes.now d.at b.1 m t e)) clear)))

pub returns-then-value-gt-LIMIT : goal.returns-then-value-gt-LIMIT
returns-then-value-gt-LIMIT c =
    let r = c.requires.minus in
    let v = c.in_ok-value.ensures in
    λ clear. told c.fault-then-value-gt-LIMIT.ensures (first_range
    (negative_large (digits_negative c.requires.awaits (reads_ahead r)) (reads_join r v.0).spans (spans_after r v.0) c.if-value-gt-LIMIT.true c.requires.awaits.fresh) clear)

pub returns : goal.returns
returns c =
    let r = c.requires.minus in
    let v = c.in_ok-value.ensures in
    let n = c.in_ok-value.value in
    let some = nonzero n v.0.spans (λ p. false≢true (sym c.if-sees.false ∙ c.sees.ensures.1 p)) in
    let t = negative_text n _ some c.if-value-gt-LIMIT.false (negated n some c.if-value-gt-LIMIT.false) (reads_ahead r) (spans_after r v.0) in
    (record { text = v.0.text ∙ r.text; spans = t.0 }, t.1, ended n c.if-value-gt-LIMIT.false v.1 (λ z. omega arith))
