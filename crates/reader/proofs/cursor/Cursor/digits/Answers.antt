use Rattle.std.proofs.Common.{sym, refl, ◌∙◌, inr, arith}
use Rattle.reader.proofs.Places.{reads_zero, reads_first, reads_digit}
use Rattle.reader.proofs.cursor.Cursor.digits.Goals as goal

pub returns-then-value-eq0 : goal.returns-then-value-eq0
returns-then-value-eq0 c = (reads_zero (sym c.from-value.ensures ∙ c.if-value-eq0.true) c.in-Some.ensures.1, λ _. inr refl)

pub loop-value-init : goal.loop-value-init
loop-value-init c =
    let d = c.in-Some.ensures in
    let e = c.from-value.ensures in
    (omega arith, omega (arith, d.0), rw e (reads_first (omega arith) d.0 d.1))

pub loop-value-preserved : goal.loop-value-preserved
loop-value-preserved c =
    let d = c.in-Some-digit.ensures in
    let i = c.loop-value.invariant in
    let e = c.from.ensures in
    (omega (arith, i.0), omega (arith, d.0), rw e (reads_digit i.0 d.0 i.2 d.1))
