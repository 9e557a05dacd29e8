use Rattle.std.proofs.Common.{Err, refl, ap, ◌∙◌, arith}
use Rattle.std.proofs.lemmas.Result.{err_from_is_err_and}
use Rattle.calls.specs.declared.call.Call.TheVariants.{Pin}
use Rattle.calls.specs.Sheet.{Judged.pins, Judged.pins_no_cell, Judged.pins_no_place}
use Rattle.calls.proofs.Fillings.{few_cells}
use Rattle.session.specs.Calls.{sheet_of}
use Rattle.session.proofs.Changing.{changed_shut, item_found, item_missing, missing_says}
use Rattle.session.proofs.session.Session.pin.Goals as goal

pub returns-in_err-opened : goal.returns-in_err-opened
returns-in_err-opened g c =
    let p = err_from_is_err_and c.from_residual.result c.from_residual.ensures.1 in
    let q = c.in_err-opened.ensures in
    changed_shut g.B.RuleBook.meaning c.args.self.now (Pin c.args.cell c.args.place) c.from_residual.result (p.1 ∙ ap Err (p.2 ∙ q.0)) q.1

pub returns-in_err-length : goal.returns-in_err-length
returns-in_err-length g c =
    let p = err_from_is_err_and c.from_residual-in_err-length.result c.from_residual-in_err-length.ensures.1 in
    let q = c.in_err-length.ensures in
    rw (p.1, p.2 ∙ missing_says q.value q.ok_part)
    (record { judged = λ z. pins_no_cell c.in_ok-opened.ensures (item_missing _ c.get.ensures.lookup q.ok_part); refused = λ ne. refl; done = λ e. absurd (omega arith) })

pub returns-then-place-length : goal.returns-then-place-length
returns-then-place-length g c =
    let i = item_found _ c.get.ensures.lookup c.in_ok-length.ensures.ok_part in
    record { judged = λ z. pins_no_place c.in_ok-opened.ensures i.0 (omega (arith, i.1, c.if-place-length.true)); refused = λ ne. refl; done = λ e. absurd (omega arith) }

pub bounds-self-cell : goal.bounds-self-cell
bounds-self-cell g c =
    let i = item_found _ c.get.ensures.lookup c.in_ok-length.ensures.ok_part in
    omega (arith, few_cells (sheet_of g.B.RuleBook.meaning c.args.self.now) c.in_ok-opened.ensures, i.0)

pub returns : goal.returns
returns g c =
    let i = item_found _ c.get.ensures.lookup c.in_ok-length.ensures.ok_part in
    record { judged = λ z. pins c.in_ok-opened.ensures i.0 (omega (arith, i.1, c.if-place-length.false)); refused = λ ne. absurd (ne refl); done = λ e. refl }
