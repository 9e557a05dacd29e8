use Rattle.std.proofs.Common.{Err, refl, ap, ◌∙◌, arith}
use Rattle.std.proofs.lemmas.Result.{err_from_is_err_and}
use Rattle.calls.specs.declared.call.Call.TheVariants.{Free}
use Rattle.calls.specs.Sheet.{Judged.frees, Judged.frees_no_cell}
use Rattle.calls.proofs.Fillings.{few_cells}
use Rattle.session.specs.Calls.{sheet_of}
use Rattle.session.proofs.Changing.{changed_shut}
use Rattle.session.proofs.session.Session.free.Goals as goal

pub returns-in_err-opened : goal.returns-in_err-opened
returns-in_err-opened g c =
    let p = err_from_is_err_and c.from_residual.result c.from_residual.ensures.1 in
    let q = c.in_err-opened.ensures in
    changed_shut g.B.RuleBook.meaning c.args.self.now (Free c.args.cell) c.from_residual.result (p.1 ∙ ap Err (p.2 ∙ q.0)) q.1

pub returns-then-cell-self : goal.returns-then-cell-self
returns-then-cell-self g c = record { judged = λ z. frees_no_cell c.in_ok-opened.ensures c.if-cell-self.true; refused = λ ne. refl; done = λ e. absurd (omega arith) }

pub bounds-self-cell : goal.bounds-self-cell
bounds-self-cell g c = omega (arith, few_cells (sheet_of g.B.RuleBook.meaning c.args.self.now) c.in_ok-opened.ensures, c.if-cell-self.false)

pub returns : goal.returns
returns g c = record { judged = λ z. frees c.in_ok-opened.ensures c.if-cell-self.false; refused = λ ne. absurd (ne refl); done = λ e. refl }
