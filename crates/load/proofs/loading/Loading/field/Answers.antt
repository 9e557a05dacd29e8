use Rattle.std.proofs.Common.{◌+◌}
use Rattle.std.proofs.lemmas.Result.{err_from_is_err_and}
use Rattle.load.proofs.Steps.{advance_list, advance_rows, advance_formula, refuse_list, refuse_rows, refuse_formula}
use Rattle.load.proofs.loading.Loading.field.Goals as goal

pub returns-in_ok-cell-in-Cell-clause-advances : goal.returns-in_ok-cell-in-Cell-clause-advances
returns-in_ok-cell-in-Cell-clause-advances c = λ s begun holds.
    advance_list c.args.file.now c.args.at s begun _ (c.type_inv.file (c.args.at + 2)).fits _ (c.in_ok-head.ensures.decided s holds.extent) c.in-Cell.is _ (c.in_ok-cell-in-Cell.ensures.adds s begun.good holds)

pub returns-in_err-cell-in-Cell-clause-advances : goal.returns-in_err-cell-in-Cell-clause-advances
returns-in_err-cell-in-Cell-clause-advances c = λ s begun holds.
    let p = err_from_is_err_and c.from_residual-in_err-cell-in-Cell.result c.from_residual-in_err-cell-in-Cell.ensures.1 in
    let k = c.in_err-cell-in-Cell.ensures.adds s begun.good holds in
    rw (p.1, p.2, k.0) (refuse_list c.args.file.now c.args.at s begun _ (c.type_inv.file (c.args.at + 2)).fits _ (c.in_ok-head.ensures.decided s holds.extent) c.in-Cell.is k.1)

pub returns-in_ok-rows-in-Rows-clause-advances : goal.returns-in_ok-rows-in-Rows-clause-advances
returns-in_ok-rows-in-Rows-clause-advances c = λ s begun holds.
    advance_rows c.args.file.now c.args.at s begun _ (c.type_inv.file (c.args.at + 2)).fits _ (c.in_ok-head.ensures.decided s holds.extent) c.in-Rows.is _ (c.in_ok-rows-in-Rows.ensures.adds s begun.good holds)

pub returns-in_err-rows-in-Rows-clause-advances : goal.returns-in_err-rows-in-Rows-clause-advances
returns-in_err-rows-in-Rows-clause-advances c = λ s begun holds.
    let p = err_from_is_err_and c.from_residual-in_err-rows-in-Rows.result c.from_residual-in_err-rows-in-Rows.ensures.1 in
    let k = c.in_err-rows-in-Rows.ensures.adds s begun.good holds in
    rw (p.1, p.2, k.0) (refuse_rows c.args.file.now c.args.at s begun _ (c.type_inv.file (c.args.at + 2)).fits _ (c.in_ok-head.ensures.decided s holds.extent) c.in-Rows.is k.1)

pub returns-in_ok-formula-in-Formula-clause-advances : goal.returns-in_ok-formula-in-Formula-clause-advances
returns-in_ok-formula-in-Formula-clause-advances c = λ s begun holds.
    advance_formula c.args.file.now c.args.at s begun _ (c.type_inv.file (c.args.at + 2)).fits _ (c.in_ok-head.ensures.decided s holds.extent) c.in-Formula.is _ (c.in_ok-formula-in-Formula.ensures.adds s begun.good holds)

pub returns-in_err-formula-in-Formula-clause-advances : goal.returns-in_err-formula-in-Formula-clause-advances
returns-in_err-formula-in-Formula-clause-advances c = λ s begun holds.
    let p = err_from_is_err_and c.from_residual-in_err-formula-in-Formula.result c.from_residual-in_err-formula-in-Formula.ensures.1 in
    let k = c.in_err-formula-in-Formula.ensures.adds s begun.good holds in
    rw (p.1, p.2, k.3) (refuse_formula c.args.file.now c.args.at s begun _ (c.type_inv.file (c.args.at + 2)).fits _ (c.in_ok-head.ensures.decided s holds.extent) c.in-Formula.is k.0 k.1 k.2)
