use Rattle.std.proofs.Common.{arith}
use Rattle.std.proofs.lemmas.Result.{err_from_is_err_and}
use Rattle.runs.specs.Settle.{Turns.none}
use Rattle.runs.proofs.Turning.{turns_more}
use Rattle.settling.proofs.Reports.{report_none, report_more, kept_none, kept_more, turns_all}
use Rattle.settling.proofs.progress.Progress.revise_rule.Goals as goal

pub loop-position-init : goal.loop-position-init
loop-position-init g c = (none, report_none _, kept_none _)

pub loop-position-preserved : goal.loop-position-preserved
loop-position-preserved g c =
    let i = c.loop-position.invariant in
    let f = c.in_ok-removed.ensures in
    (turns_more i.0 (rw i.2.book at f.steps.0), report_more _ _ i.1 f.steps.1, kept_more i.2 f.kept)

pub returns-in_err-removed : goal.returns-in_err-removed
returns-in_err-removed g c =
    let i = c.loop-position.invariant in
    let p = err_from_is_err_and c.from_residual.result c.from_residual.ensures.1 in
    let f = c.in_err-removed.ensures in
    record { kept = kept_more i.2 f.kept; steps = rw (p.1, p.2) (f.steps.0, (c.loop-position.position, record { before = _; within = omega arith; first = i.0; last = rw i.2.book at f.steps.1 })) }

pub returns : goal.returns
returns g c =
    let i = c.loop-position.invariant in
    record {
      kept = i.2;
      steps = (turns_all _ _ (omega arith) i.0, i.1);
    }
