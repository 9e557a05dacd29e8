use Rattle.std.proofs.Common.{sym, arith}
use Rattle.std.proofs.lemmas.Result.{err_from_is_err_and}
use Rattle.std.proofs.lemmas.Bool.Decides.{not_from_Decides}
use Rattle.runs.specs.Settle.{Turns.none, Turn.unlisted, Turn.taken}
use Rattle.settling.proofs.Reports.{report_none, kept_none, kept_more, meets_more, meets_same, turns_all}
use Rattle.settling.proofs.progress.Progress.sweep.Goals as goal
use Rattle.settling.proofs.progress.Progress.sweep.Goals.{then-has+in_ok-removed, else-has}

pub loop-rule-init : goal.loop-rule-init
loop-rule-init g c = (none, report_none _, kept_none _)

pub loop-rule-preserved : goal.loop-rule-preserved
loop-rule-preserved g c =
    let i = c.loop-rule.invariant in
    elim c.if-has.branch [
      | then-has+in_ok-removed w ↦
          let f = w.in_ok-removed.ensures in
          let on = c.has.ensures.0 w.if-has.true in
          meets_more i.0 i.1 i.2 (taken (rw i.2.rules at on.1) (rw i.2.book at f.steps.0)) f.steps.1 f.kept w.self-is w.removed-is
      | else-has w ↦
          let off = not_from_Decides _ c.has.ensures w.if-has.false in
          meets_same i.0 i.1 i.2 (unlisted (λ on. off (omega arith, rw (sym i.2.rules) at on))) w.self-is w.removed-is
    ]

pub returns-in_err-removed : goal.returns-in_err-removed
returns-in_err-removed g c =
    let i = c.loop-rule.invariant in
    let p = err_from_is_err_and c.from_residual.result c.from_residual.ensures.1 in
    let f = c.in_err-removed.ensures in
    let on = c.has.ensures.0 c.if-has.true in
    record { kept = kept_more i.2 f.kept; steps = rw (p.1, p.2) (rw f.steps.0 (record { before = _; within = omega arith; first = i.0; last = (rw i.2.rules at on.1, rw i.2.book at f.steps.1) })) }

pub returns : goal.returns
returns g c = let i = c.loop-rule.invariant in record { kept = i.2; steps = (turns_all _ _ (omega arith) i.0, i.1) }
