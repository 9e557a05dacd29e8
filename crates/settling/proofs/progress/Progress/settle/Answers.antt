use Rattle.std.proofs.Common.{refl}
use Rattle.std.proofs.lemmas.Result.{err_from_is_err_and}
use Rattle.runs.specs.Settle.{Settles.rest, Settles.again, Fails.at_once, Fails.later}
use Rattle.runs.proofs.Settling.{settles_law, settles_le, fails_law, fails_le}
use Rattle.runs.proofs.Unique.{only_settles, only_fails}
use Rattle.settling.proofs.Reports.{report_differs, kept_none, kept_more}
use Rattle.settling.proofs.progress.Progress.settle.Goals as goal

pub loop-init : goal.loop-init
loop-init g c = (λ t h. h, λ r t h. h, kept_none _)

pub loop-smaller : goal.loop-smaller
loop-smaller g c = c.in_ok-sweep.ensures.steps.1.less c.if-branch.true

pub loop-preserved : goal.loop-preserved
loop-preserved g c =
    let i = c.loop.invariant in
    let f = c.in_ok-sweep.ensures in
    let d = report_differs (rw c.if-branch.true at f.steps.1) in
    (λ t h. i.0 t (again f.steps.0 d (rw (f.kept.book, f.kept.rules) at h)), λ r t h. i.1 r t (later f.steps.0 d (rw (f.kept.book, f.kept.rules) at h)), kept_more i.2 f.kept)

pub returns-in_err-sweep : goal.returns-in_err-sweep
returns-in_err-sweep g c =
    let i = c.loop.invariant in
    let p = err_from_is_err_and c.from_residual.result c.from_residual.ensures.1 in
    let f = c.in_err-sweep.ensures in
    let a = i.1 _ _ (at_once f.steps) in
    record { kept = kept_more i.2 f.kept; steps = rw (p.1, p.2) a; only = rw (p.1, p.2) (only_fails a); law = rw p.1 (fails_law _ _ _ c.args.self.now.suits refl a); no_more = fails_le _ _ _ c.args.self.now.suits refl a }

pub returns : goal.returns
returns g c =
    let i = c.loop.invariant in
    let f = c.in_ok-sweep.ensures in
    let a = i.0 _ (rest f.steps.0 (f.steps.1.same c.if-branch.false)) in
    record {
      kept = kept_more i.2 f.kept;
      steps = a;
      only = only_settles a;
      law = λ full. settles_law _ _ _ c.args.self.now.suits (g.B.RuleBook.laws c.args.self.now.book.now) refl full a;
      no_more = settles_le _ _ _ c.args.self.now.suits refl a;
    }
