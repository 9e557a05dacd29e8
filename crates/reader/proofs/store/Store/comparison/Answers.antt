use Rattle.std.proofs.Common.{◌≤◌, subst, arith}
use Rattle.formulas.specs.Reading.{EndsSide, EndsRelation, AwaitsSide}
use Rattle.formulas.proofs.Awaits.{left_side, right_side, relation_outside}
use Rattle.formulas.proofs.Clears.{clear_side, clear_relation}
use Rattle.formulas.proofs.Layouts.{side_some}
use Rattle.reader.proofs.Refusals.{out_as, refuses}
use Rattle.reader.proofs.Places.{spans_in, ahead_in, reads_join, on, clear_on}
use Rattle.reader.proofs.Assembly.{read_comparison}
use Rattle.reader.proofs.store.Store.comparison.Goals as goal

pub side-requires-clause-awaits : goal.side-requires-clause-awaits
side-requires-clause-awaits c =
    let a = c.args.place.now.at in
    left_side a.text.now.bytes.now a.at c.requires.awaits.1 c.requires.plain.0 c.requires.plain.1 c.requires.plain.2 a.within

pub returns-in_err-by-clause-read : goal.returns-in_err-by-clause-read
returns-in_err-by-clause-read c =
    let a = c.args.place.now.at in
    let x = c.in_ok-left.left in
    let p = c.in_ok-left.ensures in
    let b = c.in_err-by.ensures in
    let ends = subst (EndsSide x) (ahead_in p.0) p.2 in
    out_as c.from_residual-in_err-by.result _ _ c.in_err-by.field-0.0 c.from_residual-in_err-by.ensures.1
    (refuses c.in_ok-left.after.at _ b.0
    (relation_outside a.text.now.bytes.now a.at c.requires.awaits.1 c.requires.plain.0 c.requires.plain.1 c.requires.plain.2 x p.0.spans ends
    (subst (λ n. 60 ≤ n → n ≤ 62 → ⊥) (ahead_in p.0) b.1))
    (clear_side (omega arith) x c.args.place.now.ready.clear p.0.spans p.1 ends))

pub side-requires-2-clause-awaits : goal.side-requires-2-clause-awaits
side-requires-2-clause-awaits c =
    let a = c.args.place.now.at in
    let p = c.in_ok-left.ensures in
    let o = c.in_ok-by.ensures in
    let both = reads_join p.0 o.0 in
    on (λ t. AwaitsSide t.bytes.now c.in_ok-by.then.at) both
    (right_side a.text.now.bytes.now a.at c.requires.awaits.1 c.requires.plain.0 c.requires.plain.1 c.requires.plain.2 c.in_ok-left.left c.in_ok-by.by p.0.spans (spans_in p.0 o.0) (subst (EndsRelation c.in_ok-by.by) (ahead_in both) o.1))

pub side-requires-2-clause-clear : goal.side-requires-2-clause-clear
side-requires-2-clause-clear c =
    let x = c.in_ok-left.left in
    let p = c.in_ok-left.ensures in
    let o = c.in_ok-by.ensures in
    clear_on (reads_join p.0 o.0) (clear_relation (omega arith) c.in_ok-by.by (clear_side (omega arith) x c.args.place.now.ready.clear p.0.spans p.1 (subst (EndsSide x) (ahead_in p.0) p.2)) (spans_in p.0 o.0))

pub returns-clause-read : goal.returns-clause-read
returns-clause-read c =
    let p = c.in_ok-left.ensures in
    let o = c.in_ok-by.ensures in
    let q = c.in_ok-right.ensures in
    read_comparison c.in_ok-left.left c.in_ok-by.by c.in_ok-right.right p.0 o.0 q.0 p.1 q.1 q.2
    (omega (arith, side_some c.in_ok-left.left, p.0.spans.upto, p.0.spans.within, c.requires.room.room)) c.push.ensures.nodes c.push.ensures.used
