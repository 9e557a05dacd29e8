use Rattle.std.proofs.Common.{◌++◌, string_bytes, ap, add-zero, refl, arith}
use Rattle.replaying.specs.Sessions.{told}
use Rattle.replaying.proofs.Telling.{told_more, told_end}
use Rattle.replaying.proofs.lines.push_lines.Goals as goal

pub loop-place-init : goal.loop-place-init
loop-place-init c = ap (λ n. string_bytes c.args.out.now ++ told c.args.cells n c.args.lines.now c.args.steps.now) (add-zero c.args.first)

pub loop-place-preserved : goal.loop-place-preserved
loop-place-preserved c =
    told_more c.args.cells c.args.first c.loop-place.place c.args.lines.now _ _ c.loop-place.rest.now _ (string_bytes c.loop-place.out) (string_bytes c.push_line.new.out) _ (omega arith) refl
    c.in_ok-rest.ensures c.loop-place.invariant

pub returns : goal.returns
returns c = told_end c.args.cells c.args.first c.loop-place.place c.args.lines.now c.loop-place.rest.now (string_bytes c.loop-place.out) _ (omega arith) c.loop-place.invariant
