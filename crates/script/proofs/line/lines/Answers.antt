use Rattle.std.proofs.Common.{◌+◌, [], map, take, sym, subst, arith}
use Rattle.std.specs.List.{AllZip}
use Rattle.script.specs.Script.{ReadAs}
use Rattle.script.proofs.Reading.{lines_more}
use Rattle.script.proofs.line.lines.Goals as goal

pub loop-text-init : goal.loop-text-init
loop-text-init c = subst (AllZip ReadAs []) (sym c.new-lines.ensures.items) tt

pub loop-text-preserved : goal.loop-text-preserved
loop-text-preserved c =
    subst (AllZip ReadAs (map (λ t. t.now) (take (c.loop-text.text-index + 1) c.deref-text-items.result.now))) (sym c.in_ok-push.ensures.items)
    (lines_more (λ t. t.now) c.deref-text-items.result.now c.loop-text.text-index _ c.loop-text.lines.items _ (omega arith) c.loop-text.invariant c.in_ok-read.ensures.reads)
