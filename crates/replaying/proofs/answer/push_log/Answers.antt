use Rattle.std.proofs.Common.{string_bytes, refl}
use Rattle.text.proofs.Pieces.{joined_more}
use Rattle.run_lines.specs.Lines.{log_line}
use Rattle.replaying.proofs.answer.push_log.Goals as goal

pub loop-line-preserved : goal.loop-line-preserved
loop-line-preserved c =
    joined_more c.args.lines.now c.loop-line.line-index _ _ c.loop-line-test.true refl (string_bytes c.args.out.now) (string_bytes c.loop-line.out) (string_bytes c.push_log_line.new.out)
    log_line c.loop-line.invariant c.in_ok-push_log_line.ensures
