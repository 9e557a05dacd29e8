use Rattle.script.proofs.Reading.{free_line}
use Rattle.script.proofs.line.free.Goals as goal

pub returns : goal.returns
returns c = free_line (λ w. w.now) c.args.rest.now _ _ c.in-len1.len_at_least c.in-len1.len_below c.in_ok-cell.ensures
