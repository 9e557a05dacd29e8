use Rattle.script.proofs.Reading.{pin_line}
use Rattle.script.proofs.line.pin.Goals as goal

pub returns : goal.returns
returns c = pin_line (λ w. w.now) c.args.rest.now _ _ _ _ c.in-len2.len_at_least c.in-len2.len_below c.in_ok-cell.ensures c.in_ok-place.ensures
