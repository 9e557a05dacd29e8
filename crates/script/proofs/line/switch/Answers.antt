use Rattle.script.proofs.Reading.{switch_line}
use Rattle.script.proofs.line.switch.Goals as goal

pub returns : goal.returns
returns c = switch_line (λ w. w.now) c.args.rest.now _ _ _ _ c.in-len2.len_at_least c.in-len2.len_below c.in_ok-rule.ensures c.in_ok-on.ensures
