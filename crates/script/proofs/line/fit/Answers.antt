use Rattle.std.proofs.Common.{rules}
use borrow.Author.Tests.{tests}
use Rattle.script.proofs.Reading.{fit_line}
use Rattle.script.proofs.line.fit.Goals as goal

pub returns : goal.returns
returns c = fit_line (λ w. w.now) c.args.rest.now (search (rules, tests))
