-- The plays are by runs, and those of the worked sheets were evaluated.
use Rattle.std.proofs.Common.{[], subst}
use Rattle.calls.specs.Sheet.{sheet}
use Rattle.calls.specs.Runs.{fresh, PlaysByRuns}
use Rattle.session.specs.Calls.{lasting_of}
use Rattle.answers.specs.Answers.{usual}
use Rattle.worked.proofs.Results.{worked}
use Rattle.worked.proofs.usual.play_usual.Goals as goal

by_runs : goal.returns-clause-runs
by_runs g c = subst (λ x. PlaysByRuns usual (sheet c.args.lengths.now (g.B.RuleBook.meaning c.args.book)) [] (fresh x) c.args.steps.now c.play.new.steps (lasting_of c.play.result)) c.new.ensures c.play.ensures.runs

pub returns-clause-runs : goal.returns-clause-runs
returns-clause-runs g c = by_runs g c

pub returns-clause-worked : goal.returns-clause-worked
returns-clause-worked g c x = worked x c.args.lengths.now (g.B.RuleBook.meaning c.args.book) c.args.steps.now c.play.new.steps (lasting_of c.play.result) (by_runs g c)
