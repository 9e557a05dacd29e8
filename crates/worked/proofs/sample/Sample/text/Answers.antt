-- A number is not unlike itself.
use Rattle.worked.proofs.Sampling.{unlike_none}
use Rattle.worked.proofs.sample.Sample.text.Goals as goal

pub returns-in-UnlikeItself-clause-none : goal.returns-in-UnlikeItself-clause-none
returns-in-UnlikeItself-clause-none c _ = unlike_none
