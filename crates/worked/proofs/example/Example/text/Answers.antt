-- The text for the file of a worked sheet was worked out.
use Rattle.std.proofs.Common.{string_bytes, subst}
use Rattle.std.proofs.lemmas.Result.{IfOk-weaker}
use Rattle.answers.specs.Answers.{Answers}
use Rattle.worked.proofs.Telling.{answers_worked}
use Rattle.worked.proofs.example.Example.text.Goals as goal

pub returns : goal.returns
returns c = IfOk-weaker c.answer.result _ _ (λ v p. answers_worked c.args.self (string_bytes v) (subst (λ f. Answers f (string_bytes v)) c.file.ensures p)) c.answer.ensures
