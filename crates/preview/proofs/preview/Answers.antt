use Rattle.std.proofs.Common.{◌≡◌, ◌++◌, string_bytes, sym, ap, ◌∙◌, subst}
use Rattle.std.proofs.lemmas.Result.{err_from_is_err_and}
use Rattle.preview.specs.Preview.{Tells, unfit, long}
use Rattle.preview.proofs.Answering.{exactly, made_told}
use Rattle.preview.proofs.preview.Goals as goal

pub returns-in_default : goal.returns-in_default
returns-in_default c =
    let m = made_told string_bytes c.from_str.result _
    (λ v h. subst (Tells c.args.lengths.now c.args.numbers.now c.args.formula.now) (sym h) (unfit c.in_default.ensures)) c.from_str.ensures.ok in
    record { tells = m.0; exactly = m.1 }

pub returns-then-formula-gt-NODES : goal.returns-then-formula-gt-NODES
returns-then-formula-gt-NODES c =
    let same = c.in-Some.ensures in
    let m = made_told string_bytes c.from_str-then-formula-gt-NODES.result _
    (λ v h. subst (Tells c.args.lengths.now c.args.numbers.now c.args.formula.now) (sym h) (long (rw (← same.0, ← same.1) c.in-Some.lists.fit) c.if-formula-gt-NODES.true)) c.from_str-then-formula-gt-NODES.ensures.ok in
    record { tells = m.0; exactly = m.1 }

pub returns-in_err-push_answer : goal.returns-in_err-push_answer
returns-in_err-push_answer c =
    let p = err_from_is_err_and c.from_residual-in_err-push_answer.result c.from_residual-in_err-push_answer.ensures.1 in rw p.1 (record { tells = tt; exactly = tt })

pub returns : goal.returns
returns c =
    let a = c.in_ok-push_answer.ensures in
    let e : string_bytes c.push_answer.new.out ≡ a.0 = a.1 ∙ ap (λ l. l ++ a.0) c.new-out.ensures.bytes in
    let same = c.in-Some.ensures in
    let t : Tells c.args.lengths.now c.args.numbers.now c.args.formula.now (string_bytes c.push_answer.new.out) = rw (← same.0, ← same.1, e) a.2 in
    record { tells = t; exactly = exactly t }
