use Rattle.std.proofs.Common.{◌≡◌, [], ◌++◌, length, string_bytes, refl, sym, ◌∙◌, subst}
use Rattle.std.proofs.lemmas.List.{take_at}
use Rattle.std.proofs.lemmas.Result.{IfOk-weaker}
use Rattle.calls.specs.Sheet.{sheet}
use Rattle.calls.specs.Promise.{FillingsAndCores}
use Rattle.calls.specs.Runs.{PlaysByRuns, Follows, fresh}
use Rattle.session.specs.Calls.{lasting_of}
use Rattle.text.proofs.Pieces.{after}
use Rattle.answers.specs.Answers.{usual, usual_start}
use Rattle.replaying.specs.Lines.{open_line}
use Rattle.replaying.specs.Sessions.{told}
use Rattle.replaying.proofs.session_text.push_session.Goals as goal

pub returns : goal.returns
returns g c =
    let s = sheet c.args.lengths.now (g.B.RuleBook.meaning c.args.book) in
    let steps = c.in_ok-steps.steps.items in
    let played = c.deref.result.now in
    let left = lasting_of c.play.result in
    let before : c.deref_mut.result.now ≡ steps = c.deref_mut.ensures.value in
    let long : length c.play.new.steps ≡ c.in_ok-steps.steps.len = c.play.auto.steps ∙ c.deref_mut.ensures.len in
    let now : c.play.new.steps ≡ played = sym (c.deref.ensures.value ∙ take_at c.play.new.steps _ _ long) in
    let runs = subst (λ x. PlaysByRuns usual s [] (fresh x) c.deref_mut.result.now c.play.new.steps left) c.new.ensures c.play.ensures.runs in
    let follows = subst (λ x. Follows usual s (fresh x) c.deref_mut.result.now c.play.new.steps left) c.new.ensures c.play.ensures.follows in
    IfOk-weaker c.push_lines.result _ _
    (λ _ e. (
      open_line c.open_number.result ++ told (length c.args.lengths.now) c.args.first c.args.lines.now played,
      after (string_bytes c.args.out.now) (open_line c.open_number.result) (told (length c.args.lengths.now) c.args.first c.args.lines.now played) c.in_ok-push_open.ensures e,
      record {
        number = c.open_number.result;
        checked = c.open_number.ensures;
        before = steps;
        after = played;
        prepared = c.in_ok-steps.ensures;
        fillings_and_cores = subst (λ l. FillingsAndCores s l played) before (subst (λ l. FillingsAndCores s c.deref_mut.result.now l) now c.play.ensures.fillings_and_cores);
        left = left;
        runs = subst (λ l. PlaysByRuns usual s [] (fresh usual_start) l played left) before (subst (λ l. PlaysByRuns usual s [] (fresh usual_start) c.deref_mut.result.now l left) now runs);
        follows = subst (λ l. Follows usual s (fresh usual_start) l played left) before (subst (λ l. Follows usual s (fresh usual_start) c.deref_mut.result.now l left) now follows);
        text = refl;
      },
    )) c.push_lines.ensures
