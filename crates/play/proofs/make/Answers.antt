use Rattle.std.proofs.Common.{◌≡◌, ℕ, List, vec_items, sym, ap, ◌∙◌, subst, ap₂, arith, Bor}
use Rattle.std.proofs.lemmas.List.{with_items_is}
use Rattle.network.specs.Book.{BookMeaning}
use Rattle.calls.specs.declared.call.Call.TheVariants.{Pin, Free, Switch}
use Rattle.calls.specs.declared.answer.Answer.{Answer}
use Rattle.calls.specs.declared.step.Step.{Step}
use Rattle.calls.specs.Answers.{to_change, to_fit}
use Rattle.calls.specs.Sheet.{sheet}
use Rattle.calls.specs.Plays.{sizes, Untouched}
use Rattle.session.specs.declared.session.Session.{Session}
use Rattle.session.specs.Calls.{sheet_of, Changed, FitCalled}
use Rattle.play.proofs.Making.{changed_kept, fit_kept, made_changed, made_fit}
use Rattle.play.proofs.make.Goals as goal
use Rattle.play.proofs.make.Goals.{in-Pin, in-Free, in-Switch, in-Fit}

untouched : (b m : Step) (r : Answer) → m ≡ b → Untouched b (record { call = m.call; buffers = m.buffers; answer = r })
untouched b m r e = record { call = ap (λ (x : Step). x.call) e; work = ap (λ (x : Step). vec_items x.buffers.work) e; log = ap (λ (x : Step). vec_items x.buffers.log) e; filling = ap (λ (x : Step). vec_items x.buffers.filling) e }

-- the sheet that is kept
same_sheet : {B C : Type 0} (meaning : B → BookMeaning) (s t : Session B C) → (t.lengths ≡ s.lengths) × (t.book ≡ s.book) → sheet_of meaning t ≡ sheet_of meaning s
same_sheet {B} meaning s t q = ap₂ (λ (l : Bor (List ℕ)) (b : B). sheet l.now (meaning b)) q.0 q.1

pub returns : goal.returns
returns g c =
    let meaning = g.B.RuleBook.meaning in
    let k = g.C.Chooser.meaning in
    let s = c.args.session.now in
    let t = c.match-step.session in
    let b = c.args.step.now in
    let m = c.match-step.step in
    elim c.match-step.branch [
      | in-Pin w ↦
          let call = Pin w.in-Pin.cell w.in-Pin.place in
          let q : Changed meaning call s (to_change w.pin.result) t = subst (Changed meaning call s (to_change w.pin.result)) (sym w.session-is) w.pin.ensures in
          record {
            sheet = same_sheet meaning s t (changed_kept q);
            book = (changed_kept q).1;
            makes = λ h a. made_changed meaning k s t h b _ call w.pin.result w.in-Pin.is (λ e. let z : ◌≡◌ {A = ℕ} 0 1 = cc in omega arith) a
                (untouched b m _ w.step-is) (w.step2-is ∙ w.from-step.ensures) q;
          }
      | in-Free w ↦
          let call = Free w.in-Free.cell in
          let q : Changed meaning call s (to_change w.free.result) t = subst (Changed meaning call s (to_change w.free.result)) (sym w.session-is) w.free.ensures in
          record {
            sheet = same_sheet meaning s t (changed_kept q);
            book = (changed_kept q).1;
            makes = λ h a. made_changed meaning k s t h b _ call w.free.result w.in-Free.is (λ e. let z : ◌≡◌ {A = ℕ} 0 1 = cc in omega arith) a
                (untouched b m _ w.step-is) (w.step2-is ∙ w.from-step-in-Free.ensures) q;
          }
      | in-Switch w ↦
          let call = Switch w.in-Switch.rule w.in-Switch.on in
          let q : Changed meaning call s (to_change w.switch.result) t = subst (Changed meaning call s (to_change w.switch.result)) (sym w.session-is) w.switch.ensures in
          record {
            sheet = same_sheet meaning s t (changed_kept q);
            book = (changed_kept q).1;
            makes = λ h a. made_changed meaning k s t h b _ call w.switch.result w.in-Switch.is (λ e. let z : ◌≡◌ {A = ℕ} 0 1 = cc in omega arith) a
                (untouched b m _ w.step-is) (w.step2-is ∙ w.from-step-in-Switch.ensures) q;
          }
      | in-Fit w ↦
          let lw = w.deref_mut.ensures.len in
          let ll = w.deref_mut-in-Fit.ensures.len in
          let lf = w.deref_mut-in-Fit-2.ensures.len in
          let q = subst (λ (x : Session g.row.B.Denot g.row.C.Denot). FitCalled meaning k s w.deref_mut.result.now w.deref_mut-in-Fit.result.now w.deref_mut-in-Fit-2.result.now (to_fit w.fit.result) x
          w.fit.new.work w.fit.new.log w.fit.new.filling) (sym w.session-is) w.fit.ensures in
          record {
            sheet = same_sheet meaning s t (fit_kept meaning k s t q);
            book = (fit_kept meaning k s t q).1;
            makes = λ h a. made_fit meaning k s t h b _ w.fit.result w.in-Fit.is a (ap (λ (x : Step). x.call) w.step-is) (w.step2-is ∙ w.from-step-in-Fit.ensures)
                lw ll lf w.deref_mut.ensures.value w.deref_mut-in-Fit.ensures.value w.deref_mut-in-Fit-2.ensures.value
                (ap (λ (x : Step). vec_items x.buffers.work) w.step-is ∙ with_items_is b.buffers.work w.fit.new.work (w.fit.auto.work ∙ lw))
                (ap (λ (x : Step). vec_items x.buffers.log) w.step-is ∙ with_items_is b.buffers.log w.fit.new.log (w.fit.auto.log ∙ ll))
                (ap (λ (x : Step). vec_items x.buffers.filling) w.step-is ∙ with_items_is b.buffers.filling w.fit.new.filling (w.fit.auto.filling ∙ lf))
                (ap (λ (x : Step). sizes x.buffers) w.step-is) q;
          }
    ]
