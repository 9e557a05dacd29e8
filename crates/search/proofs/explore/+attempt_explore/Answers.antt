use Rattle.std.proofs.Common.{ℕ, List, length, set, sym, refl, ap, ◌∙◌, subst, lt_of_le_of_lt, arith, length-set}
use Rattle.std.proofs.lemmas.Bool.{false≢true, true≢false}
use Rattle.choosers.specs.declared.chooser.Event.TheVariants.{Failed}
use Rattle.runs.specs.Settle.{State, state, out_of, Settles, Fails}
use Rattle.runs.specs.Run.{Chosen, Explores.filled, TryFails}
use Rattle.settling.specs.Kept.{state_of, Kept}
use Rattle.settling.specs.declared.progress.Progress.{Progress}
use Rattle.settling.proofs.Reports.{kept_more, kept_from, before}
use Rattle.search.specs.Room.{Able}
use Rattle.search.proofs.Rooms.{able_alone, frame_room}
use Rattle.search.proofs.Tries.{ok_says, err_says, try_falls, loop_falls, out_falls, le_of_lt_le, try_first, try_last, try_stands, stands_on, fails_on, goes_on_with, able_out, able_settled}
use Rattle.search.proofs.explore.+attempt_explore.Goals as goal
use Rattle.search.proofs.explore.+attempt_explore.Goals.{attempt-then-is_ok+else-explore, attempt-else-is_ok}

pub attempt-explore-requires : goal.attempt-explore-requires
attempt-explore-requires g t c κs within =
    let e = c.only.ensures.one c.requires.chosen.there.0 in
    let a = subst (λ (x : ℕ). Able (set c.args.progress.now.sets.now c.args.trial.cell x) (length c.args.work.now)) (sym e) c.requires.able in (
      try_falls c.args.progress.now.sets.now c.settle.new.self.sets.now c.args.trial.cell c.args.trial.place c.only.result t c.decreases c.requires.chosen e c.settle.ensures.no_more,
      (within.0, (within.1, able_settled _ a (ok_says _ _ (sym c.if-is_ok.ensures.value) c.settle.ensures.law a.full) refl)),
    )

pub attempt-returns-then-explore : goal.attempt-returns-then-explore
attempt-returns-then-explore g t c =
    let k = c.settle.ensures.kept in
    record {
      kept = kept_from (kept_more k c.if-explore.ensures.kept) refl refl refl refl (length-set _ _ _) refl;
      stood = λ _. try_stands (c.only.ensures.one c.requires.chosen.there.0) c.tell.ensures (ok_says _ _ (sym c.if-is_ok.ensures.value) c.settle.ensures.steps)
          (rw (k.book, k.rules) at c.if-explore.ensures.steps);
      failed = λ e. absurd (true≢false e);
    }

pub attempt-returns : goal.attempt-returns
attempt-returns g t c =
    let m = g.B.RuleBook.meaning c.args.progress.now.book.now in
    let k = g.C.Chooser.meaning in
    let p = c.args.progress.now in
    let e = c.only.ensures.one c.requires.chosen.there.0 in
    let f = c.settle.ensures.kept in
    record {
      kept = elim c.if-is_ok.branch [
        | attempt-then-is_ok+else-explore w ↦
            subst (λ (x : Progress g.row.B.Denot g.B.RuleBook). Kept p x) (sym w.progress-is) (kept_from (kept_more f w.if-explore.ensures.kept) refl refl refl refl (length-set _ _ _) refl)
        | attempt-else-is_ok w ↦
            subst (λ (x : Progress g.row.B.Denot g.B.RuleBook). Kept p x) (sym w.progress-is) (kept_from f refl refl refl refl (length-set _ _ _) refl)
      ];
      stood = λ q. absurd (false≢true q);
      failed = λ _. elim c.if-is_ok.branch [
        | attempt-then-is_ok+else-explore w ↦
            subst (λ (x : Progress g.row.B.Denot g.B.RuleBook). TryFails k m c.args.progress.now.rules c.args.chooser.now (state_of p) c.args.trial.cell c.args.trial.place c.tell-2.new.self (state_of x)) (sym w.progress-is)
            (try_last e w.tell.ensures (c.tell-2.ensures ∙ ap (λ (x : g.row.C.Denot). k.told x (Failed c.args.trial.cell)) w.chooser-is) (ok_says _ _ (sym w.if-is_ok.ensures.value) c.settle.ensures.steps)
            (rw (f.book, f.rules) at w.if-explore.ensures.steps))
        | attempt-else-is_ok w ↦
            subst (λ (x : Progress g.row.B.Denot g.B.RuleBook). TryFails k m c.args.progress.now.rules c.args.chooser.now (state_of p) c.args.trial.cell c.args.trial.place c.tell-2.new.self (state_of x)) (sym w.progress-is)
            (try_first e (c.tell-2.ensures ∙ ap (λ (x : g.row.C.Denot). k.told x (Failed c.args.trial.cell)) w.chooser-is) (err_says _ _ (sym w.if-is_ok.ensures.value) c.settle.ensures.steps).1)
      ];
    }

pub explore-returns : goal.explore-returns
explore-returns g t c = record { kept = c.tries.invariant.3; steps = c.tries.invariant.0 _ _ _ (filled c.in_default.ensures) }

pub explore-split_at_mut-before-requires : goal.explore-split_at_mut-before-requires
explore-split_at_mut-before-requires g t c =
    let r = frame_room c.tries.invariant.2 c.in-Some.ensures.chosen in
    omega (arith, c.tries.auto.work)

pub explore-attempt-requires : goal.explore-attempt-requires
explore-attempt-requires g t c κs within =
    let p = c.in-Some.ensures in (
      loop_falls _ _ t c.decreases c.tries.invariant.1,
      (within.0, (within.1, (able_alone _ c.tries.invariant.2 p.chosen (c.split_at_mut-before.ensures.back_len ∙ c.tries.auto.work), p.chosen))),
    )

pub explore-returns-then-attempt-clause-steps : goal.explore-returns-then-attempt-clause-steps
explore-returns-then-attempt-clause-steps g t c = c.tries.invariant.0 _ _ _ (stands_on c.in-Some.ensures.choice (c.if-attempt.ensures.stood refl))

pub explore-retreat-requires : goal.explore-retreat-requires
explore-retreat-requires g t c =
    let e = c.keep.ensures in
    record {
      long = c.attempt.ensures.kept.cells ∙ sym (ap length e);
      chosen = subst (λ (x : List ℕ). Chosen x c.in-Some.trial.cell c.in-Some.trial.place) (sym e) c.in-Some.ensures.chosen;
    }

pub explore-returns-then-is_err-clause-steps : goal.explore-returns-then-is_err-clause-steps
explore-returns-then-is_err-clause-steps g t c =
    let q = kept_more c.attempt.ensures.kept c.retreat.ensures.kept in
    let h = err_says _ _ c.if-is_err.ensures.negation c.settle.ensures.steps in
    let b = c.retreat.ensures.back ∙ ap (λ (x : List ℕ). state (out_of x c.in-Some.trial.cell c.in-Some.trial.place) c.attempt.new.progress.used c.attempt.new.progress.weights.now) c.keep.ensures in
    c.tries.invariant.0 _ _ _ (fails_on c.in-Some.ensures.choice (c.if-attempt.ensures.failed refl) b
    (before (λ x n. Fails (g.B.RuleBook.meaning x) n h.0.rule (state_of c.retreat.new.progress) (state_of c.settle.new.self)) q h.1))

pub explore-tries-smaller : goal.explore-tries-smaller
explore-tries-smaller g t c =
    let b = ap (λ (x : State). x.sets) c.retreat.ensures.back ∙ ap (λ (x : List ℕ). out_of x c.in-Some.trial.cell c.in-Some.trial.place) c.keep.ensures in
    lt_of_le_of_lt c.settle.ensures.no_more (out_falls _ _ _ _ c.in-Some.ensures.chosen b)

pub explore-tries-preserved : goal.explore-tries-preserved
explore-tries-preserved g t c =
    let s = c.in-Some.trial in
    let p = c.in-Some.ensures in
    let q = kept_more c.attempt.ensures.kept c.retreat.ensures.kept in
    let w = kept_more q c.settle.ensures.kept in
    let b = c.retreat.ensures.back ∙ ap (λ (x : List ℕ). state (out_of x s.cell s.place) c.attempt.new.progress.used c.attempt.new.progress.weights.now) c.keep.ensures in
    let sets = ap (λ (x : State). x.sets) b in
    let a = able_out c.retreat.new.progress.sets.now c.tries.invariant.2 p.chosen sets in (
      λ found y u h. c.tries.invariant.0 found y u (goes_on_with p.choice (c.if-attempt.ensures.failed refl) b
          (before (λ x n. Settles (g.B.RuleBook.meaning x) n (state_of c.retreat.new.progress) (state_of c.settle.new.self)) q (ok_says _ _ c.if-is_err.ensures.negation c.settle.ensures.steps)) (rw (w.book, w.rules) at h)),
      le_of_lt_le c.settle.ensures.no_more (out_falls _ _ _ _ p.chosen sets) c.tries.invariant.1,
      able_settled _ a (ok_says _ _ c.if-is_err.ensures.negation c.settle.ensures.law a.full) refl,
      kept_more c.tries.invariant.3 w,
    )
