-- Every play of some calls shows what the evaluation gives, and leaves what it gives. Assumes nothing.
use Rattle.std.proofs.Common.{◌≡◌, ℕ, zero, suc, ◌^◌, ◌<◌, ◌≢◌, Bool, true, ◌&&◌, List, [], ◌∷◌, length, get_or, map, take, Some, None, Option, vec_items, nat_lt, sym, refl, ap, ◌∙◌, subst, subst₂, inl, inr, arith}
use Rattle.std.proofs.lemmas.Bool.{cond_both, ltb-true, and_parts, cases_eq}
use Rattle.std.proofs.lemmas.List.{length-take-le, ext_get_or, get_or-map}
use lib.ListN.{length-map}
use Rattle.bits.specs.Sets.{In}
use Rattle.bits.proofs.Bits.{has_pow, in_below}
use Rattle.network.specs.Book.{BookMeaning}
use Rattle.choosers.specs.Choice.{Machine}
use Rattle.runs.specs.declared.line.Line.{Line}
use Rattle.runs.specs.Law.{Ready, Alone}
use Rattle.cores.specs.Core.{Outcome, Outcome.left, Outcome.core}
use Rattle.cores.specs.Fit.{Fit, Fit.fills, Fit.clashes}
use Rattle.cores.proofs.Unique.{fit_same}
use Rattle.clash.specs.declared.fitted.Fitted.{Fitted as Values}
use Rattle.clash.specs.Running.{Lasting}
use Rattle.calls.specs.declared.call.Call.{Call}
use Rattle.calls.specs.declared.call.Call.TheVariants.{Pin, Free, Switch, Fit as AFit}
use Rattle.calls.specs.declared.answer.Answer.TheVariants.{Done, Fitted}
use Rattle.calls.specs.declared.step.Step.{Step}
use Rattle.calls.specs.Answers.{said, returned}
use Rattle.calls.specs.Sheet.{sheet, Sizes, Opens, passes, Enough, Judged, Judged.pins, Judged.frees, Judged.switches, Judged.fits}
use Rattle.calls.specs.History.{Did, standing, is_on, set_where, on_after}
use Rattle.calls.specs.Plays.{sizes, did, Makes, refused, changed, fitted, none as no_calls, more as and_more}
use Rattle.calls.specs.Runs.{Ran, start_after, Comes, StepRuns, PlaysByRuns}
use Rattle.calls.proofs.Fillings.{starts_long}
use Rattle.calls.proofs.Following.{judged_same, said_same, values_same, did_same}
use Rattle.calls.proofs.RunLaws.{ran_fixed}
use Rattle.worked.specs.Shows.{Shown, done, filled, answer_of, Written, Shows, Show, Make}
use Rattle.worked.proofs.Evaluation.{then, Once, same_list, run, fit}
use Rattle.worked.proofs.Sound.{All, then_all, all_map, Agree, same_true}
use Rattle.worked.proofs.Searching.{RunsOnce, run_sound}
use Rattle.worked.proofs.Fits.{Lists, Fitted as FittedAs, fit_sound}
use Rattle.worked.proofs.Evaluating.{all?, singles, Doing, Played, show_fit, allowed?, opens?, doing, do_fit, do_call, made, add_shown, plays}

-- ---- tests
all_at : (p : ℕ → Bool) (n k : ℕ) → all? p n ≡ true → k < n → p k ≡ true
all_at p zero k e l = absurd (omega arith)
all_at p (suc n) k e l = let q = and_parts (all? p n) (p n) e in elim (cases_eq k n) [
  | inl s ↦ subst (λ x. p x ≡ true) (sym s) q.1
  | inr ne ↦ all_at p n k q.0 (omega arith)
]

pub opens_sound : (lengths : List ℕ) (e m : BookMeaning) → Agree e m → opens? lengths e ≡ true → Opens (sheet lengths m)
opens_sound lengths e m agree t =
    let a = and_parts _ _ t in
    let b = and_parts _ _ a.0 in
    let c = and_parts _ _ b.0 in
    let d = and_parts _ _ c.0 in
    let each : (x : ℕ) → x < length lengths → (0 < get_or lengths x 0) × (get_or lengths x 0 < 65) =
    λ x l. let q = and_parts _ _ (all_at (λ c. nat_lt 0 (get_or lengths c 0) && nat_lt (get_or lengths c 0) 65) (length lengths) x c.1 l) in (ltb-true 0 (get_or lengths x 0) q.0, ltb-true (get_or lengths x 0) 65 q.1) in
    passes (record { some = ltb-true 0 (length lengths) d.0; few = omega (arith, ltb-true (length lengths) 65 d.1); long = λ x l. (each x l).0; short = λ x l. omega (arith, (each x l).1) })
    (omega (arith, agree.count, ltb-true e.count 65 b.1))
    (λ r lr i li.
    let cs = (agree.rules r lr).cells in
    subst (λ (x : List ℕ). get_or x i 255 < length lengths) (sym cs)
    (ltb-true (get_or (e.rule r).cells i 255) (length lengths)
    (all_at (λ i. nat_lt (get_or (e.rule r).cells i 255) (length lengths)) (length (e.rule r).cells) i
    (all_at (λ r. all? (λ i. nat_lt (get_or (e.rule r).cells i 255) (length lengths)) (length (e.rule r).cells)) e.count r a.1 (omega (arith, agree.count)))
    (subst (λ (x : List ℕ). i < length x) cs li))))

-- ---- what a Fit shows
alone_powers : (f g : List ℕ) → Alone (map (λ v. 2 ^ v) f) g → g ≡ f
alone_powers f g a =
    let e : length (map (λ v. 2 ^ v) f) ≡ length f = length-map f (λ v. 2 ^ v) in
    ext_get_or 0 g f (a.there.long ∙ e) (λ c l.
    let h : c < length (map (λ v. 2 ^ v) f) = omega (arith, a.there.long) in
    has_pow (get_or f c 0) (get_or g c 0) (subst (λ x. In x (get_or g c 0)) (get_or-map (λ v. 2 ^ v) f c 0 0 (omega arith)) (a.there.each c h).1))

-- a Fit's values are those of what it shows, which is written
pub record FitShows (cells : ℕ) (a : Step) (f : Values) (s : Shown) : Type 0 where
  pub values : Fitted f ≡ answer_of s
  pub written : Written cells s a

shows_fit : (cells : ℕ) (lines : List Line) (out : Outcome (List ℕ)) (a : Step) (f : Values) → f.lines ≡ length lines
    → take (length lines) (vec_items a.buffers.log) ≡ lines → Comes out f (take cells (vec_items a.buffers.filling)) → All (FitShows cells a f) (show_fit lines out)
shows_fit cells lines (left sets) a f n log comes =
    let v = singles sets in
    cond_both (same_list sets (map (λ v. 2 ^ v) v)) (Some (filled lines v)) None (All (FitShows cells a f))
    (λ y. record {
      values = ap Fitted (values_same f (record { lines = length lines; core = None }) n comes.0);
      written = (log, alone_powers v (take cells (vec_items a.buffers.filling)) (subst (λ x. Alone x (take cells (vec_items a.buffers.filling))) (same_true sets (map (λ v. 2 ^ v) v) y) comes.1));
    })
    (λ z. tt)
shows_fit cells lines (core c) a f n log comes = record { values = ap Fitted (values_same f (record { lines = length lines; core = Some c }) n comes); written = log }

module _ {C : Type 0} (k : Machine C) (e m : BookMeaning) (agree : Agree e m) (lengths : List ℕ) (fuel : ℕ) where
  abbrev F : List Did → Lasting C → Step → Step → Values → Lasting C → Type 0
  F h x b a f y = StepRuns k (sheet lengths m) h x a f y

  -- the first run was ready, and so is each that lists no more
  fit_ready : {start : List ℕ} {on : ℕ} {x y : Lasting C} {ls : List Line} {out : Outcome (List ℕ)} → Fit (Ran k m start) on x ls out y → Ready m start on
  fit_ready {start} (fills g) = subst (λ a. Ready m start a) g.lists g.run.ready
  fit_ready {start} (clashes g p q) = subst (λ a. Ready m start a) g.lists g.run.ready

  run_ran : (start : List ℕ) (on : ℕ) → Ready m start on → (a : ℕ) (x : Lasting C) → All (Lists (Ran k m start) a x) (run k e start fuel a x)
  run_ran start on ready a x = go (run k e start fuel a x) (run_sound k e m agree a start fuel x)
    where
      go : (o : Option (Once (Lasting C) (List ℕ))) → All (RunsOnce k e m agree a start x) o → All (Lists (Ran k m start) a x) o
      go None p = tt
      go (Some g) p = (
        record {
          ready = record { few = ready.few; suits = ready.suits; known = λ r h. omega (arith, agree.count, in_below a e.count r p.2 (subst (λ z. In z r) p.1 h)); full = ready.full };
          run = p.0;
        },
        p.1,
      )

  abbrev pub FitDone : Step → Values → Lasting C → Doing C → Type 0
  FitDone a f y d = FitShows (length lengths) a f d.shown × (y ≡ d.after)

  -- the runs of a Fit, after the calls h
  pub fit_done : (h : List Did) (x y : Lasting C) (a : Step) (f : Values) → StepRuns k (sheet lengths m) h x a f y → All (FitDone a f y) (do_fit k e lengths fuel h x)
  fit_done h x y a f p =
      let start = start_after (sheet lengths m) h in
      let on : on_after (sheet lengths m) h ≡ on_after (sheet lengths e) h = ap (set_where (is_on h)) agree.count in
      let runs : Fit (Ran k m start) (on_after (sheet lengths e) h) x (take f.lines (vec_items a.buffers.log)) p.out y = subst (λ z. Fit (Ran k m start) z x (take f.lines (vec_items a.buffers.log)) p.out y) on p.runs in
      then_all (FittedAs (Ran k m start) (run k e start fuel) (run_ran start (on_after (sheet lengths e) h) (fit_ready runs)) (on_after (sheet lengths e) h) x) (FitDone a f y)
      (fit (run k e start fuel) fuel (on_after (sheet lengths e) h) x) (λ d. then (show_fit d.lines d.out) (doing d.state))
      (fit_sound (Ran k m start) (run k e start fuel) (run_ran start (on_after (sheet lengths e) h) (fit_ready runs)) fuel (on_after (sheet lengths e) h) x)
      (λ d q.
      let same = fit_same (Ran k m start) (ran_fixed k m start) runs q in
      let n : f.lines ≡ length d.lines = sym (length-take-le f.lines (vec_items a.buffers.log) p.counted) ∙ ap length same.0 in
      let log : take (length d.lines) (vec_items a.buffers.log) ≡ d.lines = ap (λ i. take i (vec_items a.buffers.log)) (sym n) ∙ same.0 in
      let wide = starts_long lengths (standing h) in
      let comes : Comes d.out f (take (length lengths) (vec_items a.buffers.filling)) =
      subst (λ i. Comes d.out f (take i (vec_items a.buffers.filling))) wide (subst (λ o. Comes o f (take (length start) (vec_items a.buffers.filling))) same.1 p.comes) in
      then_all (FitShows (length lengths) a f) (FitDone a f y) (show_fit d.lines d.out) (doing d.state) (shows_fit (length lengths) d.lines d.out a f n log comes) (λ s w. (w, same.2)))

  -- what a call shows and leaves, after the calls h
  pub record Does (a : Step) (c : Call) (y : Lasting C) (d : Doing C) : Type 0 where
    pub shows : Shows (length lengths) d.shown a
    pub did : did a ≡ made c d.shown
    pub left : y ≡ d.after

  does_fit : (h : List Did) (x y : Lasting C) (b a : Step) (f : Values) → a.call ≡ AFit → said a.answer ≡ returned f → F h x b a f y → All (Does a AFit y) (do_fit k e lengths fuel h x)
  does_fit h x y b a f call says p =
      all_map (FitDone a f y) (Does a AFit y) (do_fit k e lengths fuel h x)
      (λ d q. let answer : a.answer ≡ answer_of d.shown = said_same a.answer (Fitted f) says ∙ q.0.values in record { shows = record { answer = answer; written = q.0.written }; did = did_same call answer; left = q.1 })
      (fit_done h x y a f p)

  does_change : (c : Call) (x y : Lasting C) (b a : Step) (h : List Did) → b.call ≡ c → c ≢ AFit → Judged (sheet lengths m) (sizes b.buffers) b.call 0 → Makes (sheet lengths m) F h x b a y
      → All (Does a c y) (doing x done)
  does_change c x y b a h is ne j (refused j' ne' s u) = absurd (ne' (judged_same j' j))
  does_change c x y b a h is ne j (changed j' ne' s u) =
      let q : a.answer ≡ Done = said_same a.answer Done s in
      record { shows = record { answer = q; written = tt }; did = did_same (u.call ∙ is) q; left = refl }
  does_change c x y b a h is ne j (fitted j' e s call d) = absurd (ne (sym is ∙ e))

  judged : Opens (sheet lengths m) → (c : Call) (z : Sizes) → Enough z → allowed? lengths e.count c ≡ true → Judged (sheet lengths m) z c 0
  judged opens (Pin c v) z n t = let q = and_parts _ _ t in pins opens (ltb-true c (length lengths) q.0) (ltb-true v (get_or lengths c 0) q.1)
  judged opens (Free c) z n t = frees opens (ltb-true c (length lengths) t)
  judged opens (Switch r on) z n t = switches opens (omega (arith, agree.count, ltb-true r e.count t))
  judged opens AFit z n t = fits opens n

  does : (c : Call) (x y : Lasting C) (b a : Step) (h : List Did) → b.call ≡ c → Judged (sheet lengths m) (sizes b.buffers) b.call 0 → Makes (sheet lengths m) F h x b a y
      → All (Does a c y) (do_call k e lengths fuel h x c)
  does (Pin c v) x y b a h is j p = does_change (Pin c v) x y b a h is (λ q. cc) j p
  does (Free c) x y b a h is j p = does_change (Free c) x y b a h is (λ q. cc) j p
  does (Switch r on) x y b a h is j p = does_change (Switch r on) x y b a h is (λ q. cc) j p
  does AFit x y b a h is j (refused j' ne' s u) = absurd (ne' (judged_same j' j))
  does AFit x y b a h is j (changed j' ne' s u) = absurd (ne' is)
  does AFit x y b a h is j (fitted {f = f} j' i s call d) = does_fit h x y b a f (call ∙ is) s d

  abbrev pub Play : List Step → Lasting C → Played C → Type 0
  Play after y p = Show (length lengths) p.shown after × (y ≡ p.after)

  pub plays_sound : Opens (sheet lengths m) → (cs : List Call) (h : List Did) (x y : Lasting C) (before after : List Step) → Make cs before → PlaysByRuns k (sheet lengths m) h x before after y
      → All (Play after y) (plays k e lengths fuel cs h x)
  plays_sound opens [] h x y _ _ w no_calls = (tt, refl)
  plays_sound opens [] h x y _ _ w (and_more d p) = absurd w
  plays_sound opens (c ∷ cs) h x y _ _ w no_calls = absurd w
  plays_sound opens (c ∷ cs) h x y _ _ w (and_more {t = t} {b = b} {a = a} {before = before} {after = after} d p) =
      let rest : Doing C → Option (Played C) = λ g. then (plays k e lengths fuel cs (made c g.shown ∷ h) g.after) (add_shown g.shown) in
      cond_both (allowed? lengths e.count c) (then (do_call k e lengths fuel h x c) rest) None (All (Play (a ∷ after) y))
      (λ yes.
      then_all (Does a c t) (Play (a ∷ after) y) (do_call k e lengths fuel h x c) rest
      (does c x t b a h w.0.0 (subst (λ z. Judged (sheet lengths m) (sizes b.buffers) z 0) (sym w.0.0) (judged opens c (sizes b.buffers) w.0.1 yes)) d)
      (λ g q.
      then_all (Play after y) (Play (a ∷ after) y) (plays k e lengths fuel cs (made c g.shown ∷ h) g.after) (add_shown g.shown)
      (plays_sound opens cs (made c g.shown ∷ h) g.after y before after w.1 (subst₂ (λ i z. PlaysByRuns k (sheet lengths m) (i ∷ h) z before after y) q.did q.left p))
      (λ r z. ((q.shows, z.0), z.1))))
      (λ no. tt)
