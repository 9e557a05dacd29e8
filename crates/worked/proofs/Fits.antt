-- The Fits that the evaluation gives are Fits. Assumes nothing.
use Rattle.std.proofs.Common.{◌≡◌, ℕ, zero, suc, ◌+◌, ◌-◌, ◌/◌, ◌<◌, ◌≢◌, cond, List, [], ◌∷◌, Some, None, Option, ◌==◌, nat_lt, refl}
use Rattle.std.proofs.lemmas.Bool.{cond_both, ltb-true, eqb-true, eqb-false}
use Rattle.bits.specs.Sets.{members, size}
use Rattle.runs.specs.declared.line.Line.{Line}
use Rattle.runs.specs.declared.line.Verdict.{Verdict}
use Rattle.runs.specs.declared.line.Verdict.TheVariants.{Met, Unmet}
use Rattle.cores.specs.Core.{Outcome.left}
use Rattle.cores.specs.Fit.{with_first, with_rule, Gives, Shrinks, Shrinks.all, Shrinks.fewer, Halves, Halves.met, Halves.down, Halves.up, Rounds, Rounds.alone, Rounds.round, Fit, Fit.fills, Fit.clashes}
use Rattle.worked.proofs.Evaluation.{then, Once, Came, Fitting, by_verdict, with_line, shrunk, shrink, halved, halve, round_end, found_one, rounded, rounds, fit_end, from_candidates, first_run, fit}
use Rattle.worked.proofs.Sound.{All, then_all}

pub verdict_both : {A : Type 0} (v : Verdict) (x y : A) (P : A → Type 0) → (v ≡ Met → P x) → (v ≡ Unmet → P y) → P (by_verdict v x y)
verdict_both Met x y P p q = p refl
verdict_both Unmet x y P p q = q refl

module _ {S O : Type 0} (R : S → Line → O → S → Type 0) where
  -- a run from s that lists a
  abbrev pub Lists : ℕ → S → Once S O → Type 0
  Lists a s g = R s g.line g.left g.state × (g.line.listed ≡ a)

  module _ (run : ℕ → S → Option (Once S O)) (sound : (a : ℕ) (s : S) → All (Lists a s) (run a s)) where
    gives : {a : ℕ} {v : Verdict} {s : S} {g : Once S O} → Lists a s g → g.line.verdict ≡ v → Gives R a v s g.line g.left g.state
    gives p e = record { run = p.0; lists = p.1; says = e }

    abbrev Shrunk : Line → S → Came S → Type 0
    Shrunk l s c = Shrinks R l s c.lines c.at c.state

    shrunk_sound : (f : Line → S → Option (Came S)) → ((l : Line) (s : S) → All (Shrunk l s) (f l s)) → (l : Line) (s : S) → l.used ≢ l.listed
        → (g : Once S O) → Lists l.used s g → All (Shrunk l s) (shrunk run f g)
    shrunk_sound f ih l s ne g p =
        verdict_both g.line.verdict None (then (f g.line g.state) (with_line run g.line)) (All (Shrunk l s))
        (λ e. tt)
        (λ e. then_all (Shrunk g.line g.state) (Shrunk l s) (f g.line g.state) (with_line run g.line) (ih g.line g.state) (λ c q. fewer ne (gives p e) q))

    shrink_sound : (n : ℕ) (l : Line) (s : S) → All (Shrunk l s) (shrink run n l s)
    shrink_sound zero l s = tt
    shrink_sound (suc n) l s =
        cond_both (l.used == l.listed) (Some (record { lines = []; at = l.listed; state = s })) (then (run l.used s) (shrunk run (shrink run n))) (All (Shrunk l s))
        (λ y. all (eqb-true l.used l.listed y))
        (λ z. then_all (Lists l.used s) (Shrunk l s) (run l.used s) (shrunk run (shrink run n)) (sound l.used s)
        (shrunk_sound (shrink run n) (shrink_sound n) l s (eqb-false l.used l.listed z)))

    abbrev Halved : ℕ → List ℕ → ℕ → ℕ → S → Came S → Type 0
    Halved found cs lo hi s c = Halves R found cs lo hi s c.lines c.at c.state

    halved_sound : (found : ℕ) (cs : List ℕ) (f : ℕ → ℕ → S → Option (Came S)) → ((lo hi : ℕ) (s : S) → All (Halved found cs lo hi s) (f lo hi s)) → (lo hi : ℕ) (s : S) → lo < hi
        → (g : Once S O) → Lists (with_first found ((lo + hi) / 2) cs) s g → All (Halved found cs lo hi s) (halved run f lo hi g)
    halved_sound found cs f ih lo hi s lt g p =
        verdict_both g.line.verdict (then (f ((lo + hi) / 2 + 1) hi g.state) (with_line run g.line)) (then (f lo ((lo + hi) / 2) g.state) (with_line run g.line)) (All (Halved found cs lo hi s))
        (λ e. then_all (Halved found cs ((lo + hi) / 2 + 1) hi g.state) (Halved found cs lo hi s) (f ((lo + hi) / 2 + 1) hi g.state) (with_line run g.line) (ih ((lo + hi) / 2 + 1) hi g.state)
        (λ c q. up lt (gives p e) q))
        (λ e. then_all (Halved found cs lo ((lo + hi) / 2) g.state) (Halved found cs lo hi s) (f lo ((lo + hi) / 2) g.state) (with_line run g.line) (ih lo ((lo + hi) / 2) g.state)
        (λ c q. down lt (gives p e) q))

    halve_sound : (n found : ℕ) (cs : List ℕ) (lo hi : ℕ) (s : S) → All (Halved found cs lo hi s) (halve run n found cs lo hi s)
    halve_sound zero found cs lo hi s = tt
    halve_sound (suc n) found cs lo hi s =
        let more = then (run (with_first found ((lo + hi) / 2) cs) s) (halved run (halve run n found cs) lo hi) in
        cond_both (lo == hi) (Some (record { lines = []; at = lo; state = s })) (cond (nat_lt lo hi) more None) (All (Halved found cs lo hi s))
        (λ y. met (eqb-true lo hi y))
        (λ z. cond_both (nat_lt lo hi) more None (All (Halved found cs lo hi s))
        (λ y. then_all (Lists (with_first found ((lo + hi) / 2) cs) s) (Halved found cs lo hi s) (run (with_first found ((lo + hi) / 2) cs) s) (halved run (halve run n found cs) lo hi)
        (sound (with_first found ((lo + hi) / 2) cs) s) (halved_sound found cs (halve run n found cs) (halve_sound n found cs) lo hi s (ltb-true lo hi y)))
        (λ z. tt))

    abbrev Rounded : List ℕ → ℕ → ℕ → S → Came S → Type 0
    Rounded cs found n s c = Rounds R cs found n s c.lines c.at c.state

    rounded_sound : (cs : List ℕ) (f : ℕ → ℕ → S → Option (Came S)) → ((found n : ℕ) (s : S) → All (Rounded cs found n s) (f found n s)) → (fuel found n : ℕ) (s : S)
        → (g : Once S O) → Lists found s g → All (Rounded cs found n s) (rounded run f fuel cs found n g)
    rounded_sound cs f ih fuel found n s g p =
        verdict_both g.line.verdict (then (halve run fuel found cs 1 n g.state) (found_one run f found cs g.line)) (Some (record { lines = g.line ∷ []; at = found; state = g.state })) (All (Rounded cs found n s))
        (λ e. then_all (Halved found cs 1 n g.state) (Rounded cs found n s) (halve run fuel found cs 1 n g.state) (found_one run f found cs g.line) (halve_sound fuel found cs 1 n g.state)
        (λ h q. then_all (Rounded cs (with_rule found h.at cs) (h.at - 1) h.state) (Rounded cs found n s) (f (with_rule found h.at cs) (h.at - 1) h.state) (round_end run g.line h.lines)
        (ih (with_rule found h.at cs) (h.at - 1) h.state)
        (λ c w. round (gives p e) q w)))
        (λ e. alone (gives p e))

    rounds_sound : (i fuel : ℕ) (cs : List ℕ) (found n : ℕ) (s : S) → All (Rounded cs found n s) (rounds run i fuel cs found n s)
    rounds_sound zero fuel cs found n s = tt
    rounds_sound (suc i) fuel cs found n s =
        then_all (Lists found s) (Rounded cs found n s) (run found s) (rounded run (rounds run i fuel cs) fuel cs found n) (sound found s)
        (rounded_sound cs (rounds run i fuel cs) (rounds_sound i fuel cs) fuel found n s)

    abbrev pub Fitted : ℕ → S → Fitting S O → Type 0
    Fitted on s d = Fit R on s d.lines d.out d.state

    first_run_sound : (fuel on : ℕ) (s : S) (g : Once S O) → Lists on s g → All (Fitted on s) (first_run run fuel g)
    first_run_sound fuel on s g p =
        verdict_both g.line.verdict (Some (record { lines = g.line ∷ []; out = left g.left; state = g.state })) (then (shrink run fuel g.line g.state) (from_candidates run fuel g.line)) (All (Fitted on s))
        (λ e. fills (gives p e))
        (λ e. then_all (Shrunk g.line g.state) (Fitted on s) (shrink run fuel g.line g.state) (from_candidates run fuel g.line) (shrink_sound fuel g.line g.state)
        (λ c q. then_all (Rounded (members c.at) 0 (size c.at) c.state) (Fitted on s) (rounds run fuel fuel (members c.at) 0 (size c.at) c.state) (fit_end run g.line c.lines)
        (rounds_sound fuel fuel (members c.at) 0 (size c.at) c.state)
        (λ d w. clashes (gives p e) q w)))

    pub fit_sound : (fuel on : ℕ) (s : S) → All (Fitted on s) (fit run fuel on s)
    fit_sound fuel on s = then_all (Lists on s) (Fitted on s) (run on s) (first_run run fuel) (sound on s) (first_run_sound fuel on s)
