-- Calls played by runs keep the promise of fillings and cores. Assumes nothing.
use Rattle.std.proofs.Common.{◌≡◌, ℕ, ◌+◌, ◌-◌, ◌*◌, ◌^◌, ◌<◌, ◌≤◌, eqb, ◌≢◌, List, [], ◌∷◌, length, get_or, take, Some, None, vec_items, Option, sym, refl, ap, ◌∙◌, subst, inl, inr, arith}
use Rattle.std.proofs.lemmas.List.{length-take-le, ext_get_or}
use Rattle.std.proofs.lemmas.Bool.{cond-true, cond-false, eq-eqb, ne_eqb, cases_eq}
use Rattle.std.proofs.lemmas.Option.{none-some}
use Rattle.bits.proofs.Lists.{each_map}
use Rattle.bits.specs.Sets.{size}
use Rattle.network.specs.Book.{Lawful}
use Rattle.network.specs.Fillings.{Inside, MeetsAll, Meetable}
use Rattle.choosers.specs.Choice.{Machine, Naming}
use Rattle.runs.specs.declared.line.Line.{Line}
use Rattle.runs.specs.Law.{Right, Fills, Alone}
use Rattle.cores.specs.Core.{Core, Ends, Short, Outcome, Outcome.left, Outcome.core}
use Rattle.cores.specs.Fit.{Fit, Fit.fills}
use Rattle.cores.proofs.CoreLaw.{fit_law}
use Rattle.clash.specs.declared.fitted.Fitted.{Fitted as Values}
use Rattle.clash.specs.Running.{Lasting}
use Rattle.calls.specs.declared.call.Call.{Call}
use Rattle.calls.specs.declared.step.Step.{Step}
use Rattle.calls.specs.Answers.{Said, said}
use Rattle.calls.specs.Sheet.{Sheet, Sizes, Opens, Judged, Judged.shut, Judged.pins, Judged.pins_no_cell, Judged.pins_no_place, Judged.frees, Judged.frees_no_cell, Judged.switches, Judged.switches_no_rule, Judged.fits, Judged.fits_short}
use Rattle.calls.specs.History.{Did, accepted, pinned, standing, is_on, Valid, on_after, Fillable}
use Rattle.calls.specs.Plays.{sizes, did, Makes, Makes.refused, Makes.changed, Makes.fitted, Plays, Plays.none, Plays.more}
use Rattle.calls.specs.Promise.{lines_of, filling_of, Ended, Ended.filled, Ended.clashed, FillingOrCore, FillingsAndCores}
use Rattle.calls.specs.Runs.{Ran, start_after, Comes, FitRuns, FitLaw, StepRuns, StepDone, PlaysByRuns}
use Rattle.calls.proofs.RunLaws.{ran_lawful, ran_fills}
use Rattle.calls.proofs.Fillings.{starts_long, few_rules, where_low, inside_filling, met_fillable, fillable_met}

-- ---- one meaning of "some filling" for another
module _ (F G : ℕ → Type 0) (to : (a : ℕ) → F a → G a) (from : (a : ℕ) → G a → F a) where
  right_map : (l : Line) → Right F l → Right G l
  right_map l r = record { fits = λ e. to l.listed (r.fits e); only = λ g. r.only (from l.listed g); unused = r.unused; among = r.among; clash = λ e g. r.clash e (from l.used g) }

  core_map : (on a : ℕ) → Core F on a → Core G on a
  core_map on a c = record { among = c.among; clash = λ g. c.clash (from a g); needed = λ r h. to (a - 2 ^ r) (c.needed r h) }

-- ---- none, and some
some_none : {n : ℕ} → Some n ≡ None → ⊥
some_none {n} e = let z : ◌≡◌ {A = ℕ} 0 1 = cc in omega arith

some_same : {m n : ℕ} → Some m ≡ Some n → m ≡ n
some_same e = cc

module _ {C : Type 0} (k : Machine C) (naming : Naming k) (s : Sheet) (law : Lawful s.book) where
  -- the filling that a run left is the one returned
  alone_fills : {sets f : List ℕ} {on : ℕ} {start : List ℕ} → Fills s.book start on sets → Alone sets f → length f ≡ length start → Inside f start × MeetsAll s.book on f
  alone_fills {sets} {f} {on} {start} p q long =
      let e : p.filling ≡ f = ext_get_or 0 p.filling f (p.inside.long ∙ sym long) (λ c lt.
      let l : c < length sets = let a = p.left.there.long in omega arith in q.only c (get_or p.filling c 0) (p.left.there.each c l)) in
      (subst (λ (x : List ℕ). Inside x start) e p.inside, subst (MeetsAll s.book on) e p.meets)

  -- the first run of a Fit that ends with what it left
  pub first_run : {start : List ℕ} {on : ℕ} {x y : Lasting C} {ls : List Line} {sets : List ℕ} → Fit (Ran k s.book start) on x ls (left sets) y → Fills s.book start on sets
  first_run {start} {sets = sets} (fills g) = subst (λ (a : ℕ). Fills s.book start a sets) g.lists (ran_fills k naming s.book law start g.run g.says)

  -- the runs of a Fit come to a filling or a core
  pub runs_law : {start : List ℕ} {on : ℕ} {x y : Lasting C} {log : List Line} {filling : List ℕ} {f : Values} → on < 2 ^ 64
      → FitRuns k s.book start on x log filling f y → FitLaw s.book start on log filling f
  runs_law {start} {on} {log = log} {filling = filling} {f = f} small d =
      let l = fit_law (Ran k s.book start) (Meetable s.book start) (ran_lawful k naming s.book law start) small d.runs in
      let count : length (take f.lines log) ≡ f.lines = length-take-le f.lines log d.counted in
      record { filled = filled_by d.out d.runs d.comes l.ends count; clashed = clashed_by d.out d.comes l.ends count; right = l.lines }
    where
      filled_by : {x y : Lasting C} {ls : List Line} (out : Outcome (List ℕ)) → Fit (Ran k s.book start) on x ls out y → Comes out f (take (length start) filling)
          → Ends (Meetable s.book start) on (length ls) out → length ls ≡ f.lines → f.core ≡ None
          → Inside (take (length start) filling) start × MeetsAll s.book on (take (length start) filling) × (f.lines ≡ 1)
      filled_by (left sets) p c e count empty =
          let fl = first_run p in
          let q = alone_fills fl c.1 (c.1.there.long ∙ sym fl.left.there.long ∙ fl.inside.long) in
          (q.0, q.1, sym count ∙ e.1)
      filled_by (core found) p c e count empty = absurd (some_none (sym c ∙ empty))

      clashed_by : {n : ℕ} (out : Outcome (List ℕ)) → Comes out f (take (length start) filling) → Ends (Meetable s.book start) on n out → n ≡ f.lines
          → (c : ℕ) → f.core ≡ Some c → (Meetable s.book start on → ⊥) × Core (Meetable s.book start) on c × Short (size on) (size c) f.lines
      clashed_by (left sets) c e count a is = absurd (some_none (sym is ∙ c.0))
      clashed_by {n} (core found) c e count a is =
          let same : found ≡ a = some_same (sym c ∙ is) in
          subst (λ (a : ℕ). (Meetable s.book start on → ⊥) × Core (Meetable s.book start) on a × Short (size on) (size a) f.lines) same
          (e.0, e.1, λ L h. subst (λ (n : ℕ). n ≤ size on + 2 + size found * L) count (e.2 L h))

  module _ (opens : Opens s) (h : List Did) (valid : Valid s.lengths (standing h)) where
    -- what a Fit comes to, by the fillings under the standing pins
    ended : {a : Step} {f : Values} (o : Option ℕ) → f.core ≡ o → FitLaw s.book (start_after s h) (on_after s h) (vec_items a.buffers.log) (vec_items a.buffers.filling) f → Ended s h a f
    ended {a = a} {f = f} None e l =
        let q = l.filled e in
        let same : take (length (start_after s h)) (vec_items a.buffers.filling) ≡ filling_of s a = ap (λ (n : ℕ). take n (vec_items a.buffers.filling)) (starts_long s.lengths (standing h)) in
        filled (record {
          filling = inside_filling s opens h valid (filling_of s a) (subst (λ (x : List ℕ). Inside x (start_after s h)) same q.0);
          meets = subst (MeetsAll s.book (on_after s h)) same q.1;
          one = q.2;
          no_core = e;
        })
    ended (Some found) e l =
        let q = l.clashed found e in
        clashed (record {
          rules = found;
          is = e;
          never = λ p. q.0 (fillable_met s opens h valid (on_after s h) p);
          core = core_map (Meetable s.book (start_after s h)) (Fillable s h) (met_fillable s opens h valid) (fillable_met s opens h valid) (on_after s h) found q.1;
          few = q.2;
        })

    fit_promise : {x y : Lasting C} {b a : Step} {f : Values} → StepDone k s h x b a f y → FillingOrCore s h b a f
    fit_promise {b = b} {a = a} {f = f} d =
        let l = runs_law (where_low (is_on h) s.book.count (few_rules s opens)) d.0 in
        record {
          ended = ended f.core refl l;
          counted = d.0.counted;
          right = each_map (Right (Meetable s.book (start_after s h))) (Right (Fillable s h)) (lines_of a f) (right_map (Meetable s.book (start_after s h)) (Fillable s h) (met_fillable s opens h valid) (fillable_met s opens h valid)) l.right;
          keeps = d.1;
          sized = d.2;
        }

-- ---- what stands is valid
-- after a call that is not refused, the pins are places of their lists
valid_changed : (s : Sheet) (z : Sizes) (p : ℕ → Option ℕ) {call : Call} {n : ℕ} → Valid s.lengths p → Judged s z call n → n ≡ 0 → Valid s.lengths (λ c. pinned call c (p c))
valid_changed s z p valid (shut x) e = absurd (omega arith)
valid_changed s z p valid (pins {cell} {place} o a b) e = record {
  listed = λ c v lt q. elim (cases_eq cell c) [
    | inl is ↦ let y = cond-true (eqb cell c) (Some place) (p c) (eq-eqb cell c is) in
        let w : place ≡ v = cc in let t = ap (λ (x : ℕ). get_or s.lengths x 0) is in omega arith
    | inr ne ↦ valid.listed c v lt (sym (cond-false (eqb cell c) (Some place) (p c) (ne_eqb cell c ne)) ∙ q)
  ];
}
valid_changed s z p valid (pins_no_cell o a) e = absurd (omega arith)
valid_changed s z p valid (pins_no_place o a b) e = absurd (omega arith)
valid_changed s z p valid (frees {cell} o a) e = record {
  listed = λ c v lt q. elim (cases_eq cell c) [
    | inl is ↦ absurd (none-some _ (sym (cond-true (eqb cell c) None (p c) (eq-eqb cell c is)) ∙ q))
    | inr ne ↦ valid.listed c v lt (sym (cond-false (eqb cell c) None (p c) (ne_eqb cell c ne)) ∙ q)
  ];
}
valid_changed s z p valid (frees_no_cell o a) e = absurd (omega arith)
valid_changed s z p valid (switches o a) e = record { listed = valid.listed }
valid_changed s z p valid (switches_no_rule o a) e = absurd (omega arith)
valid_changed s z p valid (fits o a) e = record { listed = valid.listed }
valid_changed s z p valid (fits_short o a) e = absurd (omega arith)

-- only an open session's calls are done
pub done_opens : {s : Sheet} {z : Sizes} {call : Call} {n : ℕ} → Judged s z call n → n ≡ 0 → Opens s
done_opens (shut x) e = absurd (omega arith)
done_opens (pins o a b) e = o
done_opens (pins_no_cell o a) e = o
done_opens (pins_no_place o a b) e = o
done_opens (frees o a) e = o
done_opens (frees_no_cell o a) e = o
done_opens (switches o a) e = o
done_opens (switches_no_rule o a) e = o
done_opens (fits o a) e = o
done_opens (fits_short o a) e = o

-- what stands after a call, by the number of its answer
pub stands_same : (h : List Did) (d : Did) (n : ℕ) → (said d.answer).number ≡ n → n ≢ 0 → (c : ℕ) → standing (d ∷ h) c ≡ standing h c
stands_same h d n e ne c = cond-false (accepted d) (pinned d.call c (standing h c)) (standing h c) (ne_eqb (said d.answer).number 0 (λ z. ne (sym e ∙ z)))

pub stands_changed : (h : List Did) (d : Did) → (said d.answer).number ≡ 0 → (c : ℕ) → standing (d ∷ h) c ≡ pinned d.call c (standing h c)
stands_changed h d e c = cond-true (accepted d) (pinned d.call c (standing h c)) (standing h c) (eq-eqb (said d.answer).number 0 e)

valid_by : {lengths : List ℕ} {p q : ℕ → Option ℕ} → ((c : ℕ) → q c ≡ p c) → Valid lengths p → Valid lengths q
valid_by e valid = record { listed = λ c v lt i. valid.listed c v lt (sym (e c) ∙ i) }

module _ {S : Type 0} (s : Sheet) (F : List Did → S → Step → Step → Values → S → Type 0) where
  pub valid_next : {h : List Did} {x y : S} {b a : Step} → Valid s.lengths (standing h) → Makes s F h x b a y → Valid s.lengths (standing (did a ∷ h))
  valid_next {h} {a = a} valid (refused {n = n} j ne e u) = valid_by (stands_same h (did a) n (ap (λ (w : Said). w.number) e) ne) valid
  valid_next {h} {b = b} {a = a} valid (changed j ne e u) =
      valid_by (λ c. stands_changed h (did a) (ap (λ (w : Said). w.number) e) c ∙ ap (λ (w : Call). pinned w c (standing h c)) u.call) (valid_changed s (sizes b.buffers) (standing h) valid j refl)
  valid_next {h} {b = b} {a = a} valid (fitted j is e call d) =
      valid_by (λ c. stands_changed h (did a) (ap (λ (w : Said). w.number) e) c ∙ ap (λ (w : Call). pinned w c (standing h c)) call) (valid_changed s (sizes b.buffers) (standing h) valid j refl)

  -- one way to speak of a Fit for another
  module _ {T : Type 0} (G : List Did → T → Step → Step → Values → T → Type 0) (v : S → T)
      (to : (h : List Did) (x y : S) (b a : Step) (f : Values) → Opens s → Valid s.lengths (standing h) → F h x b a f y → G h (v x) b a f (v y)) where
    pub makes_map : {h : List Did} {x y : S} {b a : Step} → Valid s.lengths (standing h) → Makes s F h x b a y → Makes s G h (v x) b a (v y)
    makes_map valid (refused j ne e u) = refused j ne e u
    makes_map valid (changed j ne e u) = changed j ne e u
    makes_map {h} {x} {y} {b} {a} valid (fitted {f = f} j is e call d) = fitted j is e call (to h x y b a f (done_opens j refl) valid d)

    pub plays_map : {h : List Did} {x y : S} {before after : List Step} → Valid s.lengths (standing h) → Plays s F h x before after y → Plays s G h (v x) before after (v y)
    plays_map valid none = none
    plays_map valid (more d p) = more (makes_map valid d) (plays_map (valid_next valid d) p)

pub none_valid : (lengths : List ℕ) → Valid lengths (standing [])
none_valid lengths = record { listed = λ c v lt e. absurd (none-some v e) }

module _ {C : Type 0} (k : Machine C) (naming : Naming k) (s : Sheet) (law : Lawful s.book) where
  pub plays_promise : {x y : Lasting C} {before after : List Step} → Plays s (StepDone k s) [] x before after y → FillingsAndCores s before after
  plays_promise p = plays_map s (StepDone k s) (λ h _ b a f _. FillingOrCore s h b a f) (λ _. tt)
      (λ h x y b a f opens valid d. fit_promise k naming s law opens h valid d) (none_valid s.lengths) p

pub plays_runs : {C : Type 0} (k : Machine C) (s : Sheet) {x y : Lasting C} {before after : List Step} → Plays s (StepDone k s) [] x before after y → PlaysByRuns k s [] x before after y
plays_runs k s p = plays_map s (StepDone k s) (λ h x b a f y. StepRuns k s h x a f y) (λ x. x) (λ h x y b a f opens valid d. d.0) (none_valid s.lengths) p
