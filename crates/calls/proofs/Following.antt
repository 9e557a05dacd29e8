-- What is played by runs follows from the sheet, the chooser and the calls. Assumes nothing.
use Rattle.std.proofs.Common.{◌≡◌, ℕ, ◌<◌, cond, eqb, List, [], ◌∷◌, length, get_or, take, None, vec_items, Option, sym, refl, ap, ◌∙◌, subst, subst₂, arith}
use Rattle.std.specs.List.{AllZip}
use Rattle.std.proofs.lemmas.List.{length-take-le, ext_get_or}
use Rattle.std.proofs.lemmas.Option.{none-some}
use Rattle.choosers.specs.Choice.{Machine}
use Rattle.runs.specs.declared.line.Line.{Line}
use Rattle.cores.specs.Core.{Outcome, Outcome.left, Outcome.core}
use Rattle.cores.proofs.Unique.{fit_same}
use Rattle.clash.specs.declared.fitted.Fitted.{Fitted as Values}
use Rattle.clash.specs.Running.{Lasting}
use Rattle.calls.specs.declared.call.Call.{Call}
use Rattle.calls.specs.declared.refusal.Refusal.{Refusal}
use Rattle.calls.specs.declared.refusal.Refusal.TheVariants.{Lists, TooManyRules, MissingCell, Shut, NoCell, NoPlace, NoRule, ShortBuffer}
use Rattle.calls.specs.declared.answer.Answer.{Answer}
use Rattle.calls.specs.declared.answer.Answer.TheVariants.{Done, Fitted, Refused}
use Rattle.calls.specs.declared.step.Step.{Step}
use Rattle.calls.specs.Answers.{number_of, Said, said, plain, returned}
use Rattle.calls.specs.Sheet.{Sheet, Sizes, Judged, Judged.shut, Judged.pins, Judged.pins_no_cell, Judged.pins_no_place, Judged.frees, Judged.frees_no_cell, Judged.switches, Judged.switches_no_rule, Judged.fits, Judged.fits_short}
use Rattle.calls.specs.History.{Did, standing}
use Rattle.calls.specs.Plays.{sizes, did, Makes, Makes.refused, Makes.changed, Makes.fitted, Plays.none, Plays.more}
use Rattle.calls.specs.Promise.{lines_of, filling_of}
use Rattle.runs.specs.Law.{Alone}
use Rattle.calls.specs.Runs.{Ran, Comes, FitRuns, StepRuns, PlaysByRuns, Alike, Agree, OnlyFit, Follows}
use Rattle.calls.proofs.RunLaws.{ran_fixed}
use Rattle.calls.proofs.Fillings.{starts_long}

-- ---- a call is judged in one way
pub judged_same : {s : Sheet} {z : Sizes} {call : Call} {n m : ℕ} → Judged s z call n → Judged s z call m → n ≡ m
judged_same (shut x) (shut y) = refl
judged_same (shut x) (pins o a b) = absurd (x o)
judged_same (pins o a b) (shut x) = absurd (x o)
judged_same (shut x) (pins_no_cell o a) = absurd (x o)
judged_same (pins_no_cell o a) (shut x) = absurd (x o)
judged_same (shut x) (pins_no_place o a b) = absurd (x o)
judged_same (pins_no_place o a b) (shut x) = absurd (x o)
judged_same (shut x) (frees o a) = absurd (x o)
judged_same (frees o a) (shut x) = absurd (x o)
judged_same (shut x) (frees_no_cell o a) = absurd (x o)
judged_same (frees_no_cell o a) (shut x) = absurd (x o)
judged_same (shut x) (switches o a) = absurd (x o)
judged_same (switches o a) (shut x) = absurd (x o)
judged_same (shut x) (switches_no_rule o a) = absurd (x o)
judged_same (switches_no_rule o a) (shut x) = absurd (x o)
judged_same (shut x) (fits o a) = absurd (x o)
judged_same (fits o a) (shut x) = absurd (x o)
judged_same (shut x) (fits_short o a) = absurd (x o)
judged_same (fits_short o a) (shut x) = absurd (x o)
judged_same (pins o a b) (pins o' a' b') = refl
judged_same (pins o a b) (pins_no_cell o' a') = absurd (omega arith)
judged_same (pins o a b) (pins_no_place o' a' b') = absurd (omega arith)
judged_same (pins_no_cell o a) (pins o' a' b') = absurd (omega arith)
judged_same (pins_no_cell o a) (pins_no_cell o' a') = refl
judged_same (pins_no_cell o a) (pins_no_place o' a' b') = absurd (omega arith)
judged_same (pins_no_place o a b) (pins o' a' b') = absurd (omega arith)
judged_same (pins_no_place o a b) (pins_no_cell o' a') = absurd (omega arith)
judged_same (pins_no_place o a b) (pins_no_place o' a' b') = refl
judged_same (frees o a) (frees o' a') = refl
judged_same (frees o a) (frees_no_cell o' a') = absurd (omega arith)
judged_same (frees_no_cell o a) (frees o' a') = absurd (omega arith)
judged_same (frees_no_cell o a) (frees_no_cell o' a') = refl
judged_same (switches o a) (switches o' a') = refl
judged_same (switches o a) (switches_no_rule o' a') = absurd (omega arith)
judged_same (switches_no_rule o a) (switches o' a') = absurd (omega arith)
judged_same (switches_no_rule o a) (switches_no_rule o' a') = refl
judged_same (fits o a) (fits o' a') = refl
judged_same (fits o a) (fits_short o' a') = absurd (a' a)
judged_same (fits_short o a) (fits o' a') = absurd (a a')
judged_same (fits_short o a) (fits_short o' a') = refl

-- ---- what an answer says is the answer
named : ℕ → Refusal
named n = cond (eqb n 11) Lists (cond (eqb n 12) TooManyRules (cond (eqb n 13) MissingCell (cond (eqb n 14) Shut (cond (eqb n 15) NoCell (cond (eqb n 16) NoPlace (cond (eqb n 17) NoRule (ShortBuffer)))))))

back : (r : Refusal) → named (number_of r) ≡ r
unfolding named
back Lists = refl
back TooManyRules = refl
back MissingCell = refl
back Shut = refl
back NoCell = refl
back NoPlace = refl
back NoRule = refl
back ShortBuffer = refl

pub refused_not_done : (r : Refusal) → number_of r ≡ 0 → ⊥
refused_not_done Lists e = omega arith
refused_not_done TooManyRules e = omega arith
refused_not_done MissingCell e = omega arith
refused_not_done Shut e = omega arith
refused_not_done NoCell e = omega arith
refused_not_done NoPlace e = omega arith
refused_not_done NoRule e = omega arith
refused_not_done ShortBuffer e = omega arith

pub said_same : (p q : Answer) → said p ≡ said q → p ≡ q
said_same Done Done e = refl
said_same Done (Fitted f) e = absurd (none-some _ (ap (λ (w : Said). w.values) e))
said_same Done (Refused r) e = absurd (refused_not_done r (sym (ap (λ (w : Said). w.number) e)))
said_same (Fitted f) Done e = absurd (none-some _ (sym (ap (λ (w : Said). w.values) e)))
said_same (Fitted f) (Fitted g) e = let v = ap (λ (w : Said). w.values) e in let z : f ≡ g = cc in ap Fitted z
said_same (Fitted f) (Refused r) e = absurd (none-some _ (sym (ap (λ (w : Said). w.values) e)))
said_same (Refused r) Done e = absurd (refused_not_done r (ap (λ (w : Said). w.number) e))
said_same (Refused r) (Fitted f) e = absurd (none-some _ (ap (λ (w : Said). w.values) e))
said_same (Refused r) (Refused q) e = ap Refused (sym (back r) ∙ ap named (ap (λ (w : Said). w.number) e) ∙ back q)

-- ---- what runs come to
alone_same : {sets p q : List ℕ} → Alone sets p → Alone sets q → p ≡ q
alone_same {sets} {p} {q} a b = ext_get_or 0 p q (a.there.long ∙ sym b.there.long) (λ c lt.
    let l : c < length sets = let e = a.there.long in omega arith in b.only c (get_or p c 0) (a.there.each c l))

comes_same : (out : Outcome (List ℕ)) (f g : Values) (p q : List ℕ) → Comes out f p → Comes out g q → (f.core ≡ g.core) × (f.core ≡ None → p ≡ q)
comes_same (left sets) f g p q a b = (a.0 ∙ sym b.0, λ _. alone_same a.1 b.1)
comes_same (core c) f g p q a b = (a ∙ sym b, λ z. cc)

pub values_same : (f g : Values) → f.lines ≡ g.lines → f.core ≡ g.core → f ≡ g
values_same f g a b = same a b
  where
    same : {l l' : ℕ} {k k' : Option ℕ} → l ≡ l' → k ≡ k' → ◌≡◌ {A = Values} (record { lines = l; core = k }) (record { lines = l'; core = k' })
    same p q = cc

pub returned_same : (f g : Values) → returned f ≡ returned g → f ≡ g
returned_same f g e = let v = ap (λ (w : Said). w.values) e in cc

pub sizes_same : {w w' l l' f f' : ℕ} → w ≡ w' → l ≡ l' → f ≡ f' → ◌≡◌ {A = Sizes} (record { work = w; log = l; filling = f }) (record { work = w'; log = l'; filling = f' })
sizes_same a b c = cc

pub did_same : {c c' : Call} {a a' : Answer} → c ≡ c' → a ≡ a' → ◌≡◌ {A = Did} (record { call = c; answer = a }) (record { call = c'; answer = a' })
did_same e f = cc

module _ {C : Type 0} (k : Machine C) (s : Sheet) where
  -- the same runs give the same answer, lines and filling, and leave the same
  pub only_fit : {start : List ℕ} {on : ℕ} {x y : Lasting C} {log : List Line} {filling : List ℕ} {f : Values} → FitRuns k s.book start on x log filling f y → OnlyFit k s.book start on x log filling f y
  only_fit {start} {log = log} {filling = filling} {f = f} p log' filling' g z q =
      let e = fit_same (Ran k s.book start) (ran_fixed k s.book start) p.runs q.runs in
      let n = length-take-le f.lines log p.counted in
      let m = length-take-le g.lines log' q.counted in
      let lines : f.lines ≡ g.lines = sym n ∙ ap length e.0 ∙ m in
      let c = comes_same q.out f g (take (length start) filling) (take (length start) filling') (subst (λ (o : Outcome (List ℕ)). Comes o f (take (length start) filling)) e.1 p.comes) q.comes in
      (values_same f g lines c.0, e.0, c.1, e.2)

  fit_agree : (h : List Did) (a a' : Step) (f g : Values) {x y y' : Lasting C} → StepRuns k s h x a f y → StepRuns k s h x a' g y'
      → (f ≡ g) × (lines_of a f ≡ lines_of a' g) × (f.core ≡ None → filling_of s a ≡ filling_of s a') × (y ≡ y')
  fit_agree h a a' f g {y' = y'} p q =
      let wide = starts_long s.lengths (standing h) in
      let o = only_fit p (vec_items a'.buffers.log) (vec_items a'.buffers.filling) g y' q in (
        o.0,
        o.1,
        λ z. sym (ap (λ (i : ℕ). take i (vec_items a.buffers.filling)) wide) ∙ o.2 z ∙ ap (λ (i : ℕ). take i (vec_items a'.buffers.filling)) wide,
        o.3,
      )

  -- the same sizes and the same call
  alike_judged : {b b' : Step} {n : ℕ} → Alike b b' → Judged s (sizes b'.buffers) b'.call n → Judged s (sizes b.buffers) b.call n
  alike_judged {b} {b'} {n} e j =
      let z : sizes b'.buffers ≡ sizes b.buffers = sizes_same (sym e.work) (sym e.log) (sym e.filling) in
      subst₂ (λ (w : Sizes) (c : Call). Judged s w c n) z (sym e.call) j

  agree_plain : {n : ℕ} {a a' : Step} → a.call ≡ a'.call → said a.answer ≡ plain n → said a'.answer ≡ plain n → Agree s a a'
  agree_plain {n} {a} {a'} call e e' = record {
    call = call;
    answer = said_same a.answer a'.answer (e ∙ sym e');
    lines = λ f q. absurd (none-some _ (sym (ap (λ (w : Said). w.values) e) ∙ ap (λ (w : Said). w.values) q));
    filling = λ f q z. absurd (none-some _ (sym (ap (λ (w : Said). w.values) e) ∙ ap (λ (w : Said). w.values) q));
  }

  makes_same : {h : List Did} {x y y' : Lasting C} {b b' a a' : Step} → Alike b b' → Makes s (λ h x b a f y. StepRuns k s h x a f y) h x b a y → Makes s (λ h x b a f y. StepRuns k s h x a f y) h x b' a' y'
      → Agree s a a' × (y ≡ y')
  makes_same {b = b} {b' = b'} {a = a} {a' = a'} e (refused {n = n} j ne i u) (refused {n = m} j' ne' i' u') =
      (agree_plain (u.call ∙ e.call ∙ sym u'.call) i (i' ∙ ap plain (sym (judged_same j (alike_judged e j')))), refl)
  makes_same e (refused j ne i u) (changed j' ne' i' u') = absurd (ne (judged_same j (alike_judged e j')))
  makes_same e (refused j ne i u) (fitted j' is i' call d) = absurd (ne (judged_same j (alike_judged e j')))
  makes_same e (changed j ne i u) (refused j' ne' i' u') = absurd (ne' (sym (judged_same j (alike_judged e j'))))
  makes_same e (changed j ne i u) (changed j' ne' i' u') = (agree_plain (u.call ∙ e.call ∙ sym u'.call) i i', refl)
  makes_same e (changed j ne i u) (fitted j' is i' call d) = absurd (ne (e.call ∙ is))
  makes_same e (fitted j is i call d) (refused j' ne' i' u') = absurd (ne' (sym (judged_same j (alike_judged e j'))))
  makes_same e (fitted j is i call d) (changed j' ne' i' u') = absurd (ne' (sym e.call ∙ is))
  makes_same {h} {a = a} {a' = a'} e (fitted {f = f} j is i call d) (fitted {f = g} j' is' i' call' d') =
      let q = fit_agree h a a' f g d d' in (
        record {
          call = call ∙ e.call ∙ sym call';
          answer = said_same a.answer a'.answer (i ∙ ap returned q.0 ∙ sym i');
          lines = λ v w. let z : f ≡ v = returned_same f v (sym i ∙ w) in subst (λ (t : Values). lines_of a t ≡ lines_of a' t) z (q.1 ∙ ap (lines_of a') (sym q.0));
          filling = λ v w z. q.2 (ap (λ (t : Values). t.core) (returned_same f v (sym i ∙ w)) ∙ z);
        },
        q.3,
      )

  plays_same : (before before' : List Step) → AllZip Alike before before' → (h : List Did) (x y y' : Lasting C) (after after' : List Step) → PlaysByRuns k s h x before after y
      → PlaysByRuns k s h x before' after' y' → AllZip (Agree s) after after' × (y ≡ y')
  plays_same [] [] e h x y y' after after' none none = (tt, refl)
  plays_same [] (c' ∷ bs') e h x y y' after after' p p' = absurd e
  plays_same (c ∷ bs) [] e h x y y' after after' p p' = absurd e
  plays_same (c ∷ bs) (c' ∷ bs') e h x y y' _ _ (more {t = t} {a = a} {after = after} d p) (more {a = a'} {before = before'} {after = after'} d' p') =
      let q = makes_same e.0 d d' in
      let i : did a ≡ did a' = did_same q.0.call q.0.answer in
      let r = plays_same bs bs' e.1 (did a ∷ h) t y y' after after' p (subst₂ (λ (c : Did) (t : Lasting C). PlaysByRuns k s (c ∷ h) t before' after' y') (sym i) (sym q.1) p') in
      ((q.0, r.0), r.1)

  pub plays_follow : {x y : Lasting C} {before after : List Step} → PlaysByRuns k s [] x before after y → Follows k s x before after y
  plays_follow {x} {y} {before} {after} p before' after' y' e q = plays_same before before' e [] x y y' after after' p q
