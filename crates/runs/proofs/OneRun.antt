-- There is one run from a start, and no other. Assumes nothing.
use Rattle.std.proofs.Common.{◌≡◌, ℕ, Bool, true, false, List, sym, refl, ap, ◌∙◌, subst, ap₂, subst₂}
use mathlib.Core.Path.{subst₃}
use Rattle.std.proofs.lemmas.Bool.{false≢true, true≢false}
use Rattle.network.specs.Book.{BookMeaning}
use Rattle.choosers.specs.Choice.{Machine}
use Rattle.choosers.specs.declared.chooser.Event.TheVariants.{Failed, Stood}
use Rattle.runs.specs.declared.line.Line.{Line}
use Rattle.runs.specs.Settle.{State, Settles, Fails}
use Rattle.runs.specs.Run.{
  alone,
  back,
  Choice,
  TryFails,
  TryFails.at_first,
  TryFails.at_last,
  Explores,
  Explores.filled,
  Explores.stands,
  Explores.goes_on,
  Explores.ends,
  Searches,
  Searches.fails,
  Searches.settled,
  Run,
  Run.ran,
  line,
}
use Rattle.runs.specs.Law.{OnlyRun}
use Rattle.runs.proofs.Unique.{settles_same, settles_apart, fails_same}
use Rattle.runs.proofs.Chosen.{tried_same}

module _ {C : Type 0} {k : Machine C} {m : BookMeaning} {listed : ℕ} where
  choice_same : {x : C} {s : State} {c v c' v' : ℕ} → Choice k m listed x s c v → Choice k m listed x s c' v' → (c' ≡ c) × (v' ≡ v)
  choice_same {x} {s} {c} {v} {c'} {v'} p q =
      let e : c' ≡ c = sym q.named ∙ p.named in
      (e, tried_same s.sets c v' v (subst (λ (z : ℕ). Rattle.runs.specs.Run.Tried s.sets z v') e q.place) p.place)

  -- a try that stands and explores to no failure does not fail
  stands_apart : {x : C} {s t w : State} {c v : ℕ} {z : C} → Settles m listed (alone s c v) t
      → ((y : C) (u : State) → Explores k m listed (k.told x (Stood c)) t false y u → ⊥) → TryFails k m listed x s c v z w → ⊥
  stands_apart p never (at_first p') = settles_apart p p'
  stands_apart {x} {c = c} p never (at_last {y = y'} {t = t'} {u = u'} p' q') =
      never y' u' (subst (λ (b : State). Explores k m listed (k.told x (Stood c)) b false y' u') (settles_same p' p) q')

  mutual
    explores_same : {x y y' : C} {s u u' : State} {found found' : Bool} → Explores k m listed x s found y u → Explores k m listed x s found' y' u'
        → (found ≡ found') × (y ≡ y') × (u ≡ u')
    explores_same (filled e) (filled e') = (refl, refl, refl)
    explores_same (filled e) (stands h p q) = absurd (h.some (sym h.named ∙ e))
    explores_same (filled e) (goes_on h f p q) = absurd (h.some (sym h.named ∙ e))
    explores_same (filled e) (ends h f p) = absurd (h.some (sym h.named ∙ e))
    explores_same (stands h p q) (filled e) = absurd (h.some (sym h.named ∙ e))
    explores_same {x} {y' = y'} {s = s} {u' = u'} (stands {t = t} {c = c} {v = v} h p q) (stands {t = t'} h' p' q') =
        let e = choice_same h h' in
        let et : t' ≡ t = settles_same (subst₂ (λ (a b : ℕ). Settles m listed (alone s a b) t') e.0 e.1 p') p in
        explores_same q (subst₂ (λ (a : ℕ) (b : State). Explores k m listed (k.told x (Stood a)) b true y' u') e.0 et q')
    explores_same {x} {s = s} (stands h p q) (goes_on {y = y} {t = t} h' f' p' q') =
        let e = choice_same h h' in
        absurd (stands_apart p (λ _ _ w. true≢false (explores_same q w).0) (subst₂ (λ (a b : ℕ). TryFails k m listed x s a b y t) e.0 e.1 f'))
    explores_same {x} {s = s} (stands h p q) (ends {y = y} {t = t} h' f' p') =
        let e = choice_same h h' in
        absurd (stands_apart p (λ _ _ w. true≢false (explores_same q w).0) (subst₂ (λ (a b : ℕ). TryFails k m listed x s a b y t) e.0 e.1 f'))
    explores_same (goes_on h f p q) (filled e) = absurd (h.some (sym h.named ∙ e))
    explores_same {x} {y' = y'} {s = s} {u' = u'} (goes_on h f p q) (stands {t = t'} h' p' q') =
        let e = choice_same h h' in
        absurd (apart_stands f (subst₂ (λ (a b : ℕ). Settles m listed (alone s a b) t') e.0 e.1 p')
        (subst (λ (a : ℕ). Explores k m listed (k.told x (Stood a)) t' true y' u') e.0 q'))
    explores_same {x} {y' = y'} {s = s} {u' = u'} (goes_on {y = y} {t = t} {u = u} {c = c} {v = v} h f p q) (goes_on {y = z} {t = t'} {u = w} {found = found'} h' f' p' q') =
        let e = choice_same h h' in
        let d = tries_same f (subst₂ (λ (a b : ℕ). TryFails k m listed x s a b z t') e.0 e.1 f') in
        let eu : w ≡ u = settles_same (subst₃ (λ (a b : ℕ) (j : State). Settles m listed (back s a b j) w) e.0 e.1 (sym d.1) p') p in
        explores_same q (subst₂ (λ (a : C) (b : State). Explores k m listed a b found' y' u') (sym d.0) eu q')
    explores_same {x} {s = s} {u' = u'} (goes_on h f p q) (ends {y = z} {t = t'} {r = r} h' f' p') =
        let e = choice_same h h' in
        let d = tries_same f (subst₂ (λ (a b : ℕ). TryFails k m listed x s a b z t') e.0 e.1 f') in
        absurd (settles_apart p (subst₃ (λ (a b : ℕ) (j : State). Fails m listed r (back s a b j) u') e.0 e.1 (sym d.1) p'))
    explores_same (ends h f p) (filled e) = absurd (h.some (sym h.named ∙ e))
    explores_same {x} {y' = y'} {s = s} {u' = u'} (ends h f p) (stands {t = t'} h' p' q') =
        let e = choice_same h h' in
        absurd (apart_stands f (subst₂ (λ (a b : ℕ). Settles m listed (alone s a b) t') e.0 e.1 p')
        (subst (λ (a : ℕ). Explores k m listed (k.told x (Stood a)) t' true y' u') e.0 q'))
    explores_same {x} {s = s} (ends h f p) (goes_on {y = z} {t = t'} {u = w} h' f' p' q') =
        let e = choice_same h h' in
        let d = tries_same f (subst₂ (λ (a b : ℕ). TryFails k m listed x s a b z t') e.0 e.1 f') in
        absurd (settles_apart (subst₃ (λ (a b : ℕ) (j : State). Settles m listed (back s a b j) w) e.0 e.1 (sym d.1) p') p)
    explores_same {x} {s = s} {u' = u'} (ends h f p) (ends {y = z} {t = t'} {r = r} h' f' p') =
        let e = choice_same h h' in
        let d = tries_same f (subst₂ (λ (a b : ℕ). TryFails k m listed x s a b z t') e.0 e.1 f') in
        (refl, d.0, (fails_same p (subst₃ (λ (a b : ℕ) (j : State). Fails m listed r (back s a b j) u') e.0 e.1 (sym d.1) p')).1)

    tries_same : {x : C} {s t t' : State} {c v : ℕ} {y y' : C} → TryFails k m listed x s c v y t → TryFails k m listed x s c v y' t' → (y ≡ y') × (t ≡ t')
    tries_same (at_first p) (at_first p') = (refl, (fails_same p p').1)
    tries_same (at_first p) (at_last p' q') = absurd (settles_apart p' p)
    tries_same (at_last p q) (at_first p') = absurd (settles_apart p p')
    tries_same {x} {c = c} (at_last {t = t} {u = u} p q) (at_last {y = y'} {t = t'} {u = u'} p' q') =
        let et : t' ≡ t = settles_same p' p in
        let d = explores_same q (subst (λ (b : State). Explores k m listed (k.told x (Stood c)) b false y' u') et q') in
        (ap (λ (z : C). k.told z (Failed c)) d.1, d.2)

    apart_stands : {x y : C} {s t u w : State} {c v : ℕ} {z : C} → TryFails k m listed x s c v z w → Settles m listed (alone s c v) t
        → Explores k m listed (k.told x (Stood c)) t true y u → ⊥
    apart_stands (at_first p) p' q' = settles_apart p' p
    apart_stands {x} {y} {u = u} {c = c} (at_last p q) p' q' =
        false≢true (explores_same q (subst (λ (b : State). Explores k m listed (k.told x (Stood c)) b true y u) (settles_same p' p) q')).0

  searches_same : {x y y' : C} {s u u' : State} {found found' : Bool} → Searches k m listed x s found y u → Searches k m listed x s found' y' u'
      → (found ≡ found') × (y ≡ y') × (u ≡ u')
  searches_same (fails p) (fails p') = (refl, refl, (fails_same p p').1)
  searches_same (fails p) (settled p' q') = absurd (settles_apart p' p)
  searches_same (settled p q) (fails p') = absurd (settles_apart p p')
  searches_same {x} {y' = y'} {u' = u'} {found' = found'} (settled p q) (settled p' q') =
      explores_same q (subst (λ (b : State). Explores k m listed x b found' y' u') (settles_same p' p) q')

  pub only_run : {start : List ℕ} {x y : C} {ws ws' sets : List ℕ} {l : Line} → Run k m start listed x ws l y ws' sets → OnlyRun k m start listed x ws l y ws' sets
  only_run (ran {t = t} {found = found} p) l' y' w' s' (ran {t = t'} {found = found'} p') =
      let d = searches_same p' p in
      (ap₂ (λ (b : Bool) (z : State). line listed b z.used) d.0 d.2, d.1, ap (λ (z : State). z.weights) d.2, ap (λ (z : State). z.sets) d.2)
