-- There is one settling from a state, and no other. Assumes nothing.
use Rattle.std.proofs.Common.{◌≡◌, ℕ, sym, refl, ap, ◌∙◌, subst}
use Rattle.network.specs.Book.{BookMeaning}
use Rattle.runs.specs.Settle.{State, Revises, Revises.absent, Revises.kept, Revises.removed, Empties, Empties.emptied, Position, PositionFails, Turn, Turn.unlisted, Turn.taken, TurnFails, Sweep, SweepFails, Settles, Settles.rest, Settles.again, Fails, Fails.at_once, Fails.later}
use Rattle.runs.specs.Law.{OnlySettles, OnlyFails}
use Rattle.runs.proofs.Turning.{Exact, turns_same, turns_stops, stops_same}

module _ {m : BookMeaning} {r i : ℕ} where
  revises_same : {v : ℕ} {s t u : State} → Revises m r i v s t → Revises m r i v s u → t ≡ u
  revises_same (absent n) (absent n') = refl
  revises_same (absent n) (kept p) = refl
  revises_same (absent n) (removed l e) = absurd (n l.there)
  revises_same (kept p) (absent n) = refl
  revises_same (kept p) (kept p') = refl
  revises_same (kept p) (removed l e) = absurd (l.unsupported p)
  revises_same (removed l e) (absent n) = absurd (n l.there)
  revises_same (removed l e) (kept p) = absurd (l.unsupported p)
  revises_same (removed l e) (removed l' e') = refl

  empties_same : {v : ℕ} {s t u : State} → Empties m r i v s t → Empties m r i v s u → t ≡ u
  empties_same (emptied l e) (emptied l' e') = refl

  revises_apart : {v : ℕ} {s t u : State} → Revises m r i v s t → Empties m r i v s u → ⊥
  revises_apart (absent n) (emptied l e) = n l.there
  revises_apart (kept p) (emptied l e) = l.unsupported p
  revises_apart (removed l e) (emptied l' e') = e e'

pub places_exact : (m : BookMeaning) (r i : ℕ) → Exact (Revises m r i) (Empties m r i)
places_exact m r i = record { same = λ v a b c p q. revises_same p q; last = λ v a b c p q. empties_same p q; apart = λ v a b c p q. revises_apart p q }

positions_exact : (m : BookMeaning) (r : ℕ) → Exact (Position m r) (PositionFails m r)
positions_exact m r = record {
  same = λ i a b c p q. turns_same (places_exact m r i) p q;
  last = λ i a b c p q. (stops_same (places_exact m r i) p.1 q.1).1;
  apart = λ i a b c p q. turns_stops (places_exact m r i) p q.1;
}

module _ {m : BookMeaning} {listed r : ℕ} where
  turn_same : {s t u : State} → Turn m listed r s t → Turn m listed r s u → t ≡ u
  turn_same (unlisted n) (unlisted n') = refl
  turn_same (unlisted n) (taken h p) = absurd (n h)
  turn_same (taken h p) (unlisted n) = absurd (n h)
  turn_same (taken h p) (taken h' p') = turns_same (positions_exact m r) p p'

  turn_apart : {s t u : State} → Turn m listed r s t → TurnFails m listed r s u → ⊥
  turn_apart (unlisted n) q = n q.0
  turn_apart (taken h p) q = turns_stops (positions_exact m r) p q.1.1

rules_exact : (m : BookMeaning) (listed : ℕ) → Exact (Turn m listed) (TurnFails m listed)
rules_exact m listed = record {
  same = λ r a b c p q. turn_same p q;
  last = λ r a b c p q. (stops_same (positions_exact m r) p.1.1 q.1.1).1;
  apart = λ r a b c p q. turn_apart p q;
}

module _ {m : BookMeaning} {listed : ℕ} where
  sweep_same : {s t u : State} → Sweep m listed s t → Sweep m listed s u → t ≡ u
  sweep_same p q = turns_same (rules_exact m listed) p q

  sweep_apart : {r : ℕ} {s t u : State} → Sweep m listed s t → SweepFails m listed r s u → ⊥
  sweep_apart p q = turns_stops (rules_exact m listed) p q

  pub settles_same : {s t u : State} → Settles m listed s t → Settles m listed s u → t ≡ u
  settles_same (rest p e) (rest p' e') = sweep_same p p'
  settles_same (rest p e) (again p' d' q') = absurd (d' (ap (λ (x : State). x.sets) (sym (sweep_same p p')) ∙ e))
  settles_same (again p d q) (rest p' e') = absurd (d (ap (λ (x : State). x.sets) (sweep_same p p') ∙ e'))
  settles_same (again {u = u} p d q) (again p' d' q') = settles_same (subst (λ (x : State). Settles m listed x u) (sweep_same p p') q) q'

  pub settles_apart : {r : ℕ} {s t u : State} → Settles m listed s t → Fails m listed r s u → ⊥
  settles_apart (rest p e) (at_once q) = sweep_apart p q
  settles_apart (rest p e) (later p' d' q') = d' (ap (λ (x : State). x.sets) (sym (sweep_same p p')) ∙ e)
  settles_apart (again p d q) (at_once q') = sweep_apart p q'
  settles_apart (again {u = u} p d q) (later p' d' q') = settles_apart (subst (λ (x : State). Settles m listed x u) (sweep_same p p') q) q'

  pub fails_same : {r q : ℕ} {s t u : State} → Fails m listed r s t → Fails m listed q s u → (r ≡ q) × (t ≡ u)
  fails_same (at_once p) (at_once q) = stops_same (rules_exact m listed) p q
  fails_same (at_once p) (later q d f) = absurd (sweep_apart q p)
  fails_same (later p d f) (at_once q) = absurd (sweep_apart p q)
  fails_same {r} (later {u = u} p d f) (later p' d' f') = fails_same (subst (λ (x : State). Fails m listed r x u) (sweep_same p p') f) f'

  pub only_settles : {s t : State} → Settles m listed s t → OnlySettles m listed s t
  only_settles p = record { same = λ u q. settles_same q p; never = λ r u q. settles_apart p q }

  pub only_fails : {r : ℕ} {s t : State} → Fails m listed r s t → OnlyFails m listed r s t
  only_fails p = record { same = λ q u f. fails_same f p; never = λ u q. settles_apart q p }
