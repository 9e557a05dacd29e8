-- The runs that the evaluation gives are runs. Assumes nothing.
use Rattle.std.proofs.Common.{◌≡◌, ℕ, zero, suc, ◌+◌, ◌^◌, ◌<◌, Bool, true, false, cond, List, Some, None, Option, ◌==◌, nat_lt, sym, refl, ap, ◌∙◌, subst, arith}
use Rattle.std.proofs.lemmas.Bool.{cond_both, ltb-true, eqb-true, eqb-false}
use Rattle.bits.specs.Sets.{Lowest}
use Rattle.network.specs.Book.{BookMeaning}
use Rattle.choosers.specs.Choice.{Machine}
use Rattle.choosers.specs.declared.chooser.Event.TheVariants.{Start, Failed, Stood}
use Rattle.runs.specs.Settle.{State, state, left_at, Settles}
use Rattle.runs.specs.Figures.{figures_of}
use Rattle.runs.specs.Run.{Choice, Explores, filled, stands, goes_on, ends, TryFails, at_first, at_last, Searches, fails, settled, Run, ran, line, alone, back}
use Rattle.clash.specs.Running.{Lasting, lasting}
use Rattle.worked.proofs.Evaluation.{Out, held, fell, then, Ended, Once, lowest, settle, came, on_with, onward, after_try, tried, try_at, choose, explore, run_end, run}
use Rattle.worked.proofs.Sound.{All, then_all, lowest_sound, Agree, Settled, settle_sound, figures_same}

module _ {C : Type 0} (k : Machine C) (e m : BookMeaning) (agree : Agree e m) (listed : ℕ) where
  abbrev pub Explored : C → State → Ended C → Type 0
  Explored x s d = Explores k m listed x s d.found d.chooser d.state

  -- the rest of a search: the sets are settled, and explored
  abbrev pub Searched : C → State → Ended C → Type 0
  Searched x s d = Searches k m listed x s d.found d.chooser d.state

  module _ (f : C → State → Option (Ended C)) (sound : (x : C) (s : State) → All (Explored x s) (f x s)) (fuel : ℕ) where
    from_explored : (x : C) (s t : State) (o : Option (Ended C)) → Settles m listed s t → All (Explored x t) o → All (Searched x s) o
    from_explored x s t None p q = tt
    from_explored x s t (Some d) p q = settled p q

    on_with_sound : (x : C) (s : State) (o : Out) → Settled e m agree listed s o → All (Searched x s) (on_with k e f x o)
    on_with_sound x s (held t) p = from_explored x s t (f x t) p (sound x t)
    on_with_sound x s (fell r t) p = fails p

    pub onward_sound : (x : C) (s : State) → All (Searched x s) (onward k e f fuel listed x s)
    onward_sound x s = then_all (Settled e m agree listed s) (Searched x s) (settle e fuel listed s) (on_with k e f x) (settle_sound e m agree fuel listed s) (on_with_sound x s)

    -- after a try that failed, the search goes on, or it ends
    after_failed : (x y : C) (s t : State) (c v : ℕ) (o : Option (Ended C)) → Choice k m listed x s c v → TryFails k m listed x s c v y t
        → All (Searched y (back s c v t)) o → All (Explored x s) o
    after_failed x y s t c v None h p q = tt
    after_failed x y s t c v (Some d) h p q = by_search q
      where
        by_search : {b : Bool} {z : C} {w : State} → Searches k m listed y (back s c v t) b z w → Explores k m listed x s b z w
        by_search (fails q) = ends h p q
        by_search (settled q w) = goes_on h p q w

    after_try_sound : (x : C) (s t : State) (c v : ℕ) (d : Ended C) → Choice k m listed x s c v → Settles m listed (alone s c v) t → Explored (k.told x (Stood c)) t d
        → All (Explored x s) (after_try k e f fuel listed s c v d)
    after_try_sound x s t c v d h p q =
        by_found d.found d.chooser d.state q
      where
        by_found : (b : Bool) (y : C) (u : State) → Explores k m listed (k.told x (Stood c)) t b y u
            → All (Explored x s) (cond b (Some (record { found = b; chooser = y; state = u })) (onward k e f fuel listed (k.told y (Failed c)) (back s c v u)))
        by_found true y u q = stands h p q
        by_found false y u q =
            after_failed x (k.told y (Failed c)) s u c v (onward k e f fuel listed (k.told y (Failed c)) (back s c v u)) h (at_last p q)
            (onward_sound (k.told y (Failed c)) (back s c v u))

    tried_sound : (x : C) (s : State) (c v : ℕ) (o : Out) → Choice k m listed x s c v → Settled e m agree listed (alone s c v) o → All (Explored x s) (tried k e f fuel listed x s c v o)
    tried_sound x s c v (held t) h p =
        then_all (Explored (k.told x (Stood c)) t) (Explored x s) (f (k.told x (Stood c)) t) (after_try k e f fuel listed s c v) (sound (k.told x (Stood c)) t)
        (λ d q. after_try_sound x s t c v d h p q)
    tried_sound x s c v (fell r t) h p =
        after_failed x (k.told x (Failed c)) s t c v (onward k e f fuel listed (k.told x (Failed c)) (back s c v t)) h (at_first p)
        (onward_sound (k.told x (Failed c)) (back s c v t))

    try_at_sound : (x : C) (s : State) (c v : ℕ) → Choice k m listed x s c v → All (Explored x s) (try_at k e f fuel listed x s c v)
    try_at_sound x s c v h =
        then_all (Settled e m agree listed (alone s c v)) (Explored x s) (settle e fuel listed (alone s c v)) (tried k e f fuel listed x s c v)
        (settle_sound e m agree fuel listed (alone s c v)) (λ o p. tried_sound x s c v o h p)

    choose_sound : (x : C) (s : State) (c : ℕ) → k.names x (figures_of m listed s.sets s.weights) ≡ c → All (Explored x s) (choose k e f fuel listed x s c)
    choose_sound x s c named =
        let more = then (lowest 64 (left_at s.sets c) 0) (try_at k e f fuel listed x s c) in
        cond_both (c == 255) (Some (came k e true x s)) more (All (Explored x s))
        (λ y. filled (named ∙ eqb-true c 255 y))
        (λ n.
        then_all (λ v. (j : ℕ) × (v ≡ 0 + j) × Lowest (left_at s.sets c) j) (Explored x s) (lowest 64 (left_at s.sets c) 0) (try_at k e f fuel listed x s c)
        (lowest_sound 64 (left_at s.sets c) 0)
        (λ v p.
        let q : p.0 ≡ v = omega (arith, p.1) in
        try_at_sound x s c v (record { named = named; some = eqb-false c 255 n; place = subst (λ w. Lowest (left_at s.sets c) w) q p.2 })))

  pub explore_sound : (n fuel : ℕ) (x : C) (s : State) → All (Explored x s) (explore k e n fuel listed x s)
  explore_sound zero fuel x s = tt
  explore_sound (suc n) fuel x s =
      choose_sound (explore k e n fuel listed) (explore_sound n fuel) fuel x s (k.names x (figures_of e listed s.sets s.weights))
      (ap (k.names x) (sym (figures_same e m agree listed s.sets s.weights)))

  -- a run that lists what is listed
  abbrev pub RunsOnce : List ℕ → Lasting C → Once (Lasting C) (List ℕ) → Type 0
  RunsOnce start x o = Run k m start o.line.listed x.chooser x.weights o.line o.state.chooser o.state.weights o.left × (o.line.listed ≡ listed) × (listed < 2 ^ e.count)

  pub run_sound : (start : List ℕ) (fuel : ℕ) (x : Lasting C) → All (RunsOnce start x) (run k e start fuel listed x)
  run_sound start fuel x =
      then_all (Searched (k.told x.chooser Start) (state start 0 x.weights)) (RunsOnce start x)
      (onward k e (explore k e fuel fuel listed) fuel listed (k.told x.chooser Start) (state start 0 x.weights)) (run_end k e listed)
      (onward_sound (explore k e fuel fuel listed) (explore_sound fuel fuel) fuel (k.told x.chooser Start) (state start 0 x.weights))
      (λ d p.
      cond_both (nat_lt listed (2 ^ e.count)) (Some (record { line = line listed d.found d.state.used; left = d.state.sets; state = lasting d.chooser d.state.weights })) None (All (RunsOnce start x))
      (λ y. (ran p, refl, ltb-true listed (2 ^ e.count) y))
      (λ n. tt))
