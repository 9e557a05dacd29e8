-- The laws of a run, over its relation. Assumes nothing.
use Rattle.std.proofs.Common.{◌≡◌, ℕ, zero, suc, ◌-◌, ◌^◌, ◌<◌, ◌≤◌, Bool, true, false, List, [], ◌∷◌, length, get_or, set, sym, refl, ap, ◌∙◌, subst, inl, inr, arith, length-set}
use lib.ListN.{length-map}
use Rattle.std.proofs.lemmas.List.{ext_get_or, get_or-map}
use Rattle.std.proofs.lemmas.Bool.{cases_eq, cases_lt}
use Rattle.bits.specs.Sets.{In, Subset, size}
use Rattle.bits.proofs.Bits.{has_zero}
use Rattle.bits.proofs.Size.{some_of}
use Rattle.network.specs.Book.{BookMeaning, Lawful, Supported, Remains}
use Rattle.network.specs.Fillings.{row_of, MeetsAll, Inside, Meetable}
use Rattle.choosers.specs.Choice.{Machine, Naming}
use Rattle.runs.specs.declared.line.Line.{Line}
use Rattle.runs.specs.declared.line.Verdict.TheVariants.{Met}
use Rattle.runs.specs.Settle.{State, left_at, cell_at, out_of, Settles, Fails}
use Rattle.runs.specs.Run.{TryFails, TryFails.at_first, TryFails.at_last, Explores, Explores.filled, Explores.stands, Explores.goes_on, Explores.ends, Searches, Searches.fails, Searches.settled, Run, Run.ran}
use Rattle.runs.specs.Law.{Suits, Full, Within, Closed, Marks, Settled, Ready, Fills, Right}
use Rattle.runs.proofs.Steps.{out_within, out_inside, alone_within, alone_inside, alone_full}
use Rattle.runs.proofs.Settling.{row_at, marks_trans, marks_refl, sound_settles, fails_spent, settles_law}
use Rattle.runs.proofs.Chosen.{chosen, none_open, open_full, one_place}

module _ (m : BookMeaning) (listed n : ℕ) (suits : Suits m n) {C : Type 0} (k : Machine C) (naming : Naming k) where
  -- ---- rules are only marked, and only listed ones
  settles_marks : {s t : State} → Settles m listed s t → Marks listed s.used t.used
  settles_marks p = (sound_settles m listed n suits p).marks

  fails_marks : {r : ℕ} {s t : State} → Fails m listed r s t → Marks listed s.used t.used
  fails_marks p = (fails_spent m listed n suits p).sound.marks

  mutual
    explores_marks : {x y : C} {s u : State} {found : Bool} → Explores k m listed x s found y u → Marks listed s.used u.used
    explores_marks (filled {s = s} e) = marks_refl listed s.used
    explores_marks (stands h p q) = marks_trans (settles_marks p) (explores_marks q)
    explores_marks (goes_on h f p q) = marks_trans (tries_marks f) (marks_trans (settles_marks p) (explores_marks q))
    explores_marks (ends h f p) = marks_trans (tries_marks f) (fails_marks p)

    tries_marks : {x y : C} {s t : State} {c v : ℕ} → TryFails k m listed x s c v y t → Marks listed s.used t.used
    tries_marks (at_first p) = fails_marks p
    tries_marks (at_last p q) = marks_trans (settles_marks p) (explores_marks q)

  -- ---- lengths
  settles_long : {s t : State} → length s.sets ≡ n → Settles m listed s t → length t.sets ≡ n
  settles_long long p = (sound_settles m listed n suits p).long long

  out_long : (s : State) (c v : ℕ) → length s.sets ≡ n → length (out_of s.sets c v) ≡ n
  out_long s c v long = length-set s.sets c (left_at s.sets c - 2 ^ v) ∙ long

  alone_long : (s : State) (c v : ℕ) → length s.sets ≡ n → length (set s.sets c (2 ^ v)) ≡ n
  alone_long s c v long = length-set s.sets c (2 ^ v) ∙ long

  -- ---- no filling is lost by a failed try, and none is left where the last settling fails
  fails_none : {r : ℕ} {s t : State} → length s.sets ≡ n → Fails m listed r s t → (f : List ℕ) → Inside f s.sets → MeetsAll m t.used f → ⊥
  fails_none long p f ins met = let a = fails_spent m listed n suits p in a.none long f (a.sound.kept long f ins met)

  mutual
    explores_none : {x y : C} {s u : State} → length s.sets ≡ n → Explores k m listed x s false y u → (f : List ℕ) → Inside f s.sets → MeetsAll m u.used f → ⊥
    explores_none long (goes_on {s = s} {c = c} {v = v} h g p q) f ins met =
        let a = chosen k naming h in
        elim (cases_eq (get_or f c 0) v) [
          | inl e ↦ tries_none long a.within g f ins e (λ r j. met r ((explores_marks q).more r ((settles_marks p).more r j)))
          | inr ne ↦ explores_none (settles_long (out_long s c v long) p) q f
              ((sound_settles m listed n suits p).kept (out_long s c v long) f (out_inside s.sets c v a.within a.there.1 f ins ne) (λ r j. met r ((explores_marks q).more r j)))
              met
        ]
    explores_none long (ends {s = s} {c = c} {v = v} h g p) f ins met =
        let a = chosen k naming h in
        elim (cases_eq (get_or f c 0) v) [
          | inl e ↦ tries_none long a.within g f ins e (λ r j. met r ((fails_marks p).more r j))
          | inr ne ↦ fails_none (out_long s c v long) p f (out_inside s.sets c v a.within a.there.1 f ins ne) met
        ]

    tries_none : {x y : C} {s t : State} {c v : ℕ} → length s.sets ≡ n → c < length s.sets → TryFails k m listed x s c v y t
        → (f : List ℕ) → Inside f s.sets → get_or f c 0 ≡ v → MeetsAll m t.used f → ⊥
    tries_none long l (at_first {s = s} {c = c} {v = v} p) f ins e met = fails_none (alone_long s c v long) p f (alone_inside s.sets c v l f ins e) met
    tries_none long l (at_last {s = s} {c = c} {v = v} p q) f ins e met =
        explores_none (settles_long (alone_long s c v long) p) q f
        ((sound_settles m listed n suits p).kept (alone_long s c v long) f (alone_inside s.sets c v l f ins e) (λ r j. met r ((explores_marks q).more r j)))
        met

  -- ---- a filling is found: one place at each cell, and support for it
  pub record Found (s u : State) : Type 0 where
    pub long : length u.sets ≡ n
    pub full : Full u.sets
    pub inside : Within u.sets s.sets
    pub closed : Closed m listed u.sets
    pub single : (c : ℕ) → size (left_at u.sets c) ≤ 1

  found_from : {s t u : State} → Within t.sets s.sets → Found t u → Found s u
  found_from w a = record { long = a.long; full = a.full; inside = λ c v h. w c v (a.inside c v h); closed = a.closed; single = a.single }

  module _ (few : n ≤ 64) (law : Lawful m) where
    settle : {s t : State} → length s.sets ≡ n → Full s.sets → Settles m listed s t → Settled m listed s t
    settle long full p = settles_law m listed n suits law long full p

    explores_found : {x y : C} {s u : State} → length s.sets ≡ n → Full s.sets → Closed m listed s.sets → Explores k m listed x s true y u → Found s u
    explores_found long full closed (filled {x = x} {s = s} e) =
        record { long = long; full = full; inside = λ c v h. h; closed = closed; single = none_open m listed s.sets s.weights k naming x e (omega arith) }
    explores_found long full closed (stands {s = s} {t = t} {c = c} {v = v} h p q) =
        let a = chosen k naming h in
        let b = settle (alone_long s c v long) (alone_full s.sets c v a.within a.there.0 full) p in
        found_from (λ d w r. alone_within s.sets c v a.within a.there d w (b.inside d w r))
        (explores_found (settles_long (alone_long s c v long) p) b.full b.closed q)
    explores_found long full closed (goes_on {s = s} {c = c} {v = v} h g p q) =
        let a = chosen k naming h in
        let b = settle (out_long s c v long) (open_full s.sets c v a.within a.opened a.there.1 full) p in
        found_from (λ d w r. out_within s.sets c v a.within a.there.1 d w (b.inside d w r))
        (explores_found (settles_long (out_long s c v long) p) b.full b.closed q)

    searches_found : {x y : C} {s u : State} → length s.sets ≡ n → Full s.sets → Searches k m listed x s true y u → Found s u
    searches_found long full (settled p q) =
        let b = settle long full p in
        found_from b.inside (explores_found (settles_long long p) b.full b.closed q)

  searches_none : {x y : C} {s u : State} → length s.sets ≡ n → Searches k m listed x s false y u → (f : List ℕ) → Inside f s.sets → MeetsAll m u.used f → ⊥
  searches_none long (fails p) f ins met = fails_none long p f ins met
  searches_none long (settled p q) f ins met =
      explores_none (settles_long long p) q f ((sound_settles m listed n suits p).kept long f ins (λ r j. met r ((explores_marks q).more r j))) met

  searches_marks : {x y : C} {s u : State} {found : Bool} → Searches k m listed x s found y u → Marks listed s.used u.used
  searches_marks (fails p) = fails_marks p
  searches_marks (settled p q) = marks_trans (settles_marks p) (explores_marks q)

-- ---- the filling that is left
some_place : (sets : List ℕ) → Full sets → (c : ℕ) → c < length sets → (v : ℕ) × Remains sets c v
some_place sets full c l = let p = some_of (left_at sets c) (λ h. full c l (λ v r. h v r.0 r.1)) in (p.0, (p.1, p.2))

filling_of : (sets : List ℕ) → Full sets → (f : List ℕ) × Inside f sets
filling_of [] full = ([], record { long = refl; each = λ c l. absurd (omega arith) })
filling_of (a ∷ sets) full =
    let (f, ins) = filling_of sets (λ c l e. full (suc c) (omega arith) (λ v r. e v r)) in
    let (v, r) = some_place (a ∷ sets) full 0 (omega arith) in
    (v ∷ f, record { long = ap suc ins.long; each = go f ins v r })
  where
    go : (f : List ℕ) → Inside f sets → (v : ℕ) → Remains (a ∷ sets) 0 v → (c : ℕ) → c < length (a ∷ sets) → Remains (a ∷ sets) c (get_or (v ∷ f) c 0)
    go f ins v r zero l = r
    go f ins v r (suc c) l = ins.each c (omega arith)

-- where every place has support and no cell is open, a filling that is left meets the listed rules
closed_meets : (m : BookMeaning) (listed : ℕ) (sets : List ℕ) → Suits m (length sets) → Lawful m → ((r : ℕ) → In listed r → r < m.count) → Closed m listed sets
    → ((c : ℕ) → size (left_at sets c) ≤ 1) → (f : List ℕ) → Inside f sets → MeetsAll m listed f
closed_meets m listed sets suits law known closed single f ins r on =
    let some : 0 < length (m.rule r).cells = (law.sound r (known r on)).some in
    let p : Supported (m.rule r) 0 (get_or f (cell_at m r 0) 0) sets = closed r 0 (get_or f (cell_at m r 0) 0) on some (ins.each (cell_at m r 0) (suits.cells r 0 some)) in
    let long : length p.row ≡ length (row_of (m.rule r) f) = p.wide ∙ sym (length-map (m.rule r).cells (λ c. get_or f c 0)) in
    let same : p.row ≡ row_of (m.rule r) f = ext_get_or 64 p.row (row_of (m.rule r) f) long (λ j l.
    let lj : j < length (m.rule r).cells = rw p.wide at l in
    let a = p.remain j lj in
    let b = ins.each (cell_at m r j) (suits.cells r j lj) in
    one_place (left_at sets (cell_at m r j)) (get_or p.row j 64) (get_or f (cell_at m r j) 0) (single (cell_at m r j)) a.0 b.0 a.1 b.1
    ∙ sym (row_at (m.rule r) f j 64 lj)) in
    subst (λ (x : List ℕ). (m.rule r).permits x ≡ true) same p.permitted

-- ---- a whole run
module _ {C : Type 0} (k : Machine C) (naming : Naming k) (m : BookMeaning) (law : Lawful m) (start : List ℕ) (listed : ℕ) (ready : Ready m start listed) where
  fills_of : {s u : State} → s.sets ≡ start → Found m listed (length start) ready.suits k naming s u → Fills m start listed u.sets
  fills_of {s} {u} e a =
      let (f, ins) = filling_of u.sets a.full in
      record {
        filling = f;
        inside = record {
          long = ins.long ∙ a.long;
          each = λ c l. subst (λ (x : List ℕ). Remains x c (get_or f c 0)) e (a.inside c (get_or f c 0) (ins.each c (omega (arith, a.long))));
        };
        meets = closed_meets m listed u.sets (rw a.long ready.suits) law ready.known a.closed a.single f ins;
        left = record {
          there = ins;
          only = λ c v r. elim (cases_lt c (length u.sets)) [
            | inl l ↦ let b = ins.each c l in one_place (left_at u.sets c) v (get_or f c 0) (a.single c) r.0 b.0 r.1 b.1
            | inr l ↦ absurd (has_zero v (subst (λ (x : ℕ). In x v) (Rattle.std.proofs.lemmas.List.get_or_past u.sets c 0 l) r.1))
          ];
        };
      }

  fits_of : {sets : List ℕ} → Fills m start listed sets → Meetable m start listed
  fits_of a = record { filling = a.filling; inside = a.inside; meets = a.meets }

  pub run_right : {x y : C} {ws ws' sets : List ℕ} {l : Line} → Run k m start listed x ws l y ws' sets → Right (Meetable m start) l
  run_right (ran {found = true} p) =
      let a = fills_of refl (searches_found m listed (length start) ready.suits k naming ready.few law refl ready.full p) in
      record { fits = λ _. fits_of a; only = λ _. refl; unused = λ _. refl; among = λ e. absurd (cc); clash = λ e. absurd (cc) }
  run_right (ran {t = t} {found = false} p) =
      let marks = searches_marks m listed (length start) ready.suits k naming p in
      let among : Subset t.used listed = λ r h. elim (marks.among r h) [ inl z ↦ absurd (has_zero r z) | inr on ↦ on ] in
      let none = searches_none m listed (length start) ready.suits k naming refl p in
      record {
        fits = λ e. absurd (cc);
        only = λ q. absurd (none q.filling q.inside (λ r h. q.meets r (among r h)));
        unused = λ e. absurd (cc);
        among = λ _. among;
        clash = λ _ q. none q.filling q.inside q.meets;
      }

  pub run_fills : {x y : C} {ws ws' sets : List ℕ} {l : Line} → Run k m start listed x ws l y ws' sets → l.verdict ≡ Met → Fills m start listed sets
  run_fills (ran {found = true} p) e = fills_of refl (searches_found m listed (length start) ready.suits k naming ready.few law refl ready.full p)
  run_fills (ran {found = false} p) e = absurd (cc)
