-- The laws of settling, over its relation. Assumes nothing.
use Rattle.std.proofs.Common.{◌≡◌, ℕ, ◌-◌, ◌^◌, ◌<◌, ◌≤◌, ◌⊎◌, List, length, get_or, sym, refl, ap, ◌∙◌, subst, subst₂, inl, inr, arith, length-set}
use Rattle.std.specs.Prelude.{sum}
use lib.ListN.{length-map}
use Rattle.std.proofs.lemmas.List.{get_or-map}
use Rattle.std.proofs.lemmas.Bool.{cases_eq, cases_lt}
use Rattle.bits.specs.Sets.{In}
use Rattle.bits.proofs.Bits.{mark_same, mark_more, mark_only}
use Rattle.network.specs.Book.{Rule, BookMeaning, Lawful, Supported, Remains}
use Rattle.network.specs.Fillings.{row_of, Meets, MeetsAll, Inside}
use Rattle.runs.specs.Settle.{Turns, Turns.none, Turns.more, Stops, State, state, left_at, cell_at, out_of, marked, Lost, Revises, Revises.absent, Revises.kept, Revises.removed, Empties, Empties.emptied, Position, PositionFails, Takes, TakesFails, Turn, Turn.unlisted, Turn.taken, Sweep, Settles, Settles.rest, Settles.again, Fails, Fails.at_once, Fails.later}
use Rattle.runs.specs.Law.{Suits, Full, Within, Closed, Marks, Settled, Clash}
use Rattle.runs.proofs.Turning.{turns_keep}
use Rattle.runs.proofs.Steps.{out_total, out_within, out_keeps, set_full}

-- a support stays one in larger sets
support_more : (rule : Rule) (a b : List ℕ) (i v : ℕ) → Within a b → Supported rule i v a → Supported rule i v b
support_more rule a b i v w s = record {
  row = s.row;
  wide = s.wide;
  within = s.within;
  permitted = s.permitted;
  here = s.here;
  remain = λ k l. w (get_or rule.cells k 255) (get_or s.row k 64) (s.remain k l);
}

-- the row that a filling gives, place by place
pub row_at : (rule : Rule) (f : List ℕ) (i d : ℕ) → i < length rule.cells → get_or (row_of rule f) i d ≡ get_or f (get_or rule.cells i 255) 0
row_at rule f i d h = get_or-map (λ c. get_or f c 0) rule.cells i 255 d h

-- a filling that meets a rule supports its own places
support_of : (rule : Rule) (sets f : List ℕ) (i : ℕ) → ((k : ℕ) → k < length rule.cells → get_or rule.cells k 255 < length sets) → i < length rule.cells
    → Inside f sets → Meets rule f → Supported rule i (get_or f (get_or rule.cells i 255) 0) sets
support_of rule sets f i fits hi ins met = record {
  row = row_of rule f;
  wide = length-map rule.cells (λ c. get_or f c 0);
  within = hi;
  permitted = met;
  here = row_at rule f i 64 hi;
  remain = λ k l. subst (λ (x : ℕ). Remains sets (get_or rule.cells k 255) x) (sym (row_at rule f k 64 l)) (ins.each (get_or rule.cells k 255) (fits k l));
}

pub marks_refl : (listed used : ℕ) → Marks listed used used
marks_refl listed used = record { more = λ r h. h; among = λ r h. inl h }

pub marks_trans : {listed a b c : ℕ} → Marks listed a b → Marks listed b c → Marks listed a c
marks_trans p q = record {
  more = λ r h. q.more r (p.more r h);
  among = λ r h. elim (q.among r h) [ inl k ↦ p.among r k | inr k ↦ inr k ];
}

-- ---- what every step, and so every row of steps, keeps
module _ (m : BookMeaning) (listed n : ℕ) (suits : Suits m n) where
  pub record Sound (s t : State) : Type 0 where
    pub long : length s.sets ≡ n → length t.sets ≡ n
    pub inside : length s.sets ≡ n → Within t.sets s.sets
    pub marks : Marks listed s.used t.used
    pub largest : length s.sets ≡ n → (other : List ℕ) → Within other s.sets → Closed m listed other → Within other t.sets
    pub kept : length s.sets ≡ n → (f : List ℕ) → Inside f s.sets → MeetsAll m t.used f → Inside f t.sets
    pub falls : length s.sets ≡ n → (s ≡ t) ⊎ (sum t.sets < sum s.sets)

  sound_refl : (s : State) → Sound s s
  sound_refl s = record {
    long = λ h. h;
    inside = λ h c v k. k;
    marks = marks_refl listed s.used;
    largest = λ h other w cl. w;
    kept = λ h f ins met. ins;
    falls = λ h. inl refl;
  }

  falls_trans : {s t u : State} → (s ≡ t) ⊎ (sum t.sets < sum s.sets) → (t ≡ u) ⊎ (sum u.sets < sum t.sets) → (s ≡ u) ⊎ (sum u.sets < sum s.sets)
  falls_trans (inl p) (inl q) = inl (p ∙ q)
  falls_trans {s} {t} {u} (inl p) (inr q) = inr (omega (arith, ap (λ (x : State). sum x.sets) p))
  falls_trans {s} {t} {u} (inr p) (inl q) = inr (omega (arith, ap (λ (x : State). sum x.sets) q))
  falls_trans (inr p) (inr q) = inr (omega arith)

  sound_trans : {s t u : State} → Sound s t → Sound t u → Sound s u
  sound_trans a b = record {
    long = λ h. b.long (a.long h);
    inside = λ h c v k. a.inside h c v (b.inside (a.long h) c v k);
    marks = marks_trans a.marks b.marks;
    largest = λ h other w cl. b.largest (a.long h) other (a.largest h other w cl) cl;
    kept = λ h f ins met. b.kept (a.long h) f (a.kept h f ins (λ r k. met r (b.marks.more r k))) met;
    falls = λ h. falls_trans (a.falls h) (b.falls (a.long h));
  }

  -- a removal by a listed rule, whatever becomes of the weights
  sound_lost : {r i v : ℕ} (s : State) (weights : List ℕ) → In listed r → i < length (m.rule r).cells → Lost m r i v s.sets
      → Sound s (state (out_of s.sets (cell_at m r i) v) (marked s.used r) weights)
  sound_lost {r} {i} {v} s weights on hi lost =
      let c : ℕ = cell_at m r i in
      let e : length (out_of s.sets c v) ≡ length s.sets = length-set s.sets c (left_at s.sets c - 2 ^ v) in
      let within : length s.sets ≡ n → c < length s.sets = λ h. rw h (suits.cells r i hi) in
      let there : In (left_at s.sets c) v = lost.there.1 in
      record {
        long = λ h. e ∙ h;
        inside = λ h. out_within s.sets c v (within h) there;
        marks = record {
          more = λ q h. mark_more s.used r q h;
          among = λ q h. elim (mark_only s.used r q h) [ inl k ↦ inl k | inr k ↦ inr (subst (λ (x : ℕ). In listed x) (sym k) on) ];
        };
        largest = λ h other w cl d x o. out_keeps s.sets c v (within h) there d x (w d x o)
            (λ q q'. lost.unsupported (support_more (m.rule r) other s.sets i v w (cl r i v on hi (subst₂ (λ (a b : ℕ). Remains other a b) q q' o))));
        kept = λ h f ins met. record {
          long = ins.long ∙ sym e;
          each = λ d l. out_keeps s.sets c v (within h) there d (get_or f d 0) (ins.each d (omega arith))
              (λ q q'. lost.unsupported (subst (λ (x : ℕ). Supported (m.rule r) i x s.sets) (ap (λ (z : ℕ). get_or f z 0) (sym q) ∙ q')
              (support_of (m.rule r) s.sets f i (λ k lk. rw h (suits.cells r k lk)) hi ins (met r (mark_same s.used r)))));
        };
        falls = λ h. inr (out_total s.sets c v (within h) there);
      }

  sound_place : {r i v : ℕ} {s t : State} → In listed r → i < length (m.rule r).cells → Revises m r i v s t → Sound s t
  sound_place on hi (absent {s = s} k) = sound_refl s
  sound_place on hi (kept {s = s} p) = sound_refl s
  sound_place on hi (removed {s = s} lost e) = sound_lost s s.weights on hi lost

  -- a row of sound steps
  sound_turns : {R : ℕ → State → State → Type 0} {k : ℕ} {s t : State} → ((j : ℕ) (a b : State) → j < k → R j a b → Sound a b) → Turns R k s t → Sound s t
  sound_turns f (none {s = s}) = sound_refl s
  sound_turns f (more {n = k} {t = t} {u = u} a b) = sound_trans (sound_turns (λ j x y h. f j x y (omega arith)) a) (f k t u (omega arith) b)

  -- ..that comes to nothing: each step came to nothing
  no_fall : {s t : State} → (s ≡ t) ⊎ (sum t.sets < sum s.sets) → sum t.sets ≡ sum s.sets → s ≡ t
  no_fall (inl p) e = p
  no_fall (inr l) e = absurd (omega arith)

  falls_le : {s t : State} → (s ≡ t) ⊎ (sum t.sets < sum s.sets) → sum t.sets ≤ sum s.sets
  falls_le {s} {t} (inl p) = omega (arith, ap (λ (x : State). sum x.sets) p)
  falls_le (inr l) = omega arith

  still_turns : {R : ℕ → State → State → Type 0} {k : ℕ} {s t : State} → length s.sets ≡ n → ((j : ℕ) (a b : State) → j < k → R j a b → Sound a b)
      → Turns R k s t → sum t.sets ≡ sum s.sets → (j : ℕ) → j < k → R j s s
  still_turns long f none e j h = absurd (omega arith)
  still_turns {R} long f (more {n = k} {s = s} {t = t} {u = u} a b) e j h =
      let sa : Sound s t = sound_turns (λ j x y h. f j x y (omega arith)) a in
      let sb : Sound t u = f k t u (omega arith) b in
      let la = falls_le (sa.falls long) in
      let lb = falls_le (sb.falls (sa.long long)) in
      let ea : sum t.sets ≡ sum s.sets = omega arith in
      let eb : sum u.sets ≡ sum t.sets = omega arith in
      let pa : s ≡ t = no_fall (sa.falls long) ea in
      let pb : t ≡ u = no_fall (sb.falls (sa.long long)) eb in
      elim (cases_eq j k) [
        | inl q ↦ rw q (subst₂ (λ (x y : State). R k x y) (sym pa) (sym pb ∙ sym pa) b)
        | inr ne ↦ still_turns long (λ j x y h. f j x y (omega arith)) a ea j (omega arith)
      ]

  -- ---- the levels: a position, a rule, a sweep
  sound_position : {r i : ℕ} {s t : State} → In listed r → i < length (m.rule r).cells → Position m r i s t → Sound s t
  sound_position on hi = sound_turns (λ v a b h p. sound_place on hi p)

  sound_rule : {r : ℕ} {s t : State} → In listed r → Takes m r s t → Sound s t
  sound_rule on = sound_turns (λ i a b h p. sound_position on h p)

  sound_turn : {r : ℕ} {s t : State} → Turn m listed r s t → Sound s t
  sound_turn {s = s} (unlisted off) = sound_refl s
  sound_turn (taken on p) = sound_rule on p

  sound_rules : {k : ℕ} {s t : State} → Turns (Turn m listed) k s t → Sound s t
  sound_rules = sound_turns (λ r a b h p. sound_turn p)

  -- a sweep that removes nothing leaves every place with support
  taken_of : {r : ℕ} {s t : State} → In listed r → Turn m listed r s t → Takes m r s t
  taken_of on (unlisted off) = absurd (off on)
  taken_of on (taken on' p) = p

  supported_of : {r i v : ℕ} {s t : State} → cell_at m r i < length s.sets → sum t.sets ≡ sum s.sets → Remains s.sets (cell_at m r i) v
      → Revises m r i v s t → Supported (m.rule r) i v s.sets
  supported_of l e h (absent k) = absurd (k h)
  supported_of l e h (kept p) = p
  supported_of {r} {i} {v} l e h (removed {s = s} lost k) = absurd (let q = out_total s.sets (cell_at m r i) v l lost.there.1 in omega arith)

  listed_known : Lawful m → (r i : ℕ) → i < length (m.rule r).cells → r < m.count
  listed_known law r i h = elim (cases_lt r m.count) [ inl l ↦ l | inr l ↦ absurd (omega (arith, ap length (law.missing r l))) ]

  still_closed : {s t : State} → Lawful m → length s.sets ≡ n → Sweep m listed s t → sum t.sets ≡ sum s.sets → Closed m listed s.sets
  still_closed {s} law long p e r i v on hi h =
      let at-rule = still_turns long (λ r a b h p. sound_turn p) p e r (listed_known law r i hi) in
      let at_position = still_turns long (λ i a b h p. sound_position on h p) (taken_of on at-rule) refl i hi in
      let at_place = still_turns long (λ v a b h p. sound_place on hi p) at_position refl v h.0 in
      supported_of (rw long (suits.cells r i hi)) refl h at_place

  -- ---- settling
  pub sound_settles : {s t : State} → Settles m listed s t → Sound s t
  sound_settles (rest p e) = sound_rules p
  sound_settles (again p d q) = sound_trans (sound_rules p) (sound_settles q)

  settles_closed : {s t : State} → Lawful m → length s.sets ≡ n → Settles m listed s t → Closed m listed t.sets
  settles_closed law long (rest p e) = rw e (still_closed law long p (ap sum e))
  settles_closed law long (again p d q) = settles_closed law ((sound_rules p).long long) q

  -- ---- no cell is emptied
  revises_full : {r i v : ℕ} {s t : State} → Revises m r i v s t → Full s.sets → Full t.sets
  revises_full (absent k) full = full
  revises_full (kept p) full = full
  revises_full {r} {i} {v} (removed {s = s} lost e) full = set_full s.sets (cell_at m r i) (left_at s.sets (cell_at m r i) - 2 ^ v) e full

  turn_full : {r : ℕ} {s t : State} → Turn m listed r s t → Full s.sets → Full t.sets
  turn_full (unlisted off) full = full
  turn_full (taken on p) full =
      turns_keep (λ (x : State). Full x.sets) (λ i a b h q f. turns_keep (λ (x : State). Full x.sets) (λ v x y h p k. revises_full p k) q f) p full

  sweep_full : {s t : State} → Sweep m listed s t → Full s.sets → Full t.sets
  sweep_full p full = turns_keep (λ (x : State). Full x.sets) (λ r a b h q f. turn_full q f) p full

  settles_full : {s t : State} → Settles m listed s t → Full s.sets → Full t.sets
  settles_full (rest p e) full = sweep_full p full
  settles_full (again p d q) full = settles_full q (sweep_full p full)

  pub settles_law : {s t : State} → Lawful m → length s.sets ≡ n → Full s.sets → Settles m listed s t → Settled m listed s t
  settles_law law long full p =
      let a = sound_settles p in
      record {
        long = a.long long ∙ sym long;
        full = settles_full p full;
        inside = a.inside long;
        closed = settles_closed law long p;
        largest = a.largest long;
        kept = a.kept long;
        marks = a.marks;
      }

  -- ---- failing: a cell is left empty, so that no filling is inside
  pub record Spent (s t : State) : Type 0 where
    pub sound : Sound s t
    pub less : length s.sets ≡ n → sum t.sets < sum s.sets
    pub none : length s.sets ≡ n → (f : List ℕ) → Inside f t.sets → ⊥

  spent_after : {s t u : State} → Sound s t → Spent t u → Spent s u
  spent_after a b = record {
    sound = sound_trans a b.sound;
    less = λ h. omega (arith, falls_le (a.falls h), b.less (a.long h));
    none = λ h. b.none (a.long h);
  }

  empties_spent : {r i v : ℕ} {s t : State} → In listed r → i < length (m.rule r).cells → Empties m r i v s t → Spent s t
  empties_spent {r} {i} {v} on hi (emptied {s = s} lost e) =
      let c : ℕ = cell_at m r i in
      let k : length (out_of s.sets c v) ≡ length s.sets = length-set s.sets c (left_at s.sets c - 2 ^ v) in
      let within : length s.sets ≡ n → c < length s.sets = λ h. rw h (suits.cells r i hi) in
      record {
        sound = sound_lost s _ on hi lost;
        less = λ h. out_total s.sets c v (within h) lost.there.1;
        none = λ h f ins. e (get_or f c 0) (ins.each c (omega (arith, within h)));
      }

  spent_stops : {R F : ℕ → State → State → Type 0} {k j : ℕ} {s t : State} → ((j : ℕ) (a b : State) → j < k → R j a b → Sound a b)
      → ((j : ℕ) (a b : State) → j < k → F j a b → Spent a b) → Stops R F k j s t → Spent s t
  spent_stops {k = k} {j = j} {t = t} f g p =
      let l = p.within in
      spent_after (sound_turns (λ i x y h. f i x y (omega arith)) p.first) (g j p.before t p.within p.last)

  position_spent : {r i : ℕ} {s t : State} → In listed r → i < length (m.rule r).cells → PositionFails m r i s t → Spent s t
  position_spent on hi p = spent_stops (λ v a b h q. sound_place on hi q) (λ v a b h q. empties_spent on hi q) p.1

  rule_spent : {r : ℕ} {s t : State} → In listed r → TakesFails m r s t → Spent s t
  rule_spent on p = spent_stops (λ i a b h q. sound_position on h q) (λ i a b h q. position_spent on h q) p.1

  pub fails_spent : {r : ℕ} {s t : State} → Fails m listed r s t → Spent s t
  fails_spent (at_once p) = spent_stops (λ r a b h q. sound_turn q) (λ r a b h q. rule_spent q.0 q.1) p
  fails_spent (later p d q) = spent_after (sound_rules p) (fails_spent q)

  pub fails_law : {r : ℕ} {s t : State} → length s.sets ≡ n → Fails m listed r s t → Clash m listed s t
  fails_law long p =
      let a = fails_spent p in
      record { clash = λ q. a.none long q.filling (a.sound.kept long q.filling q.inside q.meets); marks = a.sound.marks }

  -- ---- what the code wants of it
  pub settles_le : {s t : State} → length s.sets ≡ n → Settles m listed s t → sum t.sets ≤ sum s.sets
  settles_le long p = falls_le ((sound_settles p).falls long)

  pub fails_le : {r : ℕ} {s t : State} → length s.sets ≡ n → Fails m listed r s t → sum t.sets ≤ sum s.sets
  fails_le long p = omega (arith, (fails_spent p).less long)
