-- What the evaluation gives, the relations give. Assumes nothing.
use Rattle.std.proofs.Common.{◌≡◌, ℕ, zero, suc, ◌+◌, ◌/◌, ◌%◌, ◌^◌, ◌<◌, ◌≤◌, ◌≢◌, Bool, true, false, cond, ◌&&◌, ◌||◌, List, [], ◌∷◌, length, get_or, map, sum, Some, None, Option, ◌==◌, sym, refl, ap, ◌∙◌, subst, ap₂, arith}
use Rattle.std.specs.List.{range_with_len}
use Rattle.std.proofs.lemmas.Bool.{cond_both, eqb-true, eqb-false, eq-eqb, true≢false, false≢true, and_parts, and_from}
use Rattle.bits.specs.Sets.{In, in?, Lowest, size}
use Rattle.bits.proofs.Bits.{has_zero}
use Rattle.bits.proofs.Low.{bit_half, bit_first}
use Rattle.network.specs.Book.{Rule, BookMeaning, Supported, Remains}
use Rattle.runs.specs.Settle.{State, state, Lost, left_at, cell_at, out_of, marked, weighed, Turns, none, more, Stops, Revises, absent, kept, removed, Empties, emptied, Position, PositionFails, Takes, TakesFails, Turn, unlisted, taken, TurnFails, Sweep, Settles, rest, again, Fails, at_once, later}
use Rattle.runs.specs.Figures.{share, joins?, degree_of, figures_of}
use Rattle.worked.proofs.Evaluation.{some_place, lowest, some_row, supported?, Out, held, fell, numbered, after_turn, turns, same_list, then, revise, take_rule, turn, sweep, sweeps_on, settle}

-- ---- an option's value, if any, is so
abbrev pub All : {A : Type 0} → (A → Type 0) → Option A → Type 0
All P None = Unit {0}
All P (Some a) = P a

pub then_all : {A B : Type 0} (P : A → Type 0) (Q : B → Type 0) (o : Option A) (f : A → Option B) → All P o → ((a : A) → P a → All Q (f a)) → All Q (then o f)
then_all P Q None f p g = tt
then_all P Q (Some a) f p g = g a p

pub all_map : {A : Type 0} (P Q : A → Type 0) (o : Option A) → ((a : A) → P a → Q a) → All P o → All Q o
all_map P Q None g p = tt
all_map P Q (Some a) g p = g a p

-- ---- places of a mask
module _ (p : ℕ → Bool) where
  abbrev Place : ℕ → ℕ → ℕ → Type 0
  Place n s v = (w : ℕ) × (w < n) × In s w × (p (v + w) ≡ true)

  abbrev NoPlace : ℕ → ℕ → ℕ → Type 0
  NoPlace n s v = (w : ℕ) → w < n → In s w → p (v + w) ≡ true → ⊥

  place_higher : (n s v : ℕ) → Place n (s / 2) (v + 1) → Place (suc n) s v
  place_higher n s v d =
      let q : v + 1 + d.0 ≡ v + suc d.0 = omega arith in
      (suc d.0, omega (arith, d.1), bit_half s d.0 ∙ d.2, subst (λ z. p z ≡ true) q d.3)

  place_here : (n s v : ℕ) → (s % 2 == 1) ≡ true → p v ≡ true → Place (suc n) s v
  place_here n s v eo eh =
      let q : v ≡ v + 0 = omega arith in
      (0, omega arith, bit_first s ∙ eqb-true (s % 2) 1 eo, subst (λ z. p z ≡ true) q eh)

  place_yes : (n s v : ℕ) (z o h r : Bool) → (s % 2 == 1) ≡ o → p v ≡ h → (r ≡ true → Place n (s / 2) (v + 1)) → cond z false (cond o (h || r) r) ≡ true → Place (suc n) s v
  place_yes n s v true o h r eo eh ih e = absurd (false≢true e)
  place_yes n s v false true true r eo eh ih e = place_here n s v eo eh
  place_yes n s v false true false r eo eh ih e = place_higher n s v (ih e)
  place_yes n s v false false h r eo eh ih e = place_higher n s v (ih e)

  pub place_true : (n s v : ℕ) → some_place n s v p ≡ true → Place n s v
  place_true zero s v e = absurd (false≢true e)
  place_true (suc n) s v e = place_yes n s v (s == 0) (s % 2 == 1) (p v) (some_place n (s / 2) (v + 1) p) refl refl (place_true n (s / 2) (v + 1)) e

  no_higher : (n s v : ℕ) → NoPlace n (s / 2) (v + 1) → (In s 0 → p v ≡ true → ⊥) → NoPlace (suc n) s v
  no_higher n s v d h zero l k q = let z : v + 0 ≡ v = omega arith in h k (subst (λ x. p x ≡ true) z q)
  no_higher n s v d h (suc w) l k q =
      let z : v + suc w ≡ v + 1 + w = omega arith in
      d w (omega arith) (sym (bit_half s w) ∙ k) (subst (λ x. p x ≡ true) z q)

  place_no : (n s v : ℕ) (z o h r : Bool) → (s == 0) ≡ z → (s % 2 == 1) ≡ o → p v ≡ h → (r ≡ false → NoPlace n (s / 2) (v + 1)) → cond z false (cond o (h || r) r) ≡ false → NoPlace (suc n) s v
  place_no n s v true o h r ez eo eh ih e = λ w l k q. has_zero w (subst (λ x. In x w) (eqb-true s 0 ez) k)
  place_no n s v false true true r ez eo eh ih e = absurd (true≢false e)
  place_no n s v false true false r ez eo eh ih e = no_higher n s v (ih e) (λ k q. false≢true (sym eh ∙ q))
  place_no n s v false false h r ez eo eh ih e = no_higher n s v (ih e) (λ k q. eqb-false (s % 2) 1 eo (sym (bit_first s) ∙ k))

  pub place_false : (n s v : ℕ) → some_place n s v p ≡ false → NoPlace n s v
  place_false zero s v e = λ w l h q. absurd (omega arith)
  place_false (suc n) s v e = place_no n s v (s == 0) (s % 2 == 1) (p v) (some_place n (s / 2) (v + 1) p) refl refl refl (place_false n (s / 2) (v + 1)) e

pub lowest_sound : (n s v : ℕ) → All (λ w. (j : ℕ) × (w ≡ v + j) × Lowest s j) (lowest n s v)
lowest_sound zero s v = tt
lowest_sound (suc n) s v =
    cond_both (s % 2 == 1) (Some v) (lowest n (s / 2) (v + 1)) (All (λ w. (j : ℕ) × (w ≡ v + j) × Lowest s j))
    (λ e. let q : v ≡ v + 0 = omega arith in (0, q, record { there = bit_first s ∙ eqb-true (s % 2) 1 e; none = λ w l h. omega arith }))
    (λ e. up e (lowest n (s / 2) (v + 1)) (lowest_sound n (s / 2) (v + 1)))
  where
    higher : (s % 2 == 1) ≡ false → (j : ℕ) → Lowest (s / 2) j → (w : ℕ) → w < suc j → In s w → ⊥
    higher e j l zero lt h = eqb-false (s % 2) 1 e (sym (bit_first s) ∙ h)
    higher e j l (suc w) lt h = l.none w (omega arith) (sym (bit_half s w) ∙ h)

    up : (s % 2 == 1) ≡ false → (o : Option ℕ) → All (λ w. (j : ℕ) × (w ≡ v + 1 + j) × Lowest (s / 2) j) o → All (λ w. (j : ℕ) × (w ≡ v + j) × Lowest s j) o
    up e None p = tt
    up e (Some w) p = (suc p.0, omega (arith, p.1), record { there = bit_half s p.0 ∙ p.2.there; none = higher e p.0 p.2 })

-- ---- rows of remaining places
record Row (sets : List ℕ) (cs row : List ℕ) : Type 0 where
  wide : length row ≡ length cs
  remain : (k : ℕ) → k < length cs → Remains sets (get_or cs k 255) (get_or row k 64)

row_more : {sets cs row : List ℕ} {c v : ℕ} → Remains sets c v → Row sets cs row → Row sets (c ∷ cs) (v ∷ row)
row_more {sets} {cs} {row} {c} {v} h r = record { wide = ap suc r.wide; remain = go }
  where
    go : (k : ℕ) → k < suc (length cs) → Remains sets (get_or (c ∷ cs) k 255) (get_or (v ∷ row) k 64)
    go zero l = h
    go (suc k) l = r.remain k (omega arith)

row_less : {sets cs row : List ℕ} {c v : ℕ} → Row sets (c ∷ cs) (v ∷ row) → Row sets cs row
row_less {cs = cs} {row = row} r = record { wide = omega (arith, r.wide); remain = λ k l. r.remain (suc k) (omega arith) }

module _ (sets : List ℕ) where
  row_true : (p : List ℕ → Bool) (cs : List ℕ) → some_row sets p cs ≡ true → (row : List ℕ) × Row sets cs row × (p row ≡ true)
  row_true p [] e = ([], record { wide = refl; remain = λ k l. absurd (omega arith) }, e)
  row_true p (c ∷ cs) e =
      let d = place_true (λ v. some_row sets (λ row. p (v ∷ row)) cs) 64 (left_at sets c) 0 e in
      let q : 0 + d.0 ≡ d.0 = omega arith in
      let r = row_true (λ row. p (d.0 ∷ row)) cs (subst (λ v. some_row sets (λ row. p (v ∷ row)) cs ≡ true) q d.3) in
      (d.0 ∷ r.0, row_more (d.1, d.2) r.1, r.2)

  yes_from : (b : Bool) → (b ≡ false → ⊥) → b ≡ true
  yes_from true n = refl
  yes_from false n = absurd (n refl)

  row_false : (p : List ℕ → Bool) (cs : List ℕ) → some_row sets p cs ≡ false → (row : List ℕ) → Row sets cs row → p row ≡ true → ⊥
  row_false p [] e [] r h = true≢false (sym h ∙ e)
  row_false p [] e (v ∷ row) r h = absurd (let z = r.wide in omega arith)
  row_false p (c ∷ cs) e [] r h = absurd (let z = r.wide in omega arith)
  row_false p (c ∷ cs) e (v ∷ row) r h =
      let q : v ≡ 0 + v = omega arith in
      let m = r.remain 0 (omega arith) in
      place_false (λ v. some_row sets (λ row. p (v ∷ row)) cs) 64 (left_at sets c) 0 e v m.0 m.1
      (subst (λ v. some_row sets (λ row. p (v ∷ row)) cs ≡ true) q (yes_from (some_row sets (λ row. p (v ∷ row)) cs) (λ f. row_false (λ row. p (v ∷ row)) cs f row (row_less r) h)))

-- ---- support, of a rule with the same cells that permits the same rows
pub record Like (rule other : Rule) : Type 0 where
  pub cells : other.cells ≡ rule.cells
  pub permits : (row : List ℕ) → other.permits row ≡ rule.permits row

module _ (rule other : Rule) (like : Like rule other) (i v : ℕ) (sets : List ℕ) where
  abbrev test : List ℕ → Bool
  test row = cond (get_or row i 64 == v) (rule.permits row) false

  test_true : (row : List ℕ) → test row ≡ true → (get_or row i 64 ≡ v) × (rule.permits row ≡ true)
  test_true row e = go (get_or row i 64 == v) refl e
    where
      go : (b : Bool) → (get_or row i 64 == v) ≡ b → cond b (rule.permits row) false ≡ true → (get_or row i 64 ≡ v) × (rule.permits row ≡ true)
      go true q e = (eqb-true (get_or row i 64) v q, e)
      go false q e = absurd (false≢true e)

  pub supported_true : i < length rule.cells → supported? rule i v sets ≡ true → Supported other i v sets
  supported_true l e =
      let d = row_true sets test rule.cells e in
      let t = test_true d.0 d.2 in
      record {
        row = d.0;
        wide = d.1.wide ∙ sym (ap length like.cells);
        within = subst (λ (cs : List ℕ). i < length cs) (sym like.cells) l;
        permitted = like.permits d.0 ∙ t.1;
        here = t.0;
        remain = subst (λ (cs : List ℕ). (k : ℕ) → k < length cs → Remains sets (get_or cs k 255) (get_or d.0 k 64)) (sym like.cells) d.1.remain;
      }

  pub supported_false : supported? rule i v sets ≡ false → Supported other i v sets → ⊥
  supported_false e s =
      row_false sets test rule.cells e s.row
      (record { wide = s.wide ∙ ap length like.cells; remain = subst (λ (cs : List ℕ). (k : ℕ) → k < length cs → Remains sets (get_or cs k 255) (get_or s.row k 64)) like.cells s.remain })
      (subst (λ b. cond b (rule.permits s.row) false ≡ true) (sym (eq-eqb (get_or s.row i 64) v s.here)) (sym (like.permits s.row) ∙ s.permitted))

-- ---- turns
abbrev pub Step : (State → Type 0) → (State → Type 0) → Out → Type 0
Step R F (held t) = R t
Step R F (fell j t) = F t

abbrev pub Turned : (R F : ℕ → State → State → Type 0) → ℕ → State → Out → Type 0
Turned R F n s (held t) = Turns R n s t
Turned R F n s (fell j t) = Stops R F n j s t

module _ (R F : ℕ → State → State → Type 0) (f : ℕ → State → Out) where
  turned_last : (n : ℕ) (s t : State) (o : Out) → Turns R n s t → Step (R n t) (F n t) o → Turned R F (suc n) s (numbered n o)
  turned_last n s t (held u) p q = more p q
  turned_last n s t (fell j u) p q = record { before = t; within = omega arith; first = p; last = q }

  turned_more : (n : ℕ) (s : State) (o : Out) → ((s : State) → Step (R n s) (F n s) (f n s)) → Turned R F n s o → Turned R F (suc n) s (after_turn n (f n) o)
  turned_more n s (held t) g p = turned_last n s t (f n t) p (g t)
  turned_more n s (fell j t) g p = record { before = p.before; within = omega (arith, p.within); first = p.first; last = p.last }

  pub turns_sound : (n : ℕ) → ((j : ℕ) (s : State) → j < n → Step (R j s) (F j s) (f j s)) → (s : State) → Turned R F n s (turns f n s)
  turns_sound zero g s = none
  turns_sound (suc n) g s = turned_more n s (turns f n s) (λ t. g n t (omega arith)) (turns_sound n (λ j t l. g j t (omega arith)) s)

pub turned_step : (R F : ℕ → State → State → Type 0) (n : ℕ) (s : State) (o : Out) → Turned R F n s o → Step (λ t. Turns R n s t) (λ t. (j : ℕ) × Stops R F n j s t) o
turned_step R F n s (held t) p = p
turned_step R F n s (fell j t) p = (j, p)

-- ---- one book for another with the same rules
pub record Agree (e m : BookMeaning) : Type 0 where
  pub count : m.count ≡ e.count
  pub rules : (r : ℕ) → r < m.count → Like (e.rule r) (m.rule r)

pub same_true : (xs ys : List ℕ) → same_list xs ys ≡ true → xs ≡ ys
same_true [] [] e = refl
same_true [] (y ∷ ys) e = absurd (false≢true e)
same_true (x ∷ xs) [] e = absurd (false≢true e)
same_true (x ∷ xs) (y ∷ ys) e = let p = and_parts (x == y) (same_list xs ys) e in ap₂ ◌∷◌ (eqb-true x y p.0) (same_true xs ys p.1)

same_self : (xs : List ℕ) → same_list xs xs ≡ true
same_self [] = refl
same_self (x ∷ xs) = and_from (x == x) (same_list xs xs) (eq-eqb x x refl) (same_self xs)

pub same_false : (xs ys : List ℕ) → same_list xs ys ≡ false → xs ≢ ys
same_false xs ys e q = true≢false (sym (same_self xs) ∙ ap (same_list xs) q ∙ e)

module _ (e m : BookMeaning) (agree : Agree e m) where
  abbrev Revised : ℕ → ℕ → ℕ → State → Out → Type 0
  Revised r i v s = Step (Revises m r i v s) (Empties m r i v s)

  revised : (r i v : ℕ) (s : State) → r < m.count → i < length (e.rule r).cells → v < 64 → Revised r i v s (revise e r (cell_at m r i) i v s)
  revised r i v s lr li lv =
      let c = cell_at m r i in
      let sets = out_of s.sets c v in
      let gone = fell v (state sets (marked s.used r) (weighed r s.weights)) in
      let less = held (state sets (marked s.used r) s.weights) in
      let some = some_place 64 (left_at sets c) 0 (λ _. true) in
      let like = agree.rules r lr in
      cond_both (in? (left_at s.sets c) v) (cond (supported? (e.rule r) i v s.sets) (held s) (cond some less gone)) (held s) (Revised r i v s)
      (λ there.
      cond_both (supported? (e.rule r) i v s.sets) (held s) (cond some less gone) (Revised r i v s)
      (λ yes. kept (supported_true (e.rule r) (m.rule r) like i v s.sets li yes))
      (λ no.
      let lost : Lost m r i v s.sets = record { there = (lv, eqb-true (left_at s.sets c / 2 ^ v % 2) 1 there); unsupported = supported_false (e.rule r) (m.rule r) like i v s.sets no } in
      cond_both some less gone (Revised r i v s)
      (λ y. removed lost (λ empty. let d = place_true (λ _. true) 64 (left_at sets c) 0 y in empty d.0 (d.1, d.2)))
      (λ n. emptied lost (λ w h. place_false (λ _. true) 64 (left_at sets c) 0 n w h.0 h.1 refl))))
      (λ off. absent (λ h. eqb-false (left_at s.sets c / 2 ^ v % 2) 1 off h.1))

  taken_rule : (r : ℕ) (s : State) → r < m.count → Step (Takes m r s) (TakesFails m r s) (take_rule e r s)
  taken_rule r s lr =
      subst (λ (n : ℕ). Step (λ t. Turns (Position m r) n s t) (λ t. (i : ℕ) × Stops (Position m r) (PositionFails m r) n i s t) (take_rule e r s)) (ap length (sym (agree.rules r lr).cells))
      (turned_step (Position m r) (PositionFails m r) (length (e.rule r).cells) s (take_rule e r s)
      (turns_sound (Position m r) (PositionFails m r) (λ i. turns (revise e r (cell_at e r i) i) 64) (length (e.rule r).cells) places s))
    where
      places : (i : ℕ) (s : State) → i < length (e.rule r).cells → Step (Position m r i s) (PositionFails m r i s) (turns (revise e r (cell_at e r i) i) 64 s)
      places i s li =
          let c : cell_at m r i ≡ cell_at e r i = ap (λ (cs : List ℕ). get_or cs i 255) (agree.rules r lr).cells in
          subst (λ (x : ℕ). Step (Position m r i s) (PositionFails m r i s) (turns (revise e r x i) 64 s)) c
          (turned_step (Revises m r i) (Empties m r i) 64 s (turns (revise e r (cell_at m r i) i) 64 s)
          (turns_sound (Revises m r i) (Empties m r i) (revise e r (cell_at m r i) i) 64 (λ v t lv. revised r i v t lr li lv) s))

  taken_turn : (listed r : ℕ) (s : State) (o : Out) → In listed r → Step (Takes m r s) (TakesFails m r s) o → Step (Turn m listed r s) (TurnFails m listed r s) o
  taken_turn listed r s (held t) h p = taken h p
  taken_turn listed r s (fell j t) h p = (h, p)

  turn_sound : (listed r : ℕ) (s : State) → r < m.count → Step (Turn m listed r s) (TurnFails m listed r s) (turn e listed r s)
  turn_sound listed r s lr =
      cond_both (in? listed r) (take_rule e r s) (held s) (Step (Turn m listed r s) (TurnFails m listed r s))
      (λ y. taken_turn listed r s (take_rule e r s) (eqb-true (listed / 2 ^ r % 2) 1 y) (taken_rule r s lr))
      (λ n. unlisted (λ h. eqb-false (listed / 2 ^ r % 2) 1 n h))

  swept : (listed : ℕ) (s : State) → Turned (Turn m listed) (TurnFails m listed) m.count s (sweep e listed s)
  swept listed s =
      subst (λ (n : ℕ). Turned (Turn m listed) (TurnFails m listed) m.count s (turns (turn e listed) n s)) agree.count
      (turns_sound (Turn m listed) (TurnFails m listed) (turn e listed) m.count (λ r t l. turn_sound listed r t l) s)

  -- ---- settling
  abbrev pub Settled : ℕ → State → Out → Type 0
  Settled listed s (held t) = Settles m listed s t
  Settled listed s (fell r t) = Fails m listed r s t

  again_settled : (listed : ℕ) (s t : State) (o : Option Out) → Sweep m listed s t → t.sets ≢ s.sets → All (Settled listed t) o → All (Settled listed s) o
  again_settled listed s t None p ne q = tt
  again_settled listed s t (Some (held u)) p ne q = again p ne q
  again_settled listed s t (Some (fell r u)) p ne q = later p ne q

  swept_on : (listed : ℕ) (s : State) (f : State → Option Out) (o : Out) → ((t : State) → All (Settled listed t) (f t)) → Turned (Turn m listed) (TurnFails m listed) m.count s o → All (Settled listed s) (sweeps_on e f s o)
  swept_on listed s f (held t) g p =
      cond_both (same_list t.sets s.sets) (Some (held t)) (f t) (All (Settled listed s))
      (λ y. rest p (same_true t.sets s.sets y))
      (λ n. again_settled listed s t (f t) p (same_false t.sets s.sets n) (g t))
  swept_on listed s f (fell r t) g p = at_once p

  pub settle_sound : (n listed : ℕ) (s : State) → All (Settled listed s) (settle e n listed s)
  settle_sound zero listed s = tt
  settle_sound (suc n) listed s = swept_on listed s (settle e n listed) (sweep e listed s) (settle_sound n listed) (swept listed s)

  -- ---- figures
  maps_same : (f g : ℕ → ℕ) (a n : ℕ) → ((c : ℕ) → a ≤ c → c < a + n → f c ≡ g c) → map f (range_with_len a n) ≡ map g (range_with_len a n)
  maps_same f g a zero h = refl
  maps_same f g a (suc n) h = ap₂ ◌∷◌ (h a (omega arith) (omega arith)) (maps_same f g (a + 1) n (λ c p q. h c (omega arith) (omega arith)))

  degree_same : (listed : ℕ) (sets weights : List ℕ) (c : ℕ) → degree_of e listed sets weights c ≡ degree_of m listed sets weights c
  degree_same listed sets weights c =
      ap sum (ap (λ n. map (share e listed sets weights c) (range_with_len 0 n)) (sym agree.count)
      ∙ maps_same (share e listed sets weights c) (share m listed sets weights c) 0 m.count
      (λ r p q. ap (λ (cs : List ℕ). cond (in? listed r && joins? sets c cs) (get_or weights r 0) 0) (sym (agree.rules r (omega arith)).cells)))

  pub figures_same : (listed : ℕ) (sets weights : List ℕ) → figures_of e listed sets weights ≡ figures_of m listed sets weights
  figures_same listed sets weights = λ i. map (λ c. record { places = size (left_at sets c); degree = degree_same listed sets weights c i }) (range_with_len 0 (length sets))
