-- A call that a session makes is one call of the relation, and its table then holds what follows from the calls so far. Assumes nothing.
use Rattle.std.proofs.Common.{◌≡◌, ℕ, zero, suc, ◌+◌, ◌<◌, Bool, false, cond, eqb, ltb, ◌≢◌, List, ◌∷◌, map, length, get_or, set, Some, None, Ok, Err, vec_items, vec_len, filter, Option, Result, sym, refl, ap, ◌∙◌, subst, ap₂, subst₂, inl, inr, arith, length-set}
use Rattle.std.specs.List.{range_with_len}
use Rattle.std.proofs.lemmas.List.{get_or-set_same, get_or-set_other}
use Rattle.std.proofs.lemmas.Bool.{cases_eq, eq-eqb, ne_eqb, cond-true, cond-false, lt-ltb}
use Rattle.std.proofs.lemmas.List.FromFn.{fill_by_all, get_or-map-range_with_len, length-map-range_with_len}
use Rattle.bits.specs.Sets.{set_of}
use Rattle.network.specs.Book.{BookMeaning}
use Rattle.choosers.specs.Choice.{Machine}
use Rattle.runs.specs.declared.line.Line.{Line}
use Rattle.clash.specs.declared.fitted.Fitted.{Fitted as Values}
use Rattle.clash.specs.Running.{Lasting, lasting}
use Rattle.calls.specs.declared.call.Call.{Call}
use Rattle.calls.specs.declared.call.Call.TheVariants.{Pin, Free, Switch, Fit}
use Rattle.calls.specs.declared.refusal.Refusal.{Refusal}
use Rattle.calls.specs.declared.answer.Answer.{Answer}
use Rattle.calls.specs.declared.step.Step.{Step}
use Rattle.calls.specs.Answers.{Said, said, plain, returned, to_change, to_fit}
use Rattle.calls.specs.Sheet.{Sheet, Sizes, cells, Opens, Judged, Judged.shut, Judged.pins, Judged.pins_no_cell, Judged.pins_no_place, Judged.frees, Judged.frees_no_cell, Judged.switches, Judged.switches_no_rule, Judged.fits, Judged.fits_short}
use Rattle.calls.specs.History.{Did, accepted, pinned, switched, standing, is_on, Valid, on_after}
use Rattle.calls.specs.Plays.{sizes, did, Untouched, Makes, Makes.refused, Makes.changed, Makes.fitted}
use Rattle.calls.specs.Promise.{Keeps}
use Rattle.calls.specs.Runs.{start_of, start_after, FitRuns, StepDone}
use Rattle.calls.proofs.Following.{sizes_same}
use Rattle.calls.proofs.Fillings.{few_cells, few_rules}
use Rattle.calls.proofs.Promising.{done_opens, stands_same, stands_changed, valid_next}
use Rattle.session.specs.Pins.{held}
use Rattle.session.specs.declared.table.Table.{Table}
use Rattle.session.specs.declared.session.Session.{Session}
use Rattle.session.specs.Calls.{sheet_of, lasting_of, with_lasting, changed as table_changed, Changed, table_start, table_on, sizes_of, FitCalled}
use Rattle.play.specs.Held.{Holds}

-- ---- rules that are on, by the number of an answer
on_same : (h : List Did) (d : Did) (n : ℕ) → (said d.answer).number ≡ n → n ≢ 0 → (r : ℕ) → is_on (d ∷ h) r ≡ is_on h r
on_same h d n e ne r = cond-false (accepted d) (switched d.call r (is_on h r)) (is_on h r) (ne_eqb (said d.answer).number 0 (λ z. ne (sym e ∙ z)))

on_changed : (h : List Did) (d : Did) → (said d.answer).number ≡ 0 → (r : ℕ) → is_on (d ∷ h) r ≡ switched d.call r (is_on h r)
on_changed h d e r = cond-true (accepted d) (switched d.call r (is_on h r)) (is_on h r) (eq-eqb (said d.answer).number 0 e)

-- ---- what the table holds
-- after a refused call, the same
holds_same : {lengths : List ℕ} {h : List Did} {t : Table} (d : Did) (n : ℕ) → (said d.answer).number ≡ n → n ≢ 0 → Holds lengths h t → Valid lengths (standing (d ∷ h)) → Holds lengths (d ∷ h) t
holds_same {h = h} d n e ne a v = record {
  long = a.long;
  wide = a.wide;
  pins = λ c lt. a.pins c lt ∙ sym (stands_same h d n e ne c);
  switches = λ r lt. a.switches r lt ∙ sym (on_same h d n e ne r);
  valid = v;
}

-- by what a call changes
holds_by : {lengths : List ℕ} {h : List Did} {t u : Table} (d : Did) → (said d.answer).number ≡ 0 → Holds lengths h t → Valid lengths (standing (d ∷ h))
    → length u.pins ≡ length t.pins → length u.switches ≡ length t.switches
    → ((c : ℕ) → c < 64 → get_or u.pins c None ≡ pinned d.call c (get_or t.pins c None))
    → ((r : ℕ) → r < 64 → get_or u.switches r false ≡ switched d.call r (get_or t.switches r false))
    → Holds lengths (d ∷ h) u
holds_by {h = h} d e a v l w p q = record {
  long = l ∙ a.long;
  wide = w ∙ a.wide;
  pins = λ c lt. p c lt ∙ ap (pinned d.call c) (a.pins c lt) ∙ sym (stands_changed h d e c);
  switches = λ r lt. q r lt ∙ ap (switched d.call r) (a.switches r lt) ∙ sym (on_changed h d e r);
  valid = v;
}

-- one element set
set_at : {X : Type 0} (xs : List X) (i : ℕ) (v d : X) → i < length xs → (c : ℕ) → get_or (set xs i v) c d ≡ cond (eqb i c) v (get_or xs c d)
set_at xs i v d lt c = elim (cases_eq i c) [
  | inl e ↦ subst (λ (x : ℕ). get_or (set xs i v) x d ≡ cond (eqb i x) v (get_or xs x d)) e (get_or-set_same xs i v d lt ∙ sym (cond-true (eqb i i) v (get_or xs i d) (eq-eqb i i refl)))
  | inr ne ↦ get_or-set_other xs i c v d (λ x. ne (sym x)) ∙ sym (cond-false (eqb i c) v (get_or xs c d) (ne_eqb i c ne))
]

holds_changed : {s : Sheet} {z : Sizes} {call : Call} {n : ℕ} {h : List Did} {t : Table} (d : Did) → Judged s z call n → n ≡ 0 → d.call ≡ call → (said d.answer).number ≡ 0
    → Holds s.lengths h t → Valid s.lengths (standing (d ∷ h)) → Holds s.lengths (d ∷ h) (table_changed t call)
holds_changed d (shut x) e i f a v = absurd (omega arith)
holds_changed {s} {t = t} d (pins {cell} {place} o lt b) e i f a v =
    let few = few_cells s o in
    let long : length t.pins ≡ 64 = a.long in
    holds_by d f a v (length-set t.pins cell (Some place)) refl
    (λ c l. set_at t.pins cell (Some place) None (omega arith) c ∙ ap (λ (k : Call). pinned k c (get_or t.pins c None)) (sym i))
    (λ r l. ap (λ (k : Call). switched k r (get_or t.switches r false)) (sym i))
holds_changed d (pins_no_cell o x) e i f a v = absurd (omega arith)
holds_changed d (pins_no_place o x y) e i f a v = absurd (omega arith)
holds_changed {s} {t = t} d (frees {cell} o lt) e i f a v =
    let few = few_cells s o in
    let long : length t.pins ≡ 64 = a.long in
    holds_by d f a v (length-set t.pins cell None) refl
    (λ c l. set_at t.pins cell None None (omega arith) c ∙ ap (λ (k : Call). pinned k c (get_or t.pins c None)) (sym i))
    (λ r l. ap (λ (k : Call). switched k r (get_or t.switches r false)) (sym i))
holds_changed d (frees_no_cell o x) e i f a v = absurd (omega arith)
holds_changed {s} {t = t} d (switches {rule} {on} o lt) e i f a v =
    let few = few_rules s o in
    let wide : length t.switches ≡ 64 = a.wide in
    holds_by d f a v refl (length-set t.switches rule on)
    (λ c l. ap (λ (k : Call). pinned k c (get_or t.pins c None)) (sym i))
    (λ r l. set_at t.switches rule on false (omega arith) r ∙ ap (λ (k : Call). switched k r (get_or t.switches r false)) (sym i))
holds_changed d (switches_no_rule o x) e i f a v = absurd (omega arith)
holds_changed {t = t} d (fits o x) e i f a v = holds_by d f a v refl refl
    (λ c l. ap (λ (k : Call). pinned k c (get_or t.pins c None)) (sym i))
    (λ r l. ap (λ (k : Call). switched k r (get_or t.switches r false)) (sym i))
holds_changed d (fits_short o x) e i f a v = absurd (omega arith)

-- ---- a Pin, a Free or a Switch
to_change_plain : (r : Result (Unit {0}) Refusal) → said (to_change r) ≡ plain (said (to_change r)).number
to_change_plain (Ok u) = refl
to_change_plain (Err e) = refl

changed_weights : (t : Table) (call : Call) → (table_changed t call).weights ≡ t.weights
changed_weights t (Pin cell place) = refl
changed_weights t (Free cell) = refl
changed_weights t (Switch rule on) = refl
changed_weights t Fit = refl

pub changed_kept : {B C : Type 0} {meaning : B → BookMeaning} {s t : Session B C} {call : Call} {r : Answer} → Changed meaning call s r t → (t.lengths ≡ s.lengths) × (t.book ≡ s.book)
changed_kept {B} {C} {r = r} c = elim (cases_eq (said r).number 0) [
  | inl e ↦ let q = c.done e in (ap (λ (x : Session B C). x.lengths) q, ap (λ (x : Session B C). x.book) q)
  | inr ne ↦ let q = c.refused ne in (ap (λ (x : Session B C). x.lengths) q, ap (λ (x : Session B C). x.book) q)
]

module _ {B C : Type 0} (meaning : B → BookMeaning) (k : Machine C) (s t : Session B C) where
  abbrev the_sheet : Sheet
  the_sheet = sheet_of meaning s

  -- with the right to speak of what stands after it
  with_holds : {h : List Did} {b a : Step} → Holds s.lengths.now h s.table → Makes the_sheet (StepDone k the_sheet) h (lasting_of s) b a (lasting_of t)
      → (Valid s.lengths.now (standing (did a ∷ h)) → Holds s.lengths.now (did a ∷ h) t.table)
      → Makes the_sheet (StepDone k the_sheet) h (lasting_of s) b a (lasting_of t) × Holds s.lengths.now (did a ∷ h) t.table
  with_holds holds m f = (m, f (valid_next the_sheet (StepDone k the_sheet) holds.valid m))

  pub made_changed : (h : List Did) (b a : Step) (call : Call) (r : Result (Unit {0}) Refusal) → b.call ≡ call → call ≢ Fit → Holds s.lengths.now h s.table → Untouched b a
      → a.answer ≡ to_change r → Changed meaning call s (to_change r) t
      → Makes the_sheet (StepDone k the_sheet) h (lasting_of s) b a (lasting_of t) × Holds s.lengths.now (did a ∷ h) t.table
  made_changed h b a call r is ne holds u ans c =
      let z = sizes b.buffers in
      let n = (said (to_change r)).number in
      let j : Judged the_sheet z b.call n = subst (λ (x : Call). Judged the_sheet z x n) (sym is) (c.judged z) in
      let says : said a.answer ≡ plain n = ap said ans ∙ to_change_plain r in
      let num : (said a.answer).number ≡ n = ap (λ (x : Said). x.number) says in
      elim (cases_eq n 0) [
        | inl e ↦
            let q = c.done e in
            let last : lasting_of t ≡ lasting_of s = ap lasting_of q ∙ ap (lasting s.chooser) (changed_weights s.table call) in
            let m : Makes the_sheet (StepDone k the_sheet) h (lasting_of s) b a (lasting_of t) = subst (λ (x : Lasting C). Makes the_sheet (StepDone k the_sheet) h (lasting_of s) b a x) (sym last)
            (changed (subst (Judged the_sheet z b.call) e j) (λ x. ne (sym is ∙ x)) (says ∙ ap plain e) u) in
            with_holds holds m (λ v. subst (λ (x : Session B C). Holds s.lengths.now (did a ∷ h) x.table) (sym q) (holds_changed (did a) (c.judged z) e (u.call ∙ is) (num ∙ e) holds v))
        | inr no_zero ↦
            let q = c.refused no_zero in
            let m : Makes the_sheet (StepDone k the_sheet) h (lasting_of s) b a (lasting_of t) = subst (λ (x : Session B C). Makes the_sheet (StepDone k the_sheet) h (lasting_of s) b a (lasting_of x)) (sym q)
            (refused j no_zero says u) in
            with_holds holds m (λ v. subst (λ (x : Session B C). Holds s.lengths.now (did a ∷ h) x.table) (sym q) (holds_same (did a) n num no_zero holds v))
      ]

  -- ---- a Fit
  -- what the table says is what stands
  held_same : (len : ℕ) (o : Option ℕ) → ((v : ℕ) → o ≡ Some v → v < len) → held len o ≡ o
  held_same len None f = refl
  held_same len (Some v) f = cond-true (ltb v len) (Some v) None (lt-ltb v len (f v refl))

  start_same : {h : List Did} → Opens the_sheet → Holds s.lengths.now h s.table → table_start s.lengths.now s.table ≡ start_after the_sheet h
  start_same {h} o a =
      let l = s.lengths.now in
      let few = few_cells the_sheet o in
      let f = λ (c : ℕ). start_of (get_or l c 0) (held (get_or l c 0) (get_or s.table.pins c None)) in
      fill_by_all (λ c. start_of (get_or l c 0) (standing h c)) (map f (range_with_len 0 (length l))) (length l) 0 (length-map-range_with_len f 0 (length l))
      (λ c lt. get_or-map-range_with_len f 0 (length l) c c 0 lt (omega arith)
      ∙ ap (start_of (get_or l c 0)) (ap (held (get_or l c 0)) (a.pins c (omega arith)) ∙ held_same (get_or l c 0) (standing h c) (λ v. a.valid.listed c v lt)))

  kept_same : (p q : ℕ → Bool) (a n : ℕ) → ((r : ℕ) → r < a + n → p r ≡ q r) → filter p (range_with_len a n) ≡ filter q (range_with_len a n)
  kept_same p q a zero e = refl
  kept_same p q a (suc n) e =
      ap₂ (λ (x : Bool) (xs : List ℕ). cond x (a ∷ xs) xs) (e a (omega arith)) (kept_same p q (a + 1) n (λ r lt. e r (omega arith)))

  on_is : {h : List Did} → Opens the_sheet → Holds s.lengths.now h s.table → table_on (meaning s.book) s.table ≡ on_after the_sheet h
  on_is {h} o a = let few = few_rules the_sheet o in ap set_of (kept_same (λ r. get_or s.table.switches r false) (is_on h) 0 (meaning s.book).count (λ r lt. a.switches r (omega arith)))

  -- the pins and the switches are kept
  holds_kept : {h : List Did} (a : Step) → a.call ≡ Fit → (said a.answer).number ≡ 0 → Holds s.lengths.now h s.table → t ≡ with_lasting s (lasting_of t)
      → Valid s.lengths.now (standing (did a ∷ h)) → Holds s.lengths.now (did a ∷ h) t.table
  holds_kept {h} a is num holds q v = subst (λ (x : Session B C). Holds s.lengths.now (did a ∷ h) x.table) (sym q) (holds_by (did a) num holds v refl refl
      (λ c l. ap (λ (x : Call). pinned x c (get_or s.table.pins c None)) (sym is))
      (λ r l. ap (λ (x : Call). switched x r (get_or s.table.switches r false)) (sym is)))

  pub fit_kept : {W W' F F' : List ℕ} {L L' : List Line} {r : Answer} → FitCalled meaning k s W L F r t W' L' F' → (t.lengths ≡ s.lengths) × (t.book ≡ s.book)
  fit_kept {r = r} c = elim (cases_eq (said r).number 0) [
    | inl e ↦ let q = (c.done e).2.kept in (ap (λ (x : Session B C). x.lengths) q, ap (λ (x : Session B C). x.book) q)
    | inr ne ↦ let q = (c.refused ne).0 in (ap (λ (x : Session B C). x.lengths) q, ap (λ (x : Session B C). x.book) q)
  ]

  to_fit_plain : (r : Result Values Refusal) → (said (to_fit r)).number ≢ 0 → said (to_fit r) ≡ plain (said (to_fit r)).number
  to_fit_plain (Ok f) ne = absurd (ne refl)
  to_fit_plain (Err e) ne = refl

  pub made_fit : (h : List Did) (b a : Step) (r : Result Values Refusal) {W W' F F' : List ℕ} {L L' : List Line} → b.call ≡ Fit → Holds s.lengths.now h s.table → a.call ≡ b.call
      → a.answer ≡ to_fit r → length W ≡ vec_len b.buffers.work → length L ≡ vec_len b.buffers.log → length F ≡ vec_len b.buffers.filling
      → W ≡ vec_items b.buffers.work → L ≡ vec_items b.buffers.log → F ≡ vec_items b.buffers.filling
      → vec_items a.buffers.work ≡ W' → vec_items a.buffers.log ≡ L' → vec_items a.buffers.filling ≡ F' → sizes a.buffers ≡ sizes b.buffers
      → FitCalled meaning k s W L F (to_fit r) t W' L' F'
      → Makes the_sheet (StepDone k the_sheet) h (lasting_of s) b a (lasting_of t) × Holds s.lengths.now (did a ∷ h) t.table
  made_fit h b a r {W} {W'} {F} {F'} {L} {L'} is holds call ans w l f ws ls fs aw al af room c =
      let n = (said (to_fit r)).number in
      let ze : sizes_of W L F ≡ sizes b.buffers = sizes_same w l f in
      let j : Judged the_sheet (sizes b.buffers) b.call n = subst₂ (λ (x : Sizes) (y : Call). Judged the_sheet x y n) ze (sym is) c.judged in
      elim (cases_eq n 0) [
        | inl e ↦
            let d = c.done e in
            let o = done_opens j e in
            let says : said a.answer ≡ returned d.0 = ap said ans ∙ d.1 in
            let v = d.2 in
            let runs : FitRuns k (meaning s.book) (start_after the_sheet h) (on_after the_sheet h) (lasting_of s) (vec_items a.buffers.log) (vec_items a.buffers.filling) d.0 (lasting_of t) =
            subst₂ (λ (x : List Line) (y : List ℕ). FitRuns k (meaning s.book) (start_after the_sheet h) (on_after the_sheet h) (lasting_of s) x y d.0 (lasting_of t)) (sym al) (sym af)
            (subst₂ (λ (x : List ℕ) (y : ℕ). FitRuns k (meaning s.book) x y (lasting_of s) L' F' d.0 (lasting_of t)) (start_same o holds) (on_is o holds) v.runs) in
            let keeps : Keeps (cells the_sheet) d.0 (vec_items b.buffers.log) (vec_items a.buffers.log) (vec_items b.buffers.filling) (vec_items a.buffers.filling) =
            subst₂ (λ (x : List Line) (y : List ℕ). Keeps (cells the_sheet) d.0 (vec_items b.buffers.log) x (vec_items b.buffers.filling) y) (sym al) (sym af)
            (subst₂ (λ (x : List Line) (y : List ℕ). Keeps (cells the_sheet) d.0 x L' y F') ls fs v.keeps) in
            with_holds holds (fitted (subst (Judged the_sheet (sizes b.buffers) b.call) e j) is says call (runs, keeps, room))
            (holds_kept a (call ∙ is) (ap (λ (x : Said). x.number) says) holds v.kept)
        | inr ne ↦
            let q = c.refused ne in
            let says : said a.answer ≡ plain n = ap said ans ∙ to_fit_plain r ne in
            let num : (said a.answer).number ≡ n = ap (λ (x : Said). x.number) says in
            let u : Untouched b a = record { call = call; work = aw ∙ q.1 ∙ ws; log = al ∙ q.2 ∙ ls; filling = af ∙ q.3 ∙ fs } in
            let m : Makes the_sheet (StepDone k the_sheet) h (lasting_of s) b a (lasting_of t) = subst (λ (x : Session B C). Makes the_sheet (StepDone k the_sheet) h (lasting_of s) b a (lasting_of x)) (sym q.0)
            (refused j ne says u) in
            with_holds holds m (λ v. subst (λ (x : Session B C). Holds s.lengths.now (did a ∷ h) x.table) (sym q.0) (holds_same (did a) n num ne holds v))
      ]
