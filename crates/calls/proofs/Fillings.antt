-- Fillings under the standing pins are the fillings inside the starting sets. Assumes nothing.
use Rattle.std.proofs.Common.{◌≡◌, ℕ, zero, suc, ◌+◌, ◌-◌, ◌^◌, ◌<◌, ◌≤◌, Bool, true, false, cond, List, ◌∷◌, length, get_or, Some, None, filter, Option, sym, refl, ap, ◌∙◌, subst, ⊎_elim, arith}
use Rattle.std.proofs.lemmas.Bool.{cases_lt}
use Rattle.std.proofs.lemmas.List.FromFn.{length-map-range_with_len, get_or-map-range_with_len}
use Rattle.std.specs.List.{range_with_len}
use Rattle.bits.specs.Sets.{In}
use Rattle.bits.proofs.Bits.{pow_same, has_pow}
use Rattle.bits.proofs.Whole.{whole_has, has_whole}
use Rattle.bits.proofs.Same.{subset_small}
use Rattle.bits.proofs.SetOf.{set_has}
use Rattle.network.specs.Book.{Lawful}
use Rattle.network.specs.Fillings.{Inside, Meetable}
use Rattle.runs.specs.Law.{Ready}
use Rattle.calls.specs.Sheet.{Sheet, cells, places, Listed, Named, Checked.passes, Opens}
use Rattle.calls.specs.History.{Did, standing, Valid, set_where, Filling, Fillable}
use Rattle.calls.specs.Runs.{start_of, starts, start_after}

-- ---- starting sets
pub starts_long : (lengths : List ℕ) (pins : ℕ → Option ℕ) → length (starts lengths pins) ≡ length lengths
starts_long lengths pins = length-map-range_with_len (λ c. start_of (get_or lengths c 0) (pins c)) 0 (length lengths)

pub starts_at : (lengths : List ℕ) (pins : ℕ → Option ℕ) (c : ℕ) → c < length lengths → get_or (starts lengths pins) c 0 ≡ start_of (get_or lengths c 0) (pins c)
starts_at lengths pins c lt = get_or-map-range_with_len (λ c. start_of (get_or lengths c 0) (pins c)) 0 (length lengths) c c 0 lt (omega arith)

cell_in : (len x : ℕ) (o : Option ℕ) → ((v : ℕ) → o ≡ Some v → v < len) → In (start_of len o) x → (x < len) × ((v : ℕ) → o ≡ Some v → x ≡ v)
cell_in len x None ok k = (has_whole len x k, λ v e. absurd (let z : ◌≡◌ {A = ℕ} 0 1 = cc in omega arith))
cell_in len x (Some w) ok k = let e : x ≡ w = has_pow w x k in (let l = ok w refl in omega arith, λ v q. e ∙ (let z : w ≡ v = cc in z))

cell_out : (len x : ℕ) (o : Option ℕ) → x < len → ((v : ℕ) → o ≡ Some v → x ≡ v) → In (start_of len o) x
cell_out len x None lt k = whole_has len x lt
cell_out len x (Some w) lt k = subst (In (2 ^ w)) (sym (k w refl)) (pow_same w)

-- some place is there
cell_some : (len : ℕ) (o : Option ℕ) → 1 ≤ len → len ≤ 64 → ((v : ℕ) → o ≡ Some v → v < len) → (v : ℕ) × (v < 64) × In (start_of len o) v
cell_some len None some few ok = (0, omega arith, whole_has len 0 some)
cell_some len (Some w) some few ok = (w, (let l = ok w refl in omega arith), pow_same w)

-- the rules of a set given by a test
kept_small : (on : ℕ → Bool) (a n i : ℕ) → i < length (filter on (range_with_len a n)) → get_or (filter on (range_with_len a n)) i 0 < a + n
kept_small on a zero i lt = absurd (omega arith)
kept_small on a (suc n) i lt = go (on a) i lt (kept_small on (a + 1) n)
  where
    go : (t : Bool) (j : ℕ) → j < length (cond t (a ∷ filter on (range_with_len (a + 1) n)) (filter on (range_with_len (a + 1) n)))
        → ((q : ℕ) → q < length (filter on (range_with_len (a + 1) n)) → get_or (filter on (range_with_len (a + 1) n)) q 0 < a + 1 + n)
        → get_or (cond t (a ∷ filter on (range_with_len (a + 1) n)) (filter on (range_with_len (a + 1) n))) j 0 < a + suc n
    go true zero h ih = omega arith
    go true (suc j) h ih = let p = ih j (omega arith) in omega arith
    go false j h ih = let p = ih j h in omega arith

pub where_small : (on : ℕ → Bool) (n r : ℕ) → In (set_where on n) r → r < n
where_small on n r h =
    let q = set_has (filter on (range_with_len 0 n)) r h in
    let p = kept_small on 0 n q.0 q.1 in
    let e = q.2 in omega arith

-- among 64 rules it is a mask of 64 bits
pub where_low : (on : ℕ → Bool) (n : ℕ) → n ≤ 64 → set_where on n < 2 ^ 64
where_low on n few = subset_small (set_where on n) (2 ^ 64 - 1) (λ r h. whole_has 64 r (let a = where_small on n r h in omega arith)) (omega arith)

opens_listed : (s : Sheet) → Opens s → Listed s.lengths
opens_listed s (passes l r m) = l

opens_few : (s : Sheet) → Opens s → s.book.count ≤ 64
opens_few s (passes l r m) = r

opens_named : (s : Sheet) → Opens s → Named s.book (cells s)
opens_named s (passes l r m) = m

module _ (s : Sheet) (opens : Opens s) where
  pub listed : Listed s.lengths
  listed = opens_listed s opens

  pub few_rules : s.book.count ≤ 64
  few_rules = opens_few s opens

  pub named : Named s.book (cells s)
  named = opens_named s opens

  pub few_cells : cells s ≤ 64
  few_cells = listed.few

  -- a run may list any rules that the book has
  pub ready : Lawful s.book → (pins : ℕ → Option ℕ) → Valid s.lengths pins → (on : ℕ) → ((r : ℕ) → In on r → r < s.book.count) → Ready s.book (starts s.lengths pins) on
  ready law pins valid on known = record {
    few = let e = starts_long s.lengths pins in let f = listed.few in omega arith;
    suits = record {
      few = few_rules;
      cells = λ r i h. ⊎_elim
          (λ lt. let p = named r lt i h in let e = starts_long s.lengths pins in omega arith)
          (λ ge. absurd (let e = ap length (law.missing r ge) in omega arith))
          (cases_lt r s.book.count);
    };
    known = known;
    full = λ c lt empty.
        let l : c < cells s = let e = starts_long s.lengths pins in omega arith in
        let q = cell_some (places s c) (pins c) (listed.long c l) (listed.short c l) (λ v. valid.listed c v l) in
        empty q.0 (q.1, subst (λ (x : ℕ). In x q.0) (sym (starts_at s.lengths pins c l)) q.2);
  }

  module _ (h : List Did) (valid : Valid s.lengths (standing h)) where
    pub inside_filling : (f : List ℕ) → Inside f (start_after s h) → Filling s h f
    inside_filling f i =
        let long : length (start_after s h) ≡ cells s = starts_long s.lengths (standing h) in
        let q : (c : ℕ) → c < cells s → (get_or f c 0 < places s c) × ((v : ℕ) → standing h c ≡ Some v → get_or f c 0 ≡ v) =
        λ c lt. cell_in (places s c) (get_or f c 0) (standing h c) (λ v. valid.listed c v lt) (subst (λ (y : ℕ). In y (get_or f c 0)) (starts_at s.lengths (standing h) c lt) (i.each c (omega arith)).1) in
        record { long = i.long ∙ long; listed = λ c lt. (q c lt).0; keeps = λ c v lt e. (q c lt).1 v e }

    filling_inside : (f : List ℕ) → Filling s h f → Inside f (start_after s h)
    filling_inside f i =
        let long : length (start_after s h) ≡ cells s = starts_long s.lengths (standing h) in
        record {
          long = i.long ∙ sym long;
          each = λ c lt. let l : c < cells s = omega arith in (
            let p = i.listed c l in let q = listed.short c l in omega arith,
            subst (λ (y : ℕ). In y (get_or f c 0)) (sym (starts_at s.lengths (standing h) c l)) (cell_out (places s c) (get_or f c 0) (standing h c) (i.listed c l) (λ v e. i.keeps c v l e)),
          );
        }

    -- some filling inside the starting sets meets the rules exactly if some filling under the pins does
    pub met_fillable : (a : ℕ) → Meetable s.book (start_after s h) a → Fillable s h a
    met_fillable a q = record { filling = q.filling; under = inside_filling q.filling q.inside; meets = q.meets }

    pub fillable_met : (a : ℕ) → Fillable s h a → Meetable s.book (start_after s h) a
    fillable_met a q = record { filling = q.filling; inside = filling_inside q.filling q.under; meets = q.meets }
