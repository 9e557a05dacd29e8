-- No fault 7 or 8 in what is within the limits. Assumes nothing.
use Rattle.std.proofs.Common.{◌≡◌, ℕ, suc, ◌+◌, ◌-◌, ◌<◌, ◌≤◌, ◌≢◌, ◌⊎◌, List, [], ◌∷◌, ◌++◌, length, take, drop, pos, negsuc, sym, refl, ap, ◌∙◌, subst, inl, inr, ⊎_elim, append_assoc, arith}
use Rattle.std.proofs.lemmas.Bool.{cases_lt, cases_eq}
use Rattle.formulas.specs.declared.node.Shift.{Shift}
use Rattle.formulas.specs.declared.node.Shift.TheVariants.{Bare, Plus, Minus}
use Rattle.formulas.specs.declared.node.Side.{Side}
use Rattle.formulas.specs.declared.node.Side.TheVariants.{Number, Cell}
use Rattle.formulas.specs.declared.node.Relation.{Relation}
use Rattle.formulas.specs.declared.node.Relation.TheVariants.{Equal, NotEqual, Less, LessEqual, Greater, GreaterEqual}
use Rattle.formulas.specs.Tree.{Condition, compares, negates, all, any, Conditions, one, more, numeral, shift_text, side_text, relation_text, text, list_text, levels, list_levels, not_word, and_word, or_word, Known, KnownAll, KnownSide, KnownShift}
use Rattle.formulas.specs.Faults.{next, Digit, count, level, TooLarge, Oversize, cell, digits, negative}
use Rattle.formulas.specs.Reading.{Spans, Clear, Deep, EndsShift, EndsSide, Ends}
use Rattle.formulas.proofs.Numerals.{digits_numeral, numeral_next, numeral_prefix}
use Rattle.formulas.proofs.Unique.{SideFirst, uncons, shift_ends, relation_ends, ends_any, ends_closed, ends_comma}
use Rattle.formulas.proofs.Spans.{spans_byte, spans_split, spans_next, spans_digits}
use Rattle.formulas.proofs.Firsts.{large_first}
use Rattle.formulas.proofs.Levels.{deep_flat, deep_open, deep_level, balanced, levels_some, list_levels_some}

-- bytes that are no brackets and begin no side
abbrev pub Plain : List ℕ → Type 0
Plain [] = Unit {0}
Plain (b ∷ w) = ((b ≢ 40) × (SideFirst b → ⊥)) × Plain w

plain_byte : (b : ℕ) → (57 < b) → b ≢ 67 → (b ≢ 40) × (SideFirst b → ⊥)
plain_byte b h n = ((λ e. omega arith), (λ f. ⊎_elim (λ d. omega (arith, d.1)) (λ g. ⊎_elim (λ e. omega arith) (λ e. n e) g) f))

pub relation_plain : (o : Relation) → Plain (relation_text o)
relation_plain Equal = (plain_byte 61 (omega arith) (λ e. omega (arith, e)), tt)
relation_plain NotEqual = (plain_byte 60 (omega arith) (λ e. omega (arith, e)), (plain_byte 62 (omega arith) (λ e. omega (arith, e)), tt))
relation_plain Less = (plain_byte 60 (omega arith) (λ e. omega (arith, e)), tt)
relation_plain LessEqual = (plain_byte 60 (omega arith) (λ e. omega (arith, e)), (plain_byte 61 (omega arith) (λ e. omega (arith, e)), tt))
relation_plain Greater = (plain_byte 62 (omega arith) (λ e. omega (arith, e)), tt)
relation_plain GreaterEqual = (plain_byte 62 (omega arith) (λ e. omega (arith, e)), (plain_byte 61 (omega arith) (λ e. omega (arith, e)), tt))

pub word_not : Plain (78 ∷ 79 ∷ 84 ∷ [])
word_not = (plain_byte 78 (omega arith) (λ e. omega (arith, e)), (plain_byte 79 (omega arith) (λ e. omega (arith, e)), (plain_byte 84 (omega arith) (λ e. omega (arith, e)), tt)))

pub word_and : Plain (65 ∷ 78 ∷ 68 ∷ [])
word_and = (plain_byte 65 (omega arith) (λ e. omega (arith, e)), (plain_byte 78 (omega arith) (λ e. omega (arith, e)), (plain_byte 68 (omega arith) (λ e. omega (arith, e)), tt)))

pub word_or : Plain (79 ∷ 82 ∷ [])
word_or = (plain_byte 79 (omega arith) (λ e. omega (arith, e)), (plain_byte 82 (omega arith) (λ e. omega (arith, e)), tt))

bracket : SideFirst 40 → ⊥
bracket f = ⊎_elim (λ d. omega (arith, d.0)) (λ g. ⊎_elim (λ e. omega (arith, e)) (λ e. omega (arith, e)) g) f

-- the last byte of digits
pub last_digit : (n : ℕ) {s : List ℕ} {at end : ℕ} → Spans s at (numeral n) end → (i : ℕ) × (end ≡ i + 1) × Digit (next (drop i s))
last_digit n {s} {at} {end} p =
    let more : at < end = ⊎_elim (λ lt. lt) (λ le. absurd (empty (numeral n) (numeral_next n []) (omega (arith, p.upto)))) (cases_lt at end) in
    (end - 1, omega arith, spans_digits (numeral n) (digits_numeral n) p (end - 1) (omega arith) (omega arith))
  where
    empty : (w : List ℕ) → Digit (next (w ++ [])) → length w ≡ 0 → ⊥
    empty [] d e = omega (arith, d.1)
    empty (b ∷ w) d e = omega arith

module _ {cells : ℕ} {s : List ℕ} where
  pub clear_start : Clear cells s 0
  clear_start = record { deep = λ j f. omega (arith, f.after); large = λ j f. omega arith }

  -- one byte on, where no bracket opens level 17 and no token above the limits begins
  pub clear_step : {k : ℕ} → Clear cells s k → (next (drop k s) ≡ 40 → level (take k s) ≢ 16) → (TooLarge cells s k → ⊥) → Clear cells s (k + 1)
  clear_step {k} c shallow small = record {
    deep = λ j f. ⊎_elim
        (λ e. absurd (shallow (ap (λ n. next (drop n s)) e ∙ f.bracket) (ap (λ n. level (take n s)) e ∙ f.full)))
        (λ ne. omega (arith, c.deep j f, f.after))
        (cases_eq k f.before);
    large = λ j f. ⊎_elim
        (λ e. absurd (small (subst (TooLarge cells s) (sym e) f)))
        (λ ne. omega (arith, c.large j f))
        (cases_eq k j);
  }

  -- a byte that is no bracket and begins no side
  pub clear_plain : {k : ℕ} (b : ℕ) → Clear cells s k → next (drop k s) ≡ b → b ≢ 40 → (SideFirst b → ⊥) → Clear cells s (k + 1)
  clear_plain {k} b c e f g = clear_step c (λ h. absurd (f (sym e ∙ h))) (λ t. g (subst SideFirst e (large_first t)))

  -- digits within the limit
  module _ {n at end : ℕ} (p : Spans s at (numeral n) end) (few : n ≤ 1000000) (stop : (Digit (next (drop end s)) → ⊥) ⊎ (n ≡ 0)) where
    not_large : (j : ℕ) → at ≤ j → j < end → TooLarge cells s j → ⊥
    not_large j low high f = go f.token f.large f.stands
      where
        go : (w : List ℕ) → Oversize cells s j w → drop j s ≡ w ++ drop (j + length w) s → ⊥
        go w (cell h) e = let d = spans_digits (numeral n) (digits_numeral n) p j low high in omega (arith, d.1, ap next e)
        go w (negative h g) e = let d = spans_digits (numeral n) (digits_numeral n) p j low high in omega (arith, d.0, ap next e)
        go w (digits {n = m} h g) e =
            ⊎_elim
            (λ is. let z = numeral_prefix m n (drop (j + length (numeral m)) s) (drop end s) stop (sym e ∙ ap (λ i. drop i s) (sym is) ∙ p.said) in omega arith)
            (λ ne. g (j - 1) (omega arith) (spans_digits (numeral n) (digits_numeral n) p (j - 1) (omega arith) (omega arith)))
            (cases_eq at j)

    pub clear_digits : Clear cells s at → Clear cells s end
    clear_digits c = record {
      deep = λ j f. ⊎_elim (λ lt. lt) (λ le. let d = spans_digits (numeral n) (digits_numeral n) p f.before (omega (arith, c.deep j f, f.after)) (omega (arith, f.after)) in absurd (omega (arith, d.0, f.bracket))) (cases_lt end j);
      large = λ j f. ⊎_elim (λ lt. absurd (not_large j (c.large j f) lt f)) (λ le. le) (cases_lt j end);
    }

  -- C, where no missing cell's number stands after it
  pub clear_letter : {at : ℕ} → Clear cells s at → next (drop at s) ≡ 67 → ((m : ℕ) (t : List ℕ) → drop (at + 1) s ≡ numeral m ++ t → m < cells) → Clear cells s (at + 1)
  clear_letter {at} c e known = clear_step c (λ h. absurd (omega (arith, e, h))) (λ f. go f.token f.large f.stands)
    where
      go : (w : List ℕ) → Oversize cells s at w → drop at s ≡ w ++ drop (at + length w) s → ⊥
      go w (cell {n = m} h) x =
          let k = known m (drop (at + length (67 ∷ numeral m)) s) (uncons 67 _ _ (sym (spans_byte s at 67 e (omega arith)).said ∙ x)) in omega arith
      go w (digits {n = m} h g) x = let d = numeral_next m (drop (at + length (numeral m)) s) in omega (arith, d.1, ap next x)
      go w (negative h g) x = omega (arith, ap next x)

  -- a minus, where no digits above the limit stand after it
  pub clear_minus : {at : ℕ} → Clear cells s at → next (drop at s) ≡ 45 → ((m : ℕ) (t : List ℕ) → drop (at + 1) s ≡ numeral m ++ t → m ≤ 1000000) → Clear cells s (at + 1)
  clear_minus {at} c e few = clear_step c (λ h. absurd (omega (arith, e, h))) (λ f. go f.token f.large f.stands)
    where
      go : (w : List ℕ) → Oversize cells s at w → drop at s ≡ w ++ drop (at + length w) s → ⊥
      go w (cell h) x = omega (arith, ap next x)
      go w (digits {n = m} h g) x = let d = numeral_next m (drop (at + length (numeral m)) s) in omega (arith, d.0, ap next x)
      go w (negative {n = m} h g) x =
          let k = few m (drop (at + length (45 ∷ numeral m)) s) (uncons 45 _ _ (sym (spans_byte s at 45 e (omega arith)).said ∙ x)) in omega arith

  -- the sign of a shift stands after a digit
  pub clear_sign : {at : ℕ} (b i : ℕ) → Clear cells s at → next (drop at s) ≡ b → (b ≡ 43) ⊎ (b ≡ 45) → at ≡ i + 1 → Digit (next (drop i s)) → Clear cells s (at + 1)
  clear_sign {at} b i c e is before d =
      clear_step c (λ h. absurd (⊎_elim (λ x. omega arith) (λ x. omega arith) is)) (λ f. go f.token f.large f.stands)
    where
      go : (w : List ℕ) → Oversize cells s at w → drop at s ≡ w ++ drop (at + length w) s → ⊥
      go w (cell h) x = ⊎_elim (λ y. omega (arith, ap next x)) (λ y. omega (arith, ap next x)) is
      go w (digits {n = m} h g) x = let q = numeral_next m (drop (at + length (numeral m)) s) in ⊎_elim (λ y. omega (arith, q.0, ap next x)) (λ y. omega (arith, q.0, ap next x)) is
      go w (negative h g) x = g i before d

  clear_shift : {at end : ℕ} (i : ℕ) (h : Shift) → Clear cells s at → at ≡ i + 1 → Digit (next (drop i s)) → Spans s at (shift_text h) end → KnownShift h → EndsShift h (next (drop end s)) → Clear cells s end
  clear_shift {at} {end} i Bare c before d p known f = subst (Clear cells s) (sym (p.upto ∙ omega arith)) c
  clear_shift {at} {end} i (Plus n) c before d p known f =
      let q = spans_split (43 ∷ []) (numeral n) p in
      clear_digits q.1 known (inl f) (clear_sign 43 i c (spans_next p) (inl refl) before d)
  clear_shift {at} {end} i (Minus n) c before d p known f =
      let q = spans_split (45 ∷ []) (numeral n) p in
      clear_digits q.1 known (inl f) (clear_sign 45 i c (spans_next p) (inr refl) before d)

  module _ (many : cells ≤ 1000000) where
    pub clear_side : (a : Side) {at end : ℕ} → Clear cells s at → Spans s at (side_text a) end → KnownSide cells a → EndsSide a (next (drop end s)) → Clear cells s end
    clear_side (Number (pos n)) c p known f = clear_digits p known (inl f) c
    clear_side (Number (negsuc n)) {at} {end} c p known f =
        let q = spans_split (45 ∷ []) (numeral (suc n)) p in
        clear_digits q.1 known (inl f) (clear_minus c (spans_next p) (λ m t e. omega (arith, numeral_prefix m (suc n) t (drop end s) (inl f) (sym e ∙ q.1.said))))
    clear_side (Cell n h) {at} {end} c p known f =
        let mid = at + length (67 ∷ numeral n) in
        let q = spans_split (67 ∷ numeral n) (shift_text h) p in
        let r = spans_split (67 ∷ []) (numeral n) q.0 in
        let l = last_digit n r.1 in
        let stop : Digit (next (drop mid s)) → ⊥ = λ d. shift_ends h (drop end s) f (subst (λ x. Digit (next x)) q.1.said d) in
        let c₁ = clear_letter c (spans_next p) (λ m t e. omega (arith, numeral_prefix m n t (drop mid s) (inl stop) (sym e ∙ r.1.said), known.0)) in
        clear_shift l.0 h (clear_digits r.1 (omega (arith, known.0)) (inl stop) c₁) l.1 l.2 q.1 known.1 f

    pub clear_bytes : (w : List ℕ) {at end : ℕ} → Plain w → Clear cells s at → Spans s at w end → Clear cells s end
    clear_bytes [] a c p = subst (Clear cells s) (sym (p.upto ∙ omega arith)) c
    clear_bytes (b ∷ w) a c p = clear_bytes w a.1 (clear_plain b c (spans_next p) a.0.0 a.0.1) (spans_split (b ∷ []) w p).1

    pub clear_relation : {at end : ℕ} (o : Relation) → Clear cells s at → Spans s at (relation_text o) end → Clear cells s end
    clear_relation o c p = clear_bytes (relation_text o) (relation_plain o) c p

    -- an opening word, at a level below 16
    pub clear_open : {at end l : ℕ} (w : List ℕ) → Plain w → count 40 w ≡ count 41 w → Clear cells s at → Spans s at (w ++ (40 ∷ [])) end → Deep s at l → l < 16 → Clear cells s end
    clear_open {at} {end} {l} w a flat c p d low =
        let q = spans_split w (40 ∷ []) p in
        let c' = clear_bytes w a c q.0 in
        let l' = deep_level (deep_flat q.0 flat d) in
        subst (Clear cells s) (sym q.1.upto) (clear_step c' (λ h e. omega arith) (λ t. bracket (subst SideFirst (spans_next q.1) (large_first t))))

    pub clear_close : {at : ℕ} (b : ℕ) → (b ≡ 41) ⊎ (b ≡ 44) → Clear cells s at → next (drop at s) ≡ b → Clear cells s (at + 1)
    clear_close b is c e = clear_plain b c e (λ h. ⊎_elim (λ x. omega arith) (λ x. omega arith) is)
        (λ f. ⊎_elim (λ x. omega (arith, x.0, is')) (λ g. ⊎_elim (λ x. omega (arith, is')) (λ x. omega (arith, is')) g) f)
      where
        is' : b < 45
        is' = ⊎_elim (λ x. omega arith) (λ x. omega arith) is

    mutual
      pub clear_condition : {at end l : ℕ} (x : Condition) → Clear cells s at → Deep s at l → Spans s at (text x) end → Known cells x → levels x + l ≤ 17 → Ends x (next (drop end s)) → Clear cells s end
      clear_condition (compares a o b) c d p known low f =
          let q = spans_split (side_text a) (relation_text o ++ side_text b) p in
          let r = spans_split (relation_text o) (side_text b) q.1 in
          let c₁ = clear_side a c q.0 known.0 (ends_any a _ (subst (λ x. EndsShift Bare (next x)) (sym r.0.said) (relation_ends o (drop _ s)))) in
          clear_side b (clear_relation o c₁ r.0) r.1 known.1 f
      clear_condition (negates x) c d p known low f =
          let q = spans_split not_word (text x ++ (41 ∷ [])) p in
          let r = spans_split (text x) (41 ∷ []) q.1 in
          let i = levels_some x in
          let c₁ = clear_open (78 ∷ 79 ∷ 84 ∷ []) word_not refl c q.0 d (omega arith) in
          let c₂ = clear_condition x c₁ (deep_open q.0 refl d) r.0 known (omega arith) (subst (Ends x) (sym (spans_next r.1)) (ends_closed x)) in
          subst (Clear cells s) (sym r.1.upto) (clear_close 41 (inl refl) c₂ (spans_next r.1))
      clear_condition (all xs) c d p known low f =
          let q = spans_split and_word (list_text xs ++ (41 ∷ [])) p in
          let i = list_levels_some xs in
          clear_list xs (clear_open (65 ∷ 78 ∷ 68 ∷ []) word_and refl c q.0 d (omega arith)) (deep_open q.0 refl d) q.1 known (omega arith)
      clear_condition (any xs) c d p known low f =
          let q = spans_split or_word (list_text xs ++ (41 ∷ [])) p in
          let i = list_levels_some xs in
          clear_list xs (clear_open (79 ∷ 82 ∷ []) word_or refl c q.0 d (omega arith)) (deep_open q.0 refl d) q.1 known (omega arith)

      -- a list and the bracket that closes it
      pub clear_list : {at end l : ℕ} (xs : Conditions) → Clear cells s at → Deep s at l → Spans s at (list_text xs ++ (41 ∷ [])) end → KnownAll cells xs → list_levels xs + l ≤ 17 → Clear cells s end
      clear_list (one x) c d p known low =
          let r = spans_split (text x) (41 ∷ []) p in
          let c₂ = clear_condition x c d r.0 known low (subst (Ends x) (sym (spans_next r.1)) (ends_closed x)) in
          subst (Clear cells s) (sym r.1.upto) (clear_close 41 (inl refl) c₂ (spans_next r.1))
      clear_list {at} {end} (more x xs) c d p known low =
          let r = spans_split (text x) (44 ∷ (list_text xs ++ (41 ∷ []))) (subst (λ w. Spans s at w end) (append_assoc (text x) (44 ∷ list_text xs) (41 ∷ [])) p) in
          let t = spans_split (44 ∷ []) (list_text xs ++ (41 ∷ [])) r.1 in
          let c₂ = clear_condition x c d r.0 known.0 (omega arith) (subst (Ends x) (sym (spans_next r.1)) (ends_comma x)) in
          clear_list xs (clear_close 44 (inr refl) c₂ (spans_next r.1)) (deep_flat t.0 refl (deep_flat r.0 (balanced x) d)) t.1 known.1 (omega arith)
