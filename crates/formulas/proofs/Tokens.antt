-- Digits and cells in a side: what can come there, and which faults there are. Assumes nothing.
use Rattle.std.proofs.Common.{◌≡◌, ℕ, suc, ◌+◌, ◌-◌, ◌<◌, ◌≤◌, ◌≢◌, List, [], ◌∷◌, ◌++◌, length, take, drop, pos, negsuc, sym, ap, ◌∙◌, subst, append_assoc, append-nil, arith}
use Rattle.formulas.specs.declared.node.Shift.{Shift}
use Rattle.formulas.specs.declared.node.Shift.TheVariants.{Bare, Plus, Minus}
use Rattle.formulas.specs.declared.node.Side.{Side}
use Rattle.formulas.specs.declared.node.Side.TheVariants.{Number, Cell}
use Rattle.formulas.specs.Tree.{Condition, numeral, shift_text, side_text, text}
use Rattle.formulas.specs.Faults.{next, Digit, NoDigitBefore, Outside, TooLarge, cell, digits, negative}
use Rattle.formulas.specs.Reading.{Spans, AwaitsSide, AwaitsDigits, EndsShift}
use Rattle.formulas.proofs.Numerals.{numeral_zero, numeral_next, numeral_first, numeral_unique, zero_only}
use Rattle.formulas.proofs.Unique.{uncons, shift_ends, ends_any}
use Rattle.formulas.proofs.Spans.{spans_take, spans_byte, spans_join, after_word, word_next}

module _ {s : List ℕ} {at : ℕ} (a : AwaitsSide s at) where
  -- a number without a minus
  pub digits_number : next (drop at s) ≢ 67 → next (drop at s) ≢ 45 → AwaitsDigits 0 s at
  digits_number f g = record {
    comes = λ d u e n. let k = a.comes d u e n in go k.0 k.1 u k.2 k.3 n;
    room = λ n h. a.room (Number (pos n));
  }
    where
      go : (x : Side) (t u : List ℕ) → u ≡ side_text x ++ t → EndsShift Bare (next t) → next u ≡ next (drop at s) → (n : ℕ) × (v : List ℕ) × (0 ≤ n) × (u ≡ numeral n ++ v) × (Digit (next v) → ⊥)
      go (Number (pos n)) t u e h m = (n, t, omega arith, e, h.0)
      go (Number (negsuc n)) t u e h m = absurd (g (sym m ∙ ap next e))
      go (Cell c k) t u e h m = absurd (f (sym m ∙ ap next e))

  -- after a number's minus
  pub digits_negative : next (drop at s) ≡ 45 → AwaitsDigits 1 s (at + 1)
  digits_negative is = record {
    comes = λ d u e n.
        let p = spans_byte s at 45 is (omega arith) in
        let k = a.comes d (45 ∷ u) (after_word (text d) u p e) (sym is) in go k.0 k.1 u k.2 k.3;
    room = λ n h.
        let k = a.room (Number (negsuc (n - 1))) in
        let z : suc (n - 1) ≡ n = omega arith in
        (k.0, k.1, k.2 ∙ ap (λ m. take at s ++ (45 ∷ (numeral m ++ k.1))) z ∙ sym (append_assoc (take at s) (45 ∷ []) (numeral n ++ k.1)) ∙ ap (λ l. l ++ (numeral n ++ k.1)) (sym (spans_take (spans_byte s at 45 is (omega arith)))));
  }
    where
      go : (x : Side) (t u : List ℕ) → 45 ∷ u ≡ side_text x ++ t → EndsShift Bare (next t) → (n : ℕ) × (v : List ℕ) × (1 ≤ n) × (u ≡ numeral n ++ v) × (Digit (next v) → ⊥)
      go (Number (pos n)) t u e h = let d = numeral_next n t in absurd (omega (arith, d.0, ap next e))
      go (Number (negsuc n)) t u e h = (suc n, t, omega arith, uncons 45 _ _ e, h.0)
      go (Cell c k) t u e h = absurd (omega (arith, ap next e))

  -- after C
  pub digits_cell : next (drop at s) ≡ 67 → AwaitsDigits 0 s (at + 1)
  digits_cell is = record {
    comes = λ d u e n.
        let p = spans_byte s at 67 is (omega arith) in
        let k = a.comes d (67 ∷ u) (after_word (text d) u p e) (sym is) in go k.0 k.1 u k.2 k.3;
    room = λ n h.
        let k = a.room (Cell n Bare) in
        (k.0, k.1, k.2 ∙ ap (λ l. take at s ++ (67 ∷ (l ++ k.1))) (append-nil (numeral n)) ∙ sym (append_assoc (take at s) (67 ∷ []) (numeral n ++ k.1)) ∙ ap (λ l. l ++ (numeral n ++ k.1)) (sym (spans_take (spans_byte s at 67 is (omega arith)))));
  }
    where
      go : (x : Side) (t u : List ℕ) → 67 ∷ u ≡ side_text x ++ t → EndsShift Bare (next t) → (n : ℕ) × (v : List ℕ) × (0 ≤ n) × (u ≡ numeral n ++ v) × (Digit (next v) → ⊥)
      go (Number (pos n)) t u e h = let d = numeral_next n t in absurd (omega (arith, d.1, ap next e))
      go (Number (negsuc n)) t u e h = absurd (omega (arith, ap next e))
      go (Cell c k) t u e h = (c, shift_text k ++ t, omega arith, uncons 67 _ _ e ∙ append_assoc (numeral c) (shift_text k) t, shift_ends k t (ends_any (Cell c k) (next t) h))

  -- after the sign of a shift
  module _ (n : ℕ) {end : ℕ} (p : Spans s at (67 ∷ numeral n) end) where
    cell_next : (u : List ℕ) → next (67 ∷ (numeral n ++ u)) ≡ next (drop at s)
    cell_next u = sym (ap next p.said)

    whole : (d : Condition) (u : List ℕ) (b : ℕ) → next (drop end s) ≡ b → b < 256 → text d ≡ take (end + 1) s ++ u → text d ≡ take at s ++ (67 ∷ (numeral n ++ (b ∷ u)))
    whole d u b is small e = after_word (text d) (b ∷ u) p (after_word (text d) u (spans_byte s end b is small) e)

    pub digits_plus : next (drop end s) ≡ 43 → AwaitsDigits 0 s (end + 1)
    digits_plus is = record {
      comes = λ d u e m. let k = a.comes d (67 ∷ (numeral n ++ (43 ∷ u))) (whole d u 43 is (omega arith) e) (cell_next (43 ∷ u)) in go k.0 k.1 u k.2 k.3;
      room = λ m h.
          let k = a.room (Cell n (Plus m)) in
          let q = spans_join p (spans_byte s end 43 is (omega arith)) in
          (k.0, k.1, k.2 ∙ ap (λ l. take at s ++ l) (tidy m k.1) ∙ sym (append_assoc (take at s) ((67 ∷ numeral n) ++ (43 ∷ [])) (numeral m ++ k.1)) ∙ ap (λ l. l ++ (numeral m ++ k.1)) (sym (spans_take q)));
    }
      where
        tidy : (m : ℕ) (t : List ℕ) → 67 ∷ ((numeral n ++ (43 ∷ numeral m)) ++ t) ≡ ((67 ∷ numeral n) ++ (43 ∷ [])) ++ (numeral m ++ t)
        tidy m t = simp append_assoc

        go : (x : Side) (t u : List ℕ) → 67 ∷ (numeral n ++ (43 ∷ u)) ≡ side_text x ++ t → EndsShift Bare (next t) → (m : ℕ) × (v : List ℕ) × (0 ≤ m) × (u ≡ numeral m ++ v) × (Digit (next v) → ⊥)
        go (Number (pos m)) t u e h = let d = numeral_next m t in absurd (omega (arith, d.1, ap next e))
        go (Number (negsuc m)) t u e h = absurd (omega (arith, ap next e))
        go (Cell c k) t u e h =
            let i = numeral_unique n c (43 ∷ u) (shift_text k ++ t) (λ d. omega (arith, d.0)) (shift_ends k t (ends_any (Cell c k) (next t) h)) (uncons 67 _ _ e ∙ append_assoc (numeral c) (shift_text k) t) in
            sign k i.1
          where
            sign : (k : Shift) → 43 ∷ u ≡ shift_text k ++ t → (m : ℕ) × (v : List ℕ) × (0 ≤ m) × (u ≡ numeral m ++ v) × (Digit (next v) → ⊥)
            sign Bare e = absurd (h.1 (sym (ap next e)))
            sign (Plus m) e = (m, t, omega arith, uncons 43 _ _ e, h.0)
            sign (Minus m) e = absurd (omega (arith, ap next e))

    pub digits_minus : next (drop end s) ≡ 45 → AwaitsDigits 0 s (end + 1)
    digits_minus is = record {
      comes = λ d u e m. let k = a.comes d (67 ∷ (numeral n ++ (45 ∷ u))) (whole d u 45 is (omega arith) e) (cell_next (45 ∷ u)) in go k.0 k.1 u k.2 k.3;
      room = λ m h.
          let k = a.room (Cell n (Minus m)) in
          let q = spans_join p (spans_byte s end 45 is (omega arith)) in
          (k.0, k.1, k.2 ∙ ap (λ l. take at s ++ l) (tidy m k.1) ∙ sym (append_assoc (take at s) ((67 ∷ numeral n) ++ (45 ∷ [])) (numeral m ++ k.1)) ∙ ap (λ l. l ++ (numeral m ++ k.1)) (sym (spans_take q)));
    }
      where
        tidy : (m : ℕ) (t : List ℕ) → 67 ∷ ((numeral n ++ (45 ∷ numeral m)) ++ t) ≡ ((67 ∷ numeral n) ++ (45 ∷ [])) ++ (numeral m ++ t)
        tidy m t = simp append_assoc

        go : (x : Side) (t u : List ℕ) → 67 ∷ (numeral n ++ (45 ∷ u)) ≡ side_text x ++ t → EndsShift Bare (next t) → (m : ℕ) × (v : List ℕ) × (0 ≤ m) × (u ≡ numeral m ++ v) × (Digit (next v) → ⊥)
        go (Number (pos m)) t u e h = let d = numeral_next m t in absurd (omega (arith, d.1, ap next e))
        go (Number (negsuc m)) t u e h = absurd (omega (arith, ap next e))
        go (Cell c k) t u e h =
            let i = numeral_unique n c (45 ∷ u) (shift_text k ++ t) (λ d. omega (arith, d.0)) (shift_ends k t (ends_any (Cell c k) (next t) h)) (uncons 67 _ _ e ∙ append_assoc (numeral c) (shift_text k) t) in
            sign k i.1
          where
            sign : (k : Shift) → 45 ∷ u ≡ shift_text k ++ t → (m : ℕ) × (v : List ℕ) × (0 ≤ m) × (u ≡ numeral m ++ v) × (Digit (next v) → ⊥)
            sign Bare e = absurd (h.2 (sym (ap next e)))
            sign (Plus m) e = absurd (omega (arith, ap next e))
            sign (Minus m) e = (m, t, omega arith, uncons 45 _ _ e, h.0)

-- where digits are awaited: no digit
pub digits_outside : {low : ℕ} {s : List ℕ} {at : ℕ} → AwaitsDigits low s at → at ≤ length s → (Digit (next (drop at s)) → ⊥) → Outside s at
digits_outside {low} {s} {at} a within f = record {
  within = within;
  begins = let k = a.room (low + 1) (omega arith) in record { formula = k.0; rest = numeral (low + 1) ++ k.1; writes = k.2 };
  none = λ d u e n. let k = a.comes d u e n in f (subst Digit (ap next (sym k.3) ∙ n) (numeral_next k.0 k.1));
}

-- a 0 where none can begin
pub zero_outside : {s : List ℕ} {at : ℕ} → AwaitsDigits 1 s at → at ≤ length s → next (drop at s) ≡ 48 → Outside s at
zero_outside {s} {at} a within is = record {
  within = within;
  begins = let k = a.room 1 (omega arith) in record { formula = k.0; rest = numeral 1 ++ k.1; writes = k.2 };
  none = λ d u e n. let k = a.comes d u e n in let z = numeral_first k.0 k.1 k.2 in omega (arith, ap next k.3, n, is);
}

-- a digit after a leading 0
pub leading_outside : {s : List ℕ} {at end : ℕ} → AwaitsDigits 0 s at → Spans s at (numeral 0) end → Digit (next (drop end s)) → Outside s end
leading_outside {s} {at} {end} a p f = record {
  within = p.within;
  begins = let k = a.room 0 (omega arith) in record { formula = k.0; rest = k.1; writes = k.2 ∙ sym (append_assoc (take at s) (numeral 0) k.1) ∙ ap (λ l. l ++ k.1) (sym (spans_take p)) };
  none = λ d u e n.
      let k = a.comes d (numeral 0 ++ u) (after_word (text d) u p e) (word_next u p n) in
      let z = zero_only k.0 k.1 u (sym k.3 ∙ ap (λ l. l ++ u) numeral_zero) in
      k.4 (subst Digit (sym n ∙ ap next (sym z.1)) f);
}

-- digits above the limit
pub digits_large : {low cells n : ℕ} {s : List ℕ} {at end : ℕ} → AwaitsDigits low s at → Spans s at (numeral n) end → low ≤ n → 1000000 < n → NoDigitBefore s at → TooLarge cells s at
digits_large {low} {cells} {n} {s} {at} {end} a p ge big fresh =
    let k = a.room n ge in
    record {
      token = numeral n;
      large = digits big fresh;
      stands = p.said ∙ ap (λ i. numeral n ++ drop i s) p.upto;
      begins = record { formula = k.0; rest = k.1; writes = k.2 ∙ sym (append_assoc (take at s) (numeral n) k.1) ∙ ap (λ l. l ++ k.1) (sym (spans_take p) ∙ ap (λ i. take i s) p.upto) };
    }

pub negative_large : {cells n : ℕ} {s : List ℕ} {at end : ℕ} → AwaitsDigits 1 s (at + 1) → Spans s at (45 ∷ numeral n) end → Spans s (at + 1) (numeral n) end → 1000000 < n → NoDigitBefore s at → TooLarge cells s at
negative_large {cells} {n} {s} {at} {end} a p q big fresh =
    let k = a.room n (omega arith) in
    record {
      token = 45 ∷ numeral n;
      large = negative big fresh;
      stands = p.said ∙ ap (λ i. 45 ∷ (numeral n ++ drop i s)) p.upto;
      begins = record { formula = k.0; rest = k.1; writes = k.2 ∙ sym (append_assoc (take (at + 1) s) (numeral n) k.1) ∙ ap (λ l. l ++ k.1) (sym (spans_take q) ∙ ap (λ i. take i s) p.upto) };
    }

pub cell_large : {cells n : ℕ} {s : List ℕ} {at end : ℕ} → AwaitsDigits 0 s (at + 1) → Spans s at (67 ∷ numeral n) end → Spans s (at + 1) (numeral n) end → cells ≤ n → TooLarge cells s at
cell_large {cells} {n} {s} {at} {end} a p q missing =
    let k = a.room n (omega arith) in
    record {
      token = 67 ∷ numeral n;
      large = cell missing;
      stands = p.said ∙ ap (λ i. 67 ∷ (numeral n ++ drop i s)) p.upto;
      begins = record { formula = k.0; rest = k.1; writes = k.2 ∙ sym (append_assoc (take (at + 1) s) (numeral n) k.1) ∙ ap (λ l. l ++ k.1) (sym (spans_take q) ∙ ap (λ i. take i s) p.upto) };
    }
