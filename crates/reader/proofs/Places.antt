-- Words read from place to place. Assumes nothing.
use Rattle.std.proofs.Common.{◌≡◌, ℕ, ◌+◌, ◌*◌, ◌<◌, ◌≤◌, Bool, true, false, Option, Some, None, is_some, MatchOption, List, [], ◌∷◌, ◌++◌, length, take, drop, sym, ap, ◌∙◌, subst, arith}
use Rattle.std.proofs.lemmas.Bool.{false≢true}
use Rattle.formulas.specs.declared.fault.FormulaFault.{FormulaFault}
use Rattle.formulas.specs.Faults.{next, Digit, First}
use Rattle.formulas.specs.Reading.{Spans, Clear}
use Rattle.formulas.specs.Tree.{numeral}
use Rattle.formulas.proofs.Spans.{spans_join, spans_next, spans_take}
use Rattle.formulas.proofs.Clears.{clear_minus, clear_letter}
use Rattle.formulas.proofs.Numerals.{numeral_zero, numeral_one, numeral_push}
use Rattle.reader.specs.declared.cursor.Text.{Text}
use Rattle.reader.specs.declared.cursor.Cursor.{Cursor}
use Rattle.reader.specs.Places.{ahead, behind, Reads, ClearTo, FirstIn}

-- what is read from a later place, in the text of the first
pub spans_in : {a b c : Cursor} {v w : List ℕ} → Reads a v b → Reads b w c → Spans a.text.now.bytes.now b.at w c.at
spans_in {b = b} {c = c} {w = w} p q = subst (λ (t : Text). Spans t.bytes.now b.at w c.at) p.text q.spans

pub ahead_in : {a b : Cursor} {w : List ℕ} → Reads a w b → ahead b ≡ next (drop b.at a.text.now.bytes.now)
ahead_in {b = b} p = ap (λ (t : Text). next (drop b.at t.bytes.now)) p.text

pub reads_join : {a b c : Cursor} {v w : List ℕ} → Reads a v b → Reads b w c → Reads a (v ++ w) c
reads_join p q = record { text = q.text ∙ p.text; spans = spans_join p.spans (spans_in p q) }

pub reads_ahead : {a b : Cursor} {w : List ℕ} {x : ℕ} → Reads a (x ∷ w) b → ahead a ≡ x
reads_ahead p = spans_next p.spans

-- what holds behind a word holds at the place that was read up to
pub moved : {a b : Cursor} {w : List ℕ} (P : Text → ℕ → Type 0) → Reads a w b → P a.text.now (a.at + length w) → P b.text.now b.at
moved {a} {b} P p h = subst (λ t. P t b.at) (sym p.text) (subst (P a.text.now) (sym p.spans.upto) h)

-- what holds in a text holds in the same text at a later place
pub on : {a b : Cursor} {w : List ℕ} (P : Text → Type 0) → Reads a w b → P a.text.now → P b.text.now
on P p h = subst P (sym p.text) h

pub behind_in : {a b : Cursor} {w : List ℕ} → Reads a w b → behind b ≡ behind a ++ w
behind_in {b = b} p = ap (λ (t : Text). take b.at t.bytes.now) p.text ∙ spans_take p.spans

-- nothing is wrong up to a place
pub clear_on : {a b : Cursor} {w : List ℕ} → Reads a w b → Clear a.text.now.cells a.text.now.bytes.now b.at → ClearTo b
clear_on {b = b} p h = subst (λ (t : Text). Clear t.cells t.bytes.now b.at) (sym p.text) h

-- the first fault of a text is the same at each place
pub first_in : {a b : Cursor} {w : List ℕ} {e : FormulaFault} → Reads a w b → FirstIn b e → FirstIn a e
first_in {e = e} p h = subst (λ (t : Text). First t.cells t.bytes.now e.flaw e.offset) p.text h

-- a word after a byte
pub spans_after : {a b c : Cursor} {w : List ℕ} {x : ℕ} → Reads a (x ∷ []) b → Reads b w c → Spans a.text.now.bytes.now (a.at + 1) w c.at
spans_after {a} {b} {c} {w} p q = subst (λ k. Spans a.text.now.bytes.now k w c.at) p.spans.upto (spans_in p q)

left_is : {a b : Cursor} {x : ℕ} → Reads a (x ∷ []) b → drop b.at b.text.now.bytes.now ≡ drop (a.at + 1) a.text.now.bytes.now
left_is {a} {b} p = ap (λ (t : Text). drop b.at t.bytes.now) p.text ∙ ap (λ k. drop k a.text.now.bytes.now) p.spans.upto

pub clear_minus_read : {a b : Cursor} → Reads a (45 ∷ []) b → ((m : ℕ) (t : List ℕ) → drop b.at b.text.now.bytes.now ≡ numeral m ++ t → m ≤ 1000000) → ClearTo a → ClearTo b
clear_minus_read p f c = moved (λ t k. Clear t.cells t.bytes.now k) p (clear_minus c (reads_ahead p) (λ m t e. f m t (left_is p ∙ e)))

pub clear_letter_read : {a b : Cursor} → Reads a (67 ∷ []) b → ((m : ℕ) (t : List ℕ) → drop b.at b.text.now.bytes.now ≡ numeral m ++ t → m < a.text.now.cells) → ClearTo a → ClearTo b
clear_letter_read p f c = moved (λ t k. Clear t.cells t.bytes.now k) p (clear_letter c (reads_ahead p) (λ m t e. f m t (left_is p ∙ e)))

-- digits read one by one
pub reads_zero : {a b : Cursor} {d : ℕ} → d ≡ 0 → Reads a ((48 + d) ∷ []) b → Reads a (numeral 0) b
reads_zero {a} {b} z r = subst (λ w. Reads a w b) (ap (λ x. (48 + x) ∷ []) z ∙ sym numeral_zero) r

pub reads_first : {a b : Cursor} {d : ℕ} → 0 < d → d ≤ 9 → Reads a ((48 + d) ∷ []) b → Reads a (numeral d) b
reads_first {a} {b} {d} some small r = subst (λ w. Reads a w b) (sym (numeral_one d (omega arith) some)) r

pub reads_digit : {a b c : Cursor} {v d : ℕ} → 0 < v → d ≤ 9 → Reads a (numeral v) b → Reads b ((48 + d) ∷ []) c → Reads a (numeral (v * 10 + d)) c
reads_digit {a} {b} {c} {v} {d} some small p q = subst (λ w. Reads a w c) (sym (numeral_push v d some (omega arith))) (reads_join p q)

-- whether a digit stands there, by `is_some`
pub some_digit : (a : Cursor) {r : Bool} (o : Option (ℕ × Cursor)) → r ≡ is_some o → r ≡ true → MatchOption o (Digit (ahead a) → ⊥) (λ d. (d.0 ≤ 9) × Reads a ((48 + d.0) ∷ []) d.1) → Digit (ahead a)
some_digit a None e f h = absurd (false≢true (sym e ∙ f))
some_digit a (Some d) e f h = let z = reads_ahead h.1 in (omega arith, omega (arith, h.0))

pub no_digit : (a : Cursor) {r : Bool} (o : Option (ℕ × Cursor)) → r ≡ is_some o → r ≡ false → MatchOption o (Digit (ahead a) → ⊥) (λ d. (d.0 ≤ 9) × Reads a ((48 + d.0) ∷ []) d.1) → Digit (ahead a) → ⊥
no_digit a None e f h = h
no_digit a (Some d) e f h = absurd (false≢true (sym f ∙ e))

-- whether a byte stands there, by `is_some`
pub some_byte : (a : Cursor) {r : Bool} (o : Option ℕ) → r ≡ is_some o → r ≡ true → MatchOption o (length a.text.now.bytes.now ≤ a.at) (λ b. (ahead a ≡ b) × (b < 256)) → ahead a < 256
some_byte a None e f h = absurd (false≢true (sym e ∙ f))
some_byte a (Some b) e f h = omega (arith, h.0, h.1)

pub no_byte : (a : Cursor) {r : Bool} (o : Option ℕ) → r ≡ is_some o → r ≡ false → MatchOption o (length a.text.now.bytes.now ≤ a.at) (λ b. (ahead a ≡ b) × (b < 256)) → length a.text.now.bytes.now ≤ a.at
no_byte a None e f h = h
no_byte a (Some b) e f h = absurd (false≢true (sym f ∙ e))
