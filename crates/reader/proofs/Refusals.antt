-- Faults of a side and of an opening word as they are returned. Assumes nothing.
use Rattle.std.proofs.Common.{◌≡◌, ℕ, suc, ◌+◌, ◌-◌, ◌<◌, ◌≤◌, ◌⊎◌, List, [], ◌∷◌, ◌++◌, drop, ℤ, pos, negsuc, ◌-ℤ◌, IsErrAnd, Ok, Err, Result, sym, ap, ◌∙◌, subst, ⊎_elim, arith, w32, to_z, of_z, MatchResult}
use Rattle.formulas.specs.declared.fault.Flaw.{Flaw}
use Rattle.formulas.specs.declared.fault.FormulaFault.{FormulaFault}
use Rattle.std.proofs.lemmas.Int.{ints}
use Rattle.std.proofs.lemmas.Bool.{cases_eq}
use Rattle.formulas.specs.Tree.{numeral, number_text, KnownNumber}
use Rattle.formulas.specs.Faults.{next, Digit, Outside, First}
use Rattle.formulas.specs.Reading.{Spans, Clear}
use Rattle.formulas.proofs.Numerals.{numeral_zero, numeral_next, numeral_first, numeral_prefix}
use Rattle.formulas.proofs.Spans.{spans_byte, spans_join, spans_split}
use Rattle.formulas.proofs.Clears.{clear_digits, clear_letter, clear_sign, last_digit}
use Rattle.formulas.proofs.Firsts.{first_grammar}
use Rattle.reader.specs.Read.{outside, FirstOf}

-- the exit of a `?` returns the fault as it was
pub out_as : {T E : Type 0} (r : Result T E) (P : T → Type 0) (Q : E → Type 0) (e : E) → IsErrAnd r (λ y. y ≡ e) → Q e → MatchResult r P Q
out_as (Ok x) P Q e b q = absurd b
out_as (Err y) P Q e b q = subst Q (sym b) q

-- a byte outside the grammar is the first fault where nothing is wrong before it
pub refuses : {cells : ℕ} {s : List ℕ} (k : ℕ) (e : FormulaFault) → e ≡ outside k → Outside s k → Clear cells s k → FirstOf cells s e
refuses {cells} {s} k e is o c = subst (FirstOf cells s) (sym is) (first_grammar o c)

-- a fault that is returned, told by its parts
pub told : {cells : ℕ} {s : List ℕ} {f : Flaw} {k : ℕ} {e : FormulaFault} → e ≡ record { flaw = f; offset = k } → First cells s f k → FirstOf cells s e
told {cells} {s} is h = subst (FirstOf cells s) (sym is) h

-- digits that are within the limit, with no digit after them unless they are a 0
pub zero_of : (n : ℕ) {b : ℕ} → n ≤ 1000000 → (n ≤ 1000000 → (Digit b → ⊥) ⊎ (n ≡ 0)) → Digit b → n ≡ 0
zero_of n h f d = ⊎_elim (λ g. absurd (g d)) (λ z. z) (f h)

pub ended : (n : ℕ) {b : ℕ} → n ≤ 1000000 → (n ≤ 1000000 → (Digit b → ⊥) ⊎ (n ≡ 0)) → (n ≡ 0 → ⊥) → Digit b → ⊥
ended n h f ne d = ne (zero_of n h f d)

-- no digit stands there
pub no_digits : (s : List ℕ) (at : ℕ) → (Digit (next (drop at s)) → ⊥) → (m : ℕ) (t : List ℕ) → drop at s ≡ numeral m ++ t → ⊥
no_digits s at f m t e = f (subst (λ l. Digit (next l)) (sym e) (numeral_next m t))

-- a 0 stands there
pub zero_stands : (s : List ℕ) (at : ℕ) → next (drop at s) ≡ 48 → (m : ℕ) (t : List ℕ) → drop at s ≡ numeral m ++ t → m ≡ 0
zero_stands s at z m t e =
    ⊎_elim (λ q. q) (λ ne. let f = numeral_first m t (omega arith) in absurd (omega (arith, ap next e))) (cases_eq m 0)

pub nonzero : {s : List ℕ} {at end : ℕ} (n : ℕ) → Spans s at (numeral n) end → (next (drop at s) ≡ 48 → ⊥) → 0 < n
nonzero {s} {at} {end} n p f =
    ⊎_elim (λ z. absurd (f (ap next p.said ∙ ap (λ i. next (numeral i ++ drop end s)) z ∙ ap (λ l. next (l ++ drop end s)) numeral_zero))) (λ ne. omega arith) (cases_eq n 0)

-- a negated number
pub negated : (n : ℕ) → 0 < n → n ≤ 1000000 → to_z w32 (of_z w32 (pos 0 -ℤ to_z w32 n)) ≡ negsuc (n - 1)
negated n h k = omega (arith, ints)

pub negative_text : {s : List ℕ} {at end : ℕ} (n : ℕ) (z : ℤ) → 0 < n → n ≤ 1000000 → z ≡ negsuc (n - 1) → next (drop at s) ≡ 45 → Spans s (at + 1) (numeral n) end → Spans s at (number_text z) end × KnownNumber z
negative_text {s} {at} {end} n z h k e minus p =
    let is : suc (n - 1) ≡ n = omega arith in (
      subst (λ x. Spans s at (number_text x) end) (sym e) (subst (λ m. Spans s at (45 ∷ numeral m) end) (sym is) (spans_join (spans_byte s at 45 minus (omega arith)) p)),
      subst KnownNumber (sym e) (omega arith),
    )

-- after the sign of a shift
pub sign_clear : {cells : ℕ} {s : List ℕ} {from at : ℕ} (n b : ℕ) → Spans s from (67 ∷ numeral n) at → next (drop at s) ≡ b → (b ≡ 43) ⊎ (b ≡ 45) → Clear cells s at → Clear cells s (at + 1)
sign_clear n b p e is c = let l = last_digit n (spans_split (67 ∷ []) (numeral n) p).1 in clear_sign b l.0 c e is l.1 l.2

-- a cell that is there
pub cell_clear : {cells : ℕ} {s : List ℕ} {at after : ℕ} (n : ℕ) → cells ≤ 1000000 → next (drop at s) ≡ 67 → Spans s (at + 1) (numeral n) after → n < cells → (Digit (next (drop after s)) → ⊥) ⊎ (n ≡ 0) → Clear cells s at → Clear cells s after
cell_clear {cells} {s} {at} {after} n many e p known stop c =
    clear_digits p (omega arith) stop (clear_letter c e (λ m t x. omega (arith, numeral_prefix m n t (drop after s) stop (sym x ∙ p.said))))
