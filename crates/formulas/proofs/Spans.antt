-- Words that stand in a text, one after another. Assumes nothing.
use Rattle.std.proofs.Common.{◌≡◌, ℕ, suc, ◌+◌, ◌-◌, ◌<◌, ◌≤◌, List, [], ◌∷◌, ◌++◌, length, get_or, take, drop, sym, refl, ap, ◌∙◌, subst, ⊎_elim, append_assoc, arith, length-append, length-drop, take-append-drop}
use Rattle.std.proofs.lemmas.List.{take_at, drop_at, drop-drop, drop_more, drop_all, drop-take, take-take, length-take-le}
use Rattle.std.proofs.lemmas.Bool.{cases_lt, cases_eq}
use Rattle.std.specs.List.{AllByRecursion}
use Rattle.formulas.specs.Faults.{next, Digit}
use Rattle.formulas.specs.Reading.{Spans}
use Rattle.formulas.proofs.Numerals.{AllDigits}

pub next_at : (s : List ℕ) (at : ℕ) → at < length s → next (drop at s) ≡ get_or s at 0
next_at s at lt = ap next (drop_more s at 0 lt)

pub next_end : (s : List ℕ) (at : ℕ) → length s ≤ at → next (drop at s) ≡ 256
next_end s at le = ap next (drop_all at s le)

-- a byte that is seen is there
pub there : (s : List ℕ) (at b : ℕ) → next (drop at s) ≡ b → b < 256 → at < length s
there s at b e small = ⊎_elim (λ lt. lt) (λ le. absurd (omega (arith, next_end s at le))) (cases_lt at (length s))

pub spans_byte : (s : List ℕ) (at b : ℕ) → next (drop at s) ≡ b → b < 256 → Spans s at (b ∷ []) (at + 1)
spans_byte s at b e small =
    let lt = there s at b e small in
    record { upto = refl; within = omega arith; said = drop_more s at 0 lt ∙ ap (λ x. x ∷ drop (at + 1) s) (sym (next_at s at lt) ∙ e) }

pub spans_next : {s w : List ℕ} {at end b : ℕ} → Spans s at (b ∷ w) end → next (drop at s) ≡ b
spans_next p = ap next p.said

pub spans_join : {s v w : List ℕ} {at mid end : ℕ} → Spans s at v mid → Spans s mid w end → Spans s at (v ++ w) end
spans_join {s} {v} {w} {at} {mid} {end} p q =
    record {
      upto = omega (arith, p.upto, q.upto, length-append v w);
      within = q.within;
      said = p.said ∙ ap (λ l. v ++ l) q.said ∙ sym (append_assoc v w (drop end s));
    }

pub spans_split : (v w : List ℕ) {s : List ℕ} {at end : ℕ} → Spans s at (v ++ w) end → Spans s at v (at + length v) × Spans s (at + length v) w end
spans_split v w {s} {at} {end} p =
    let e : drop (at + length v) s ≡ w ++ drop end s =
    sym (drop-drop (length v) at s) ∙ ap (drop (length v)) (p.said ∙ append_assoc v w (drop end s)) ∙ drop_at v (w ++ drop end s) (length v) refl in
    let l = length-append v w in (
      record { upto = refl; within = omega (arith, p.upto, p.within); said = p.said ∙ append_assoc v w (drop end s) ∙ ap (λ x. v ++ x) (sym e) },
      record { upto = omega (arith, p.upto); within = p.within; said = e },
    )

-- the bytes up to the end of a word
pub spans_take : {s w : List ℕ} {at end : ℕ} → Spans s at w end → take end s ≡ take at s ++ w
spans_take {s} {w} {at} {end} p =
    let e : s ≡ (take at s ++ w) ++ drop end s = sym (take-append-drop at s) ∙ ap (λ l. take at s ++ l) p.said ∙ sym (append_assoc (take at s) w (drop end s)) in
    let l : length (take at s ++ w) ≡ end = length-append (take at s) w ∙ omega (arith, length-take-le at s (omega (arith, p.upto, p.within)), p.upto) in
    ap (take end) e ∙ take_at (take at s ++ w) (drop end s) end l

-- what follows the first `at` bytes, if what follows the word is u
pub after_word : {s w : List ℕ} {at end : ℕ} (d u : List ℕ) → Spans s at w end → d ≡ take end s ++ u → d ≡ take at s ++ (w ++ u)
after_word {s} {w} {at} d u p e = e ∙ ap (λ l. l ++ u) (spans_take p) ∙ append_assoc (take at s) w u

pub same_next : (w t u : List ℕ) → next t ≡ next u → next (w ++ t) ≡ next (w ++ u)
same_next [] t u e = e
same_next (b ∷ w) t u e = refl

-- the byte after the first `at`, if the one after the word is the text's
pub word_next : {s w : List ℕ} {at end : ℕ} (u : List ℕ) → Spans s at w end → next u ≡ next (drop end s) → next (w ++ u) ≡ next (drop at s)
word_next {s} {w} {at} {end} u p e = same_next w u (drop end s) e ∙ ap next (sym p.said)

ahead : (m : ℕ) (l r : List ℕ) → 0 < length l → next (take (suc m) l ++ r) ≡ next l
ahead m [] r h = absurd (omega arith)
ahead m (b ∷ l) r h = refl

-- a text that goes on past k as s does
pub step_back : (s d rest : List ℕ) (k j : ℕ) → k < j → j ≤ length s → d ≡ take j s ++ rest → (u : List ℕ) × (d ≡ take k s ++ u) × (next u ≡ next (drop k s))
step_back s d rest k j lt le e =
    let m = j - suc k in
    let is : k + suc (j - suc k) ≡ j = omega arith in
    let cut : take j s ≡ take k s ++ take (suc (j - suc k)) (drop k s) =
    sym (take-append-drop k (take j s)) ∙ ap (λ l. l ++ drop k (take j s)) (take-take k j s (omega arith))
    ∙ ap (λ l. take k s ++ l) (ap (λ n. drop k (take n s)) (sym is) ∙ drop-take k (suc (j - suc k)) s) in (
      take (suc (j - suc k)) (drop k s) ++ rest,
      e ∙ ap (λ l. l ++ rest) cut ∙ append_assoc (take k s) (take (suc (j - suc k)) (drop k s)) rest,
      ahead (j - suc k) (drop k s) rest (omega (arith, length-drop k s)),
    )

-- each byte of a word
pub spans_each : (P : ℕ → Type 0) (w : List ℕ) {s : List ℕ} {at end : ℕ} → AllByRecursion P w → Spans s at w end → (i : ℕ) → at ≤ i → i < end → P (next (drop i s))
spans_each P [] a p i low high = absurd (omega (arith, p.upto))
spans_each P (b ∷ w) {s} {at} {end} a p i low high =
    let q = spans_split (b ∷ []) w p in
    ⊎_elim
    (λ e. subst P (sym (ap (λ n. next (drop n s)) (sym e) ∙ spans_next p)) a.0)
    (λ ne. spans_each P w a.1 q.1 i (omega arith) high)
    (cases_eq at i)

pub spans_digits : (w : List ℕ) {s : List ℕ} {at end : ℕ} → AllDigits w → Spans s at w end → (i : ℕ) → at ≤ i → i < end → Digit (next (drop i s))
spans_digits w a p i low high = spans_each Digit w a p i low high
