-- Digits without a leading zero: what they begin with, that they stand for one number, and one more digit. Assumes nothing.
use Rattle.std.proofs.Common.{◌≡◌, ℕ, ◌+◌, ◌-◌, ◌*◌, ◌/◌, ◌%◌, ◌<◌, ◌≤◌, Bool, false, cond, eqb, ◌⊎◌, List, [], ◌∷◌, ◌++◌, map, get_or, sym, refl, ap, ◌∙◌, subst, inl, ⊎_elim, arith, ne_eqb}
use mathlib.Core.List.{map-append}
use Rattle.std.specs.List.{AllByRecursion}
use Rattle.std.specs.Int.Digits.{digits_of, number_from_digits, number_from_digits_after}
use Rattle.std.proofs.lemmas.Int.Digits.{digits_of_step, all_below_base_digits_of, first_digits_of, number_digits_of, number_after_append, number_after_ge}
use Rattle.std.proofs.lemmas.List.{append_cancel_left}
use Rattle.std.proofs.lemmas.Bool.{cases_eq}
use Rattle.formulas.specs.Tree.{numeral}
use Rattle.formulas.specs.Faults.{next, Digit}

pub positive : (n : ℕ) → 0 < n → numeral n ≡ map (λ d. 48 + d) (digits_of 10 n)
unfolding numeral
positive n h = let e : eqb n 0 ≡ false = ne_eqb n 0 (omega arith) in ap (λ (b : Bool). cond b (48 ∷ []) (map (λ d. 48 + d) (digits_of 10 n))) e

pub numeral_zero : numeral 0 ≡ 48 ∷ []
unfolding numeral
numeral_zero = refl

-- one more digit
pub numeral_push : (v d : ℕ) → 0 < v → d < 10 → numeral (v * 10 + d) ≡ numeral v ++ ((48 + d) ∷ [])
numeral_push v d pos h =
    let q : (v * 10 + d) / 10 ≡ v = omega arith in
    let r : (v * 10 + d) % 10 ≡ d = omega arith in
    positive (v * 10 + d) (omega arith)
    ∙ ap (map (λ d. 48 + d)) (digits_of_step 10 (v * 10 + d) (omega arith) (omega arith))
    ∙ rw (q, r) (map-append (λ d. 48 + d) (digits_of 10 v) (d ∷ []))
    ∙ ap (λ l. l ++ ((48 + d) ∷ [])) (sym (positive v pos))

-- a single digit
pub numeral_one : (d : ℕ) → d < 10 → 0 < d → numeral d ≡ (48 + d) ∷ []
numeral_one d h pos =
    let q : d / 10 ≡ 0 = omega arith in
    let r : d % 10 ≡ d = omega arith in
    let e : digits_of 10 d ≡ d ∷ [] = digits_of_step 10 d (omega arith) pos ∙ rw (q, r) refl in
    positive d pos ∙ ap (map (λ d. 48 + d)) e

-- each byte is a digit
abbrev pub AllDigits : List ℕ → Type 0
AllDigits s = AllByRecursion Digit s

shifts : (ds : List ℕ) → AllByRecursion (λ d. d < 10) ds → AllDigits (map (λ d. 48 + d) ds)
shifts [] h = tt
shifts (d ∷ ds) h = ((omega arith, omega (arith, h.0)), shifts ds h.1)

pub digits_numeral : (n : ℕ) → AllDigits (numeral n)
digits_numeral n =
    ⊎_elim (λ z. subst (λ m. AllDigits (numeral m)) (sym z) (subst AllDigits (sym numeral_zero) ((omega arith, omega arith), tt)))
    (λ p. subst AllDigits (sym (positive n (omega arith))) (shifts (digits_of 10 n) (all_below_base_digits_of 10 n (omega arith))))
    (cases_eq n 0)

-- the first digit is 0 only of 0
above : (ds : List ℕ) → 0 < get_or ds 0 0 → (t : List ℕ) → 48 < next (map (λ d. 48 + d) ds ++ t)
above [] h t = absurd (omega arith)
above (d ∷ ds) h t = omega arith

pub numeral_first : (n : ℕ) (t : List ℕ) → 0 < n → 48 < next (numeral n ++ t)
numeral_first n t h = subst (λ l. 48 < next (l ++ t)) (sym (positive n h)) (above (digits_of 10 n) (first_digits_of 10 n (omega arith) h) t)

pub numeral_next : (n : ℕ) (t : List ℕ) → Digit (next (numeral n ++ t))
numeral_next n t = go (numeral n) (digits_numeral n) some
  where
    some : numeral n ≡ [] → ⊥
    some e = ⊎_elim
        (λ z. let f : [] ≡ 48 ∷ [] = sym e ∙ ap numeral z ∙ numeral_zero in let q : 256 ≡ 48 = ap next f in omega arith)
        (λ p. let f = first_digits_of 10 n (omega arith) (omega arith) in
        let g : map (λ d. 48 + d) (digits_of 10 n) ≡ [] = sym (positive n (omega arith)) ∙ e in gone (digits_of 10 n) f g)
        (cases_eq n 0)
      where
        gone : (ds : List ℕ) → 0 < get_or ds 0 0 → map (λ d. 48 + d) ds ≡ [] → ⊥
        gone [] h g = omega arith
        gone (d ∷ ds) h g = let z : ◌≡◌ {A = ℕ} 0 1 = cc in omega arith

    go : (ds : List ℕ) → AllDigits ds → (ds ≡ [] → ⊥) → Digit (next (ds ++ t))
    go [] a ne = absurd (ne refl)
    go (d ∷ ds) a ne = a.0

-- a run of digits that another run begins with
pub prefix : (a b t u : List ℕ) → AllDigits a → AllDigits b → (Digit (next u) → ⊥) → a ++ t ≡ b ++ u → (w : List ℕ) × (b ≡ a ++ w) × (t ≡ w ++ u)
prefix [] b t u p q g e = (b, refl, e)
prefix (x ∷ a) [] t u p q g e = absurd (g (subst Digit (ap next e) p.0))
prefix (x ∷ a) (y ∷ b) t u p q g e =
    let h : x ≡ y = ap next e in
    let r : a ++ t ≡ b ++ u = cc in
    let i = prefix a b t u p.1 q.1 g r in
    (i.0, (λ k. sym h k ∷ i.1 k), i.2)

undo : (ds : List ℕ) → map (λ b. b - 48) (map (λ d. 48 + d) ds) ≡ ds
undo [] = refl
undo (d ∷ ds) = let e : 48 + d - 48 ≡ d = omega arith in let r = undo ds in λ k. e k ∷ r k

-- fewer digits, a smaller number
pub numeral_prefix : (m n : ℕ) (t u : List ℕ) → ((Digit (next u) → ⊥) ⊎ (n ≡ 0)) → numeral m ++ t ≡ numeral n ++ u → m ≤ n
numeral_prefix m n t u stop e = ⊎_elim (λ z. omega arith) (λ pm. ⊎_elim (λ z. zero_case z pm) (λ pn. ⊎_elim (λ g. positive_case (omega arith) (omega arith) g) (λ z. zero_case z pm) stop) (cases_eq n 0)) (cases_eq m 0)
  where
    zero_case : n ≡ 0 → (m ≡ 0 → ⊥) → m ≤ n
    zero_case z pm =
        let a = numeral_first m t (omega arith) in
        let b : next (numeral n ++ u) ≡ 48 = ap (λ i. next (numeral i ++ u)) z ∙ ap (λ l. next (l ++ u)) numeral_zero in
        absurd (omega (arith, ap next e))

    positive_case : 0 < m → 0 < n → (Digit (next u) → ⊥) → m ≤ n
    positive_case pm pn g =
        let i = prefix (numeral m) (numeral n) t u (digits_numeral m) (digits_numeral n) g e in
        let d : digits_of 10 n ≡ digits_of 10 m ++ map (λ b. b - 48) i.0 =
        sym (undo (digits_of 10 n)) ∙ ap (map (λ b. b - 48)) (sym (positive n pn) ∙ i.1 ∙ ap (λ l. l ++ i.0) (positive m pm))
        ∙ map-append (λ b. b - 48) (map (λ d. 48 + d) (digits_of 10 m)) i.0 ∙ ap (λ l. l ++ map (λ b. b - 48) i.0) (undo (digits_of 10 m)) in
        let v : n ≡ number_from_digits_after 10 m (map (λ b. b - 48) i.0) =
        sym (number_digits_of 10 n (omega arith)) ∙ ap (number_from_digits 10) d ∙ number_after_append 10 0 (digits_of 10 m) (map (λ b. b - 48) i.0)
        ∙ ap (λ x. number_from_digits_after 10 x (map (λ b. b - 48) i.0)) (number_digits_of 10 m (omega arith)) in
        omega (arith, v, number_after_ge 10 m (map (λ b. b - 48) i.0) (omega arith))

-- the digits of one number only
pub numeral_unique : (m n : ℕ) (t u : List ℕ) → (Digit (next t) → ⊥) → (Digit (next u) → ⊥) → numeral m ++ t ≡ numeral n ++ u → (m ≡ n) × (t ≡ u)
numeral_unique m n t u f g e =
    let le = numeral_prefix m n t u (inl g) e in
    let ge = numeral_prefix n m u t (inl f) (sym e) in
    let same : m ≡ n = omega arith in
    (same, append_cancel_left (numeral n) t u (ap (λ i. numeral i ++ t) (sym same) ∙ e))

-- a 0 begins the digits of 0 only
pub zero_only : (n : ℕ) (t u : List ℕ) → numeral n ++ t ≡ 48 ∷ u → (n ≡ 0) × (t ≡ u)
zero_only n t u e = ⊎_elim
    (λ z. let f : 48 ∷ t ≡ 48 ∷ u = ap (λ l. l ++ t) (sym numeral_zero) ∙ ap (λ i. numeral i ++ t) (sym z) ∙ e in (z, cc))
    (λ p. let a = numeral_first n t (omega arith) in absurd (omega (arith, ap next e)))
    (cases_eq n 0)
