-- What comes next decides the fault. Assumes nothing.
use Rattle.std.proofs.Common.{◌≡◌, ℕ, ◌+◌, ◌*◌, ◌<◌, ◌≤◌, Bool, true, false, cond, ◌&&◌, ◌||◌, eqb, ltb, ◌≢◌, ◌⊎◌, List, [], ◌∷◌, ◌++◌, length, take, sym, refl, ap, ◌∙◌, subst, inl, inr, ⊎_elim, arith, length-append}
use Rattle.std.proofs.lemmas.List.{take_at}
use Rattle.std.proofs.lemmas.Bool.{cond-true, cond-false, eq-eqb, ne_eqb, eqb-true, lt-ltb, le-ltb, cases_Bool, and_parts, and_from, or_cases, or_left, both_ways}
use Rattle.formulas.specs.declared.fault.Flaw.{Flaw}
use Rattle.formulas.specs.Faults.{First}
use Rattle.formulas.proofs.Firsts.{first_unique}
use Rattle.sheets.specs.declared.fault.RuleFault.TheVariants.{List as ListFault, Rows as RowsFault, Formula as InFormula}
use Rattle.sheets.specs.declared.fault.LoadFault.{LoadFault}
use Rattle.sheets.specs.declared.fault.LoadFault.TheVariants.{Cut, Tag, Many, Rule}
use Rattle.sheets.specs.Sheet.{Sheet, RowsField}
use Rattle.sheets.specs.Reading.{Fits, cell, rows, formula, end, Full, Wrong, no_end, bad_tag, long_end, after_end, cut_head, cut_content, too_many, bad_list, bad_rows, bad_formula, RefusedWith}
use Rattle.sheets.proofs.Wrongs.{good_not_wrong}
use Rattle.sheets.proofs.Exact.{Compared, compared, same, first_longer, second_longer}

abbrev null : {X : Type 0} → List X → Bool
null [] = true
null (x ∷ xs) = false

null_true : {X : Type 0} (xs : List X) → null xs ≡ true → xs ≡ []
null_true [] e = refl
null_true (x ∷ xs) e = absurd (both_ways false refl e)

none_null : {X : Type 0} (xs : List X) → xs ≡ [] → null xs ≡ true
none_null xs e = ap null e

-- whether the tag fits, as a test
abbrev fits? : Sheet → ℕ → Bool
fits? s t = (eqb t 1 && (null s.rows && null s.formulas)) || ((eqb t 2 && null s.formulas) || (eqb t 3 || eqb t 4))

fits_true : (s : Sheet) (t : ℕ) → Fits s t → fits? s t ≡ true
fits_true s t (cell p q) = or_left (null s.rows && null s.formulas) false (and_from (null s.rows) (null s.formulas) (none_null s.rows p) (none_null s.formulas q))
fits_true s t (rows q) = or_left (null s.formulas) false (none_null s.formulas q)
fits_true s t formula = refl
fits_true s t end = refl

fits_from : (s : Sheet) (t : ℕ) → fits? s t ≡ true → Fits s t
fits_from s t e = ⊎_elim
    (λ a. let p = and_parts _ _ a in let q = and_parts _ _ p.1 in subst (Fits s) (sym (eqb-true t 1 p.0)) (cell (null_true s.rows q.0) (null_true s.formulas q.1)))
    (λ b. ⊎_elim
    (λ a. let p = and_parts _ _ a in subst (Fits s) (sym (eqb-true t 2 p.0)) (rows (null_true s.formulas p.1)))
    (λ c. ⊎_elim (λ a. subst (Fits s) (sym (eqb-true t 3 a)) formula) (λ a. subst (Fits s) (sym (eqb-true t 4 a)) end) (or_cases _ _ c))
    (or_cases _ _ b))
    (or_cases _ _ e)

fits_false : (s : Sheet) (t : ℕ) → (Fits s t → ⊥) → fits? s t ≡ false
fits_false s t n = ⊎_elim (λ e. absurd (n (fits_from s t e))) (λ e. e) (cases_Bool (fits? s t))

-- whether it would be one too many, as a test
abbrev full? : Sheet → ℕ → Bool
full? s t = cond (eqb t 1) (eqb (length s.lists) 64) (eqb (length s.rows + length s.formulas) 64)

full_true : (s : Sheet) (t : ℕ) → Full s t → full? s t ≡ true
full_true s t f = ⊎_elim
    (λ a. cond-true (eqb t 1) _ _ (eq-eqb t 1 a.0) ∙ eq-eqb (length s.lists) 64 a.1)
    (λ a. cond-false (eqb t 1) _ _ (ne_eqb t 1 a.0) ∙ eq-eqb (length s.rows + length s.formulas) 64 a.1) f

full_false : (s : Sheet) (t : ℕ) → (Full s t → ⊥) → full? s t ≡ false
full_false s t n = ⊎_elim
    (λ one. cond-true (eqb t 1) _ _ one ∙ ne_eqb (length s.lists) 64 (λ e. n (inl (eqb-true t 1 one, e))))
    (λ other. cond-false (eqb t 1) _ _ other ∙ ne_eqb (length s.rows + length s.formulas) 64 (λ e. n (inr ((λ z. both_ways (eqb t 1) other (eq-eqb t 1 z)), e))))
    (cases_Bool (eqb t 1))

-- a fault that the bytes alone decide, or content of a tag to look at
data Outcome : Type 0 where
  fixed : LoadFault → Outcome
  content : ℕ → List ℕ → Outcome

abbrev ending : ℕ → List ℕ → Outcome
ending k [] = content 4 []
ending k (b ∷ r) = fixed (Tag (k + 3))

abbrev headed : Sheet → ℕ → ℕ → List ℕ → Outcome
headed s k t [] = fixed (Cut k)
headed s k t (h ∷ []) = fixed (Cut k)
headed s k t (h ∷ l ∷ r) = cond (eqb t 4) (cond (eqb (h * 256 + l) 0) (ending k r) (fixed (Tag k)))
    (cond (ltb (length r) (h * 256 + l)) (fixed (Cut k)) (cond (full? s t) (fixed (Many k)) (content t (take (h * 256 + l) r))))

abbrev outcome : Sheet → ℕ → List ℕ → Outcome
outcome s k [] = fixed (Cut k)
outcome s k (t ∷ r) = cond (fits? s t) (headed s k t r) (fixed (Tag k))

-- the fault that goes with an outcome
abbrev Says : Sheet → ℕ → Outcome → LoadFault → Type 0
Says s k (fixed x) e = e ≡ x
Says s k (content t c) e = ((t ≡ 1) × (e ≡ Rule (ListFault k))) ⊎ (((t ≡ 2) × (e ≡ Rule (RowsFault k)))
    ⊎ ((t ≡ 3) × ((f : Flaw) × (j : ℕ) × First (length s.lists) c f j × (e ≡ Rule (InFormula (record { flaw = f; offset = k + 3 + j }))))))

says_unique : (s : Sheet) (k : ℕ) (o : Outcome) (e e' : LoadFault) → Says s k o e → Says s k o e' → e ≡ e'
says_unique s k (fixed x) e e' p q = p ∙ sym q
says_unique s k (content t c) e e' p q =
    ⊎_elim
    (λ a. ⊎_elim (λ b. a.1 ∙ sym b.1) (λ b. ⊎_elim (λ x. absurd (omega (arith, a.0, x.0))) (λ x. absurd (omega (arith, a.0, x.0))) b) q)
    (λ a. ⊎_elim
    (λ x. ⊎_elim (λ b. absurd (omega (arith, x.0, b.0))) (λ b. ⊎_elim (λ y. x.1 ∙ sym y.1) (λ y. absurd (omega (arith, x.0, y.0))) b) q)
    (λ x. ⊎_elim (λ b. absurd (omega (arith, x.0, b.0))) (λ b. ⊎_elim (λ y. absurd (omega (arith, x.0, y.0))) (λ y. formulas x y) b) q) a)
    p
  where
    formulas : (t ≡ 3) × ((f : Flaw) × (j : ℕ) × First (length s.lists) c f j × (e ≡ Rule (InFormula (record { flaw = f; offset = k + 3 + j }))))
        → (t ≡ 3) × ((f : Flaw) × (j : ℕ) × First (length s.lists) c f j × (e' ≡ Rule (InFormula (record { flaw = f; offset = k + 3 + j })))) → e ≡ e'
    formulas x y =
        let u = first_unique x.1.0 y.1.0 x.1.1 y.1.1 x.1.2 y.1.2 in
        x.1.3 ∙ (λ i. Rule (InFormula (record { flaw = u.0 i; offset = k + 3 + u.1 i }))) ∙ sym y.1.3

by : (s : Sheet) (k : ℕ) (e : LoadFault) (a b : Outcome) → a ≡ b → Says s k b e → Says s k a e
by s k e a b i h = subst (λ o. Says s k o e) (sym i) h

fitting : (s : Sheet) (k t : ℕ) (r : List ℕ) → Fits s t → outcome s k (t ∷ r) ≡ headed s k t r
fitting s k t r f = cond-true (fits? s t) _ _ (fits_true s t f)

whole : (s : Sheet) (k t h l : ℕ) (r : List ℕ) → t ≢ 4 → h * 256 + l ≤ length r → headed s k t (h ∷ l ∷ r) ≡ cond (full? s t) (fixed (Many k)) (content t (take (h * 256 + l) r))
whole s k t h l r ne le = cond-false (eqb t 4) _ _ (ne_eqb t 4 ne) ∙ cond-false (ltb (length r) (h * 256 + l)) _ _ (le-ltb (length r) (h * 256 + l) le)

looked_at : (s : Sheet) (k t h l : ℕ) (c r : List ℕ) → t ≢ 4 → Fits s t → (Full s t → ⊥) → length c ≡ h * 256 + l → outcome s k (t ∷ h ∷ l ∷ (c ++ r)) ≡ content t c
looked_at s k t h l c r ne f nf n =
    fitting s k t (h ∷ l ∷ (c ++ r)) f ∙ whole s k t h l (c ++ r) ne (omega (arith, length-append c r)) ∙ cond-false (full? s t) _ _ (full_false s t nf) ∙ ap (content t) (take_at c r (h * 256 + l) n)

wrong_says : (s : Sheet) (k : ℕ) (bs : List ℕ) (e : LoadFault) → Wrong s k bs e → Says s k (outcome s k bs) e
wrong_says s k bs e no_end = refl
wrong_says s k bs e (bad_tag {t = t} {r = r} n) = by s k e _ _ (cond-false (fits? s t) (headed s k t r) (fixed (Tag k)) (fits_false s t n)) refl
wrong_says s k bs e (long_end {h = h} {l = l} {r = r} n) = by s k e _ _ (fitting s k 4 (h ∷ l ∷ r) end ∙ cond-false (eqb (h * 256 + l) 0) (ending k r) (fixed (Tag k)) (ne_eqb (h * 256 + l) 0 n)) refl
wrong_says s k bs e (after_end {b = b} {r = r}) = by s k e _ _ (fitting s k 4 (0 ∷ 0 ∷ b ∷ r) end) refl
wrong_says s k bs e (cut_head {t = t} {r = r} f short) = by s k e _ _ (fitting s k t r f) (go r short)
  where
    go : (r : List ℕ) → length r < 2 → Says s k (headed s k t r) (Cut k)
    go [] h = refl
    go (x ∷ []) h = refl
    go (x ∷ y ∷ r) h = absurd (omega arith)
wrong_says s k bs e (cut_content {t = t} {h = h} {l = l} {r = r} f ne short) =
    by s k e _ _ (fitting s k t (h ∷ l ∷ r) f ∙ cond-false (eqb t 4) _ _ (ne_eqb t 4 ne) ∙ cond-true (ltb (length r) (h * 256 + l)) _ _ (lt-ltb (length r) (h * 256 + l) short)) refl
wrong_says s k bs e (too_many {t = t} {h = h} {l = l} {r = r} f ne room full) =
    by s k e _ _ (fitting s k t (h ∷ l ∷ r) f ∙ whole s k t h l r ne room ∙ cond-true (full? s t) _ _ (full_true s t full)) refl
wrong_says s k bs e (bad_list {h = h} {l = l} c r f nf n none) = by s k e _ _ (looked_at s k 1 h l c r (λ z. omega (arith, z)) f nf n) (inl (refl, refl))
wrong_says s k bs e (bad_rows {h = h} {l = l} c r f nf n none) = by s k e _ _ (looked_at s k 2 h l c r (λ z. omega (arith, z)) f nf n) (inr (inl (refl, refl)))
wrong_says s k bs e (bad_formula {h = h} {l = l} {j = j} {f = f} c r nf n first) = by s k e _ _ (looked_at s k 3 h l c r (λ z. omega (arith, z)) formula nf n) (inr (inr (refl, (f, j, first, refl))))

-- a file is refused with one fault only
pub refused_unique : (file : List ℕ) (e e' : LoadFault) → RefusedWith file e → RefusedWith file e' → e ≡ e'
refused_unique file e e' a b = go (compared a.before b.before a.good b.good _ _ (sym a.said ∙ b.said))
  where
    go : Compared a.before b.before a.good b.good _ _ (sym a.said ∙ b.said) → e ≡ e'
    go (same i j) =
        let w : Wrong b.before (length (Rattle.sheets.specs.Sheet.bytes_of b.before)) b.rest e =
        subst (λ r. Wrong b.before (length (Rattle.sheets.specs.Sheet.bytes_of b.before)) r e) j (subst (λ (s : Sheet). Wrong s (length (Rattle.sheets.specs.Sheet.bytes_of s)) a.rest e) i a.wrong) in
        says_unique b.before _ (outcome b.before _ b.rest) e e' (wrong_says b.before _ b.rest e w) (wrong_says b.before _ b.rest e' b.wrong)
    go (first_longer u f r x i) = absurd (good_not_wrong b.good.few_cells x r i b.wrong)
    go (second_longer u f r x i) = absurd (good_not_wrong a.good.few_cells x r i a.wrong)
