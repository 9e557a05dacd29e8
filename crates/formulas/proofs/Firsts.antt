-- Which fault is the first, from what is known of the bytes before it. Assumes nothing.
use Rattle.std.proofs.Common.{◌≡◌, ℕ, ◌+◌, ◌<◌, ◌≤◌, List, [], ◌∷◌, ◌++◌, length, take, drop, sym, refl, ap, ◌∙◌, subst, inl, inr, ⊎_elim, append-nil, arith, length-append, length-drop, take-append-drop}
use Rattle.std.proofs.lemmas.Bool.{cases_lt, cases_eq}
use Rattle.formulas.specs.declared.fault.Flaw.{Flaw}
use Rattle.formulas.specs.declared.fault.Flaw.TheVariants.{Grammar, Level, Range, Cells}
use Rattle.formulas.specs.Tree.{Condition, text}
use Rattle.formulas.specs.Faults.{next, Begins, Outside, TooDeep, Oversize, cell, digits, negative, TooLarge, Miscounted, Fault, Precedes, First}
use Rattle.formulas.specs.declared.node.Shift.TheVariants.{Bare}
use Rattle.formulas.specs.Reading.{EndsShift, Clear}
use Rattle.formulas.proofs.Numerals.{numeral_next}
use Rattle.formulas.proofs.Unique.{SideFirst, unique, ends_condition}
use Rattle.formulas.proofs.Spans.{there, step_back}

-- a formula begins further on only before the byte that does not fit
pub outside_begins : (s : List ℕ) (k j : ℕ) → Outside s k → Begins (take j s) → j ≤ length s → j ≤ k
outside_begins s k j o b within =
    ⊎_elim
    (λ lt. let u = step_back s (text b.formula) b.rest k j lt within b.writes in absurd (o.none b.formula u.0 u.1 u.2))
    (λ le. le)
    (cases_lt k j)

pub deep_within : (s : List ℕ) (k : ℕ) → TooDeep s k → k ≤ length s
deep_within s k d = omega (arith, d.after, there s d.before 40 d.bracket (omega arith))

-- a token begins as a side does
pub token_first : {cells : ℕ} {s : List ℕ} {k : ℕ} {w : List ℕ} (r : List ℕ) → Oversize cells s k w → SideFirst (next (w ++ r))
token_first r (cell h) = inr (inr refl)
token_first r (digits {n = n} h f) = inl (numeral_next n r)
token_first r (negative h f) = inr (inl refl)

some : (w : List ℕ) → SideFirst (next (w ++ [])) → 0 < length w
some [] f = absurd (⊎_elim (λ d. omega (arith, d.1)) (λ g. ⊎_elim (λ e. omega (arith, e)) (λ e. omega (arith, e)) g) f)
some (b ∷ w) f = omega arith

module _ {cells : ℕ} {s : List ℕ} {k : ℕ} (t : TooLarge cells s k) where
  pub token_some : 0 < length t.token
  token_some = some t.token (token_first [] t.large)

  pub large_within : k + length t.token ≤ length s
  large_within =
      let l = ap length t.stands in
      let a = length-append t.token (drop (k + length t.token) s) in
      let b = length-drop (k + length t.token) s in
      let c = length-drop k s in
      let p = token_some in
      omega arith

  pub large_first : SideFirst (next (drop k s))
  large_first = subst (λ l. SideFirst (next l)) (sym t.stands) (token_first (drop (k + length t.token) s) t.large)

module _ {cells : ℕ} {s : List ℕ} where
  pub first_grammar : {k : ℕ} → Outside s k → Clear cells s k → First cells s Grammar k
  first_grammar {k} o c = record { here = o; first = go }
    where
      go : (g : Flaw) (j : ℕ) → Fault cells s g j → Precedes Grammar k g j
      go Grammar j f = outside_begins s j k f o.begins o.within
      go Level j f = c.deep j f
      go Range j f =
          let low = c.large j f in
          let high = outside_begins s k (j + length f.token) o f.begins (large_within f) in
          absurd (omega (arith, token_some f))
      go Cells j f = tt

  pub first_level : {k : ℕ} (d : TooDeep s k) → Clear cells s d.before → First cells s Level k
  first_level {k} d c = record { here = d; first = go }
    where
      go : (g : Flaw) (j : ℕ) → Fault cells s g j → Precedes Level k g j
      go Grammar j f = outside_begins s j k f d.begins (deep_within s k d)
      go Level j f = omega (arith, c.deep j f, d.after)
      go Range j f =
          ⊎_elim
          (λ e. let q : next (drop j s) ≡ 40 = ap (λ n. next (drop n s)) (sym e) ∙ d.bracket in
          absurd (⊎_elim (λ x. omega (arith, x.0)) (λ g. ⊎_elim (λ x. omega arith) (λ x. omega arith) g) (large_first f)))
          (λ ne. omega (arith, c.large j f, d.after))
          (cases_eq d.before j)
      go Cells j f = tt

  pub first_range : {k : ℕ} → TooLarge cells s k → Clear cells s k → First cells s Range k
  first_range {k} t c = record { here = t; first = go }
    where
      go : (g : Flaw) (j : ℕ) → Fault cells s g j → Precedes Range k g j
      go Grammar j f = omega (arith, outside_begins s j (k + length t.token) f t.begins (large_within t), token_some t)
      go Level j f = c.deep j f
      go Range j f = c.large j f
      go Cells j f = tt

  pub first_cells : Miscounted s 0 → Clear cells s (length s) → First cells s Cells 0
  first_cells m c = record { here = m; first = go }
    where
      go : (g : Flaw) (j : ℕ) → Fault cells s g j → Precedes Cells 0 g j
      go Grammar j f = f.none m.formula (drop j s) (sym m.said ∙ sym (take-append-drop j s)) refl
      go Level j f = omega (arith, c.deep j f, deep_within s j f)
      go Range j f = omega (arith, c.large j f, large_within f, token_some f)
      go Cells j f = omega arith

  -- there is one first fault
  pub first_unique : (f g : Flaw) (k j : ℕ) → First cells s f k → First cells s g j → (f ≡ g) × (k ≡ j)
  first_unique f g k j a b = go f g (a.first g j b.here) (b.first f k a.here)
    where
      go : (f g : Flaw) → Precedes f k g j → Precedes g j f k → (f ≡ g) × (k ≡ j)
      go Grammar Grammar p q = (refl, omega arith)
      go Grammar Level p q = absurd (omega arith)
      go Grammar Range p q = absurd (omega arith)
      go Grammar Cells p q = absurd q
      go Level Grammar p q = absurd (omega arith)
      go Level Level p q = (refl, omega arith)
      go Level Range p q = absurd (omega arith)
      go Level Cells p q = absurd q
      go Range Grammar p q = absurd (omega arith)
      go Range Level p q = absurd (omega arith)
      go Range Range p q = (refl, omega arith)
      go Range Cells p q = absurd q
      go Cells Grammar p q = absurd p
      go Cells Level p q = absurd p
      go Cells Range p q = absurd p
      go Cells Cells p q = (refl, omega arith)

-- text and tree determine each other
pub text_unique : (c d : Condition) → text c ≡ text d → c ≡ d
text_unique c d e =
    let f : EndsShift Bare 256 = ((λ x. omega (arith, x.1)), (λ x. omega (arith, x)), (λ x. omega (arith, x))) in
    (unique c d [] [] (ends_condition c 256 f) (ends_condition d 256 f) (append-nil (text c) ∙ e ∙ sym (append-nil (text d)))).0
