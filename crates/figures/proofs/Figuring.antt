-- Figures, cell by cell and rule by rule. Assumes nothing.
use Rattle.std.proofs.Common.{◌≡◌, ℕ, ◌+◌, ◌<◌, ◌≤◌, Bool, true, false, not, ◌&&◌, ◌||◌, eqb, ◌≢◌, List, length, get_or, take, set, sym, refl, ap, ◌∙◌, ap₂, inl, inr, arith}
use mathlib.Core.Bool.{or-false}
use Rattle.std.specs.List.{list_any}
use Rattle.std.proofs.lemmas.List.Folds.{list_any_more}
use Rattle.std.proofs.lemmas.List.{take_all, get_or-set_same, get_or-set_other}
use Rattle.std.proofs.lemmas.Bool.{cases_eq, eq-eqb, ne_eqb, or_right}
use Rattle.choosers.specs.declared.chooser.Figure.{Figure}
use Rattle.choosers.specs.Choice.{no_figure}
use Rattle.runs.specs.Figures.{open?, joins?}

-- ---- the cells of a rule, one more: it is the cell c, or another
module _ (sets : List ℕ) (c : ℕ) (cells : List ℕ) (i d : ℕ) (l : i < length cells) (at : d ≡ get_or cells i 255) where
  abbrev Here : ℕ → Bool
  Here n = list_any (λ x. eqb x c) (take n cells)

  abbrev Elsewhere : ℕ → Bool
  Elsewhere n = list_any (λ x. not (eqb x c) && open? sets x) (take n cells)

  here_step : (b : Bool) → b ≡ eqb d c → Here (i + 1) ≡ (Here i || b)
  here_step b e = list_any_more (λ x. eqb x c) cells i 255 l ∙ ap (λ (x : Bool). Here i || x) (sym (e ∙ ap (λ (x : ℕ). eqb x c) at))

  elsewhere_step : (b : Bool) → b ≡ (not (eqb d c) && open? sets d) → Elsewhere (i + 1) ≡ (Elsewhere i || b)
  elsewhere_step b e =
      list_any_more (λ x. not (eqb x c) && open? sets x) cells i 255 l ∙ ap (λ (x : Bool). Elsewhere i || x) (sym (e ∙ ap (λ (x : ℕ). not (eqb x c) && open? sets x) at))

  pub same_cell : d ≡ c → {h h' e e' : Bool} → h ≡ Here i → e ≡ Elsewhere i → h' ≡ true → e' ≡ e → (h' ≡ Here (i + 1)) × (e' ≡ Elsewhere (i + 1))
  same_cell q {h} {h'} {e} {e'} p r s t =
      let k : eqb d c ≡ true = eq-eqb d c q in (
        s ∙ sym (here_step true (sym k) ∙ or_right (Here i) true refl),
        t ∙ r ∙ sym (elsewhere_step false (ap (λ (x : Bool). not x && open? sets d) (sym k)) ∙ or-false (Elsewhere i)),
      )

  pub other_cell : d ≢ c → {h h' e e' o : Bool} → h ≡ Here i → e ≡ Elsewhere i → o ≡ open? sets d → h' ≡ h → e' ≡ (e || o) → (h' ≡ Here (i + 1)) × (e' ≡ Elsewhere (i + 1))
  other_cell q {h} {h'} {e} {e'} {o} p r u s t =
      let k : eqb d c ≡ false = ne_eqb d c q in (
        s ∙ p ∙ sym (here_step false (sym k) ∙ or-false (Here i)),
        t ∙ ap₂ (λ (x y : Bool). x || y) r refl ∙ sym (elsewhere_step o (u ∙ ap (λ (x : Bool). not x && open? sets d) (sym k))),
      )

pub joins_is : (sets : List ℕ) (c : ℕ) (cells : List ℕ) (n : ℕ) (h e r : Bool) → length cells ≤ n → h ≡ list_any (λ x. eqb x c) (take n cells)
    → e ≡ list_any (λ x. not (eqb x c) && open? sets x) (take n cells) → r ≡ (h && e) → r ≡ joins? sets c cells
joins_is sets c cells n h e r l p q s =
    s
    ∙ ap₂ (λ (x y : Bool). x && y) (p ∙ ap (list_any (λ x. eqb x c)) (take_all n cells l))
    (q ∙ ap (list_any (λ x. not (eqb x c) && open? sets x)) (take_all n cells l))

-- ---- the figures, one cell more, and all of them
pub figures_more : (f : ℕ → Figure) (xs : List Figure) (i : ℕ) (x : Figure) → i < length xs → x ≡ f i → ((k : ℕ) → k < i → get_or xs k no_figure ≡ f k)
    → (k : ℕ) → k < i + 1 → get_or (set xs i x) k no_figure ≡ f k
figures_more f xs i x l e h k lk = elim (cases_eq k i) [
  | inl q ↦ ap (λ (j : ℕ). get_or (set xs i x) j no_figure) q ∙ get_or-set_same xs i x no_figure l ∙ e ∙ ap f (sym q)
  | inr ne ↦ get_or-set_other xs i k x no_figure ne ∙ h k (omega arith)
]
