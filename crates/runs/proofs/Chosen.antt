-- What is known of the cell that a chooser names, and of the place to try there. Assumes nothing.
use Rattle.std.proofs.Common.{◌≡◌, ℕ, ◌-◌, ◌^◌, ◌<◌, ◌≤◌, ◌≢◌, List, length, sym, ap, ◌∙◌, subst, inl, inr, arith}
use Rattle.std.proofs.lemmas.List.FromFn.{length-map-range_with_len, get_or-map-range_with_len}
use Rattle.std.proofs.lemmas.List.{get_or_past}
use Rattle.std.proofs.lemmas.Bool.{cases_eq, cases_lt, cases_order}
use Rattle.bits.specs.Sets.{In, size}
use Rattle.bits.proofs.Size.{Two, size_two, size_zero, two_size}
use Rattle.network.specs.Book.{BookMeaning, Remains}
use Rattle.choosers.specs.Choice.{Machine, Naming, Open, figure, no_figure}
use Rattle.choosers.specs.declared.chooser.Figure.{Figure}
use Rattle.runs.specs.Settle.{State, left_at, out_of, Empty}
use Rattle.runs.specs.Figures.{figure_of, figures_of}
use Rattle.runs.specs.Run.{Tried, Choice, Chosen}
use Rattle.runs.specs.Law.{Full}
use Rattle.runs.proofs.Steps.{out_keeps, set_full}

-- ---- the place to try: the only lemmas that look into what it is
pub tried_same : (sets : List ℕ) (c v w : ℕ) → Tried sets c v → Tried sets c w → v ≡ w
tried_same sets c v w p q = elim (cases_order v w) [
  | inl e ↦ e
  | inr o ↦ elim o [
    | inl l ↦ absurd (q.none v l p.there)
    | inr l ↦ absurd (p.none w l q.there)
  ]
]

pub tried_remains : (sets : List ℕ) (c v : ℕ) → 1 < size (left_at sets c) → Tried sets c v → Remains sets c v
tried_remains sets c v h p =
    let t : Two (left_at sets c) = size_two (left_at sets c) h in
    elim (cases_lt t.one v) [
      | inl l ↦ absurd (p.none t.one l t.first)
      | inr l ↦ (omega (arith, t.differ, t.small), p.there)
    ]

-- ---- another place than v remains at an open cell
pub open_full : (sets : List ℕ) (c v : ℕ) → c < length sets → 1 < size (left_at sets c) → In (left_at sets c) v → Full sets → Full (out_of sets c v)
open_full sets c v l h k full = set_full sets c (left_at sets c - 2 ^ v) some full
  where
    some : Empty (out_of sets c v) c → ⊥
    some empty =
        let t : Two (left_at sets c) = size_two (left_at sets c) h in
        elim (cases_eq t.one v) [
          | inl e ↦ empty t.two (out_keeps sets c v l k c t.two (t.small, t.second) (λ _ q. omega (arith, t.differ)))
          | inr ne ↦ empty t.one (out_keeps sets c v l k c t.one (omega (arith, t.differ, t.small), t.first) (λ _ q. ne q))
        ]

-- ---- a cell that is not open has one place
pub one_place : (s v w : ℕ) → size s ≤ 1 → v < 64 → w < 64 → In s v → In s w → v ≡ w
one_place s v w h lv lw hv hw = elim (cases_order v w) [
  | inl e ↦ e
  | inr o ↦ elim o [
    | inl l ↦ absurd (omega (arith, two_size s v w l lw hv hw))
    | inr l ↦ absurd (omega (arith, two_size s w v l lv hw hv))
  ]
]

-- ---- the figures, cell by cell
module _ (m : BookMeaning) (listed : ℕ) (sets weights : List ℕ) where
  figure_at : (c : ℕ) → c < length sets → figure (figures_of m listed sets weights) c ≡ figure_of m listed sets weights c
  figure_at c h = get_or-map-range_with_len (figure_of m listed sets weights) 0 (length sets) c c no_figure h (omega arith)

  figure_past : (c : ℕ) → length sets ≤ c → figure (figures_of m listed sets weights) c ≡ no_figure
  figure_past c h = get_or_past (figures_of m listed sets weights) c no_figure (omega (arith, length-map-range_with_len (figure_of m listed sets weights) 0 (length sets)))

  open_within : (c : ℕ) → Open (figures_of m listed sets weights) c → (c < length sets) × (1 < size (left_at sets c))
  open_within c o = elim (cases_lt c (length sets)) [
    | inl l ↦ (l, subst (λ (f : Figure). 1 < f.places) (figure_at c l) o.1)
    | inr l ↦ absurd (let h : 1 < no_figure.places = subst (λ (f : Figure). 1 < f.places) (figure_past c l) o.1 in omega arith)
  ]

  within_open : (c : ℕ) → length sets ≤ 64 → c < length sets → 1 < size (left_at sets c) → Open (figures_of m listed sets weights) c
  within_open c few l h = (omega arith, subst (λ (f : Figure). 1 < f.places) (sym (figure_at c l)) h)

  module _ {C : Type 0} (k : Machine C) (naming : Naming k) (x : C) where
    named_open : k.names x (figures_of m listed sets weights) ≢ 255 → Open (figures_of m listed sets weights) (k.names x (figures_of m listed sets weights))
    named_open ne = elim (naming.named x (figures_of m listed sets weights)) [ inl o ↦ o | inr p ↦ absurd (ne p.0) ]

    pub none_open : k.names x (figures_of m listed sets weights) ≡ 255 → length sets ≤ 64 → (c : ℕ) → size (left_at sets c) ≤ 1
    none_open e few c = elim (naming.named x (figures_of m listed sets weights)) [
      | inl o ↦ absurd (omega (arith, o.0))
      | inr p ↦ elim (cases_lt c (length sets)) [
        | inl l ↦ elim (cases_lt 1 (size (left_at sets c))) [
          | inl big ↦ absurd (p.1 c (within_open c few l big))
          | inr small ↦ small
        ]
        | inr l ↦ omega (arith, ap size (get_or_past sets c 0 l), size_zero)
      ]
    ]

    -- a cell that is named, and is not 255, is open
    pub named_within : (c : ℕ) → c ≡ k.names x (figures_of m listed sets weights) → c ≢ 255 → (c < length sets) × (1 < size (left_at sets c))
    named_within c e ne = open_within c (subst (λ (z : ℕ). Open (figures_of m listed sets weights) z) (sym e) (named_open (λ q. ne (e ∙ q))))

-- what is known of a choice
pub chosen : {C : Type 0} (k : Machine C) (naming : Naming k) {m : BookMeaning} {listed : ℕ} {x : C} {s : State} {c v : ℕ} → Choice k m listed x s c v → Chosen s.sets c v
chosen k naming {m} {listed} {x} {s} {c} {v} h =
    let p = named_within m listed s.sets s.weights k naming x c (sym h.named) h.some in
    record { within = p.0; opened = p.1; there = tried_remains s.sets c v p.1 h.place }
