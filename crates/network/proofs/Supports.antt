-- Support is a permitted row of allowed places. Assumes nothing.
use Rattle.std.proofs.Common.{◌≡◌, ℕ, ◌<◌, ◌≤◌, true, List, length, get_or, take, sym, refl, ap, ◌∙◌, subst, arith}
use Rattle.std.proofs.lemmas.List.{get_or_default, get_or-take, length-take-le}
use Rattle.network.specs.Book.{Rule, Supported, Remains}
use Rattle.network.specs.Tries.{Allows, Tried}

-- the rule's cells are the first of these, and the masks allow what remains there
module _ (rule : Rule) (cells : List ℕ) (first : (k : ℕ) → k < length rule.cells → get_or rule.cells k 255 ≡ get_or cells k 0) (few : length rule.cells ≤ 4)
    (i v : ℕ) (sets masks : List ℕ) (four : length masks ≡ 4) (allows : Allows cells i v sets masks) where
  abbrev width : ℕ
  width = length rule.cells

  pub masks_wide : length (take width masks) ≡ width
  masks_wide = length-take-le width masks (omega arith)

  mask : (k : ℕ) → k < width → get_or (take width masks) k 0 ≡ get_or masks k 0
  mask k h = get_or-take width masks k 0 h

  pub supported_row : i < width → (row : List ℕ) → Tried (take width masks) row → rule.permits row ≡ true → Supported rule i v sets
  supported_row within row t permitted = record {
    row = row;
    wide = long;
    within = within;
    permitted = permitted;
    here = place i within ∙ ((all i within).1 refl);
    remain = λ k h.
        subst (λ w. Remains sets (get_or rule.cells k 255) w) (sym (place k h))
        (subst (λ c. Remains sets c (get_or row k 0)) (sym (first k h)) (all k h).0);
  }
    where
      long : length row ≡ width
      long = t.0 ∙ masks_wide

      place : (k : ℕ) → k < width → get_or row k 64 ≡ get_or row k 0
      place k h = get_or_default row k 64 0 (omega (arith, long))

      all : (k : ℕ) → k < width → Remains sets (get_or cells k 0) (get_or row k 0) × (k ≡ i → get_or row k 0 ≡ v)
      all k h =
          let a = t.1 k (omega (arith, masks_wide)) in
          (allows k (omega arith) (get_or row k 0)).0 (a.0, subst (λ m. Rattle.bits.specs.Sets.In m (get_or row k 0)) (mask k h) a.1)

  pub row_tried : (s : Supported rule i v sets) → Tried (take width masks) s.row
  row_tried s = (
    s.wide ∙ sym masks_wide,
    λ k l.
        let h : k < width = omega (arith, masks_wide) in
        let place : get_or s.row k 64 ≡ get_or s.row k 0 = get_or_default s.row k 64 0 (omega (arith, s.wide)) in
        let a = (allows k (omega arith) (get_or s.row k 0)).1 (
          subst (λ c. Remains sets c (get_or s.row k 0)) (first k h) (subst (λ w. Remains sets (get_or rule.cells k 255) w) place (s.remain k h)),
          (λ e. sym place ∙ ap (λ x. get_or s.row x 64) e ∙ s.here),
        ) in
        (a.0, subst (λ m. Rattle.bits.specs.Sets.In m (get_or s.row k 0)) (sym (mask k h)) a.1),
  )
