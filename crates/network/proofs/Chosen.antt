-- Places chosen position by position. Assumes nothing.
use Rattle.std.proofs.Common.{◌≡◌, ℕ, ◌+◌, ◌<◌, ◌≤◌, List, length, get_or, take, set, sym, ap, ◌∙◌, subst, ⊎_elim, arith}
use Rattle.std.proofs.lemmas.List.{ext_get_or, get_or-take, length-take-le, get_or-set_same, get_or-set_other}
use Rattle.std.proofs.lemmas.Bool.{cases_eq}
use Rattle.network.specs.Tries.{Allowed, GoesOn}

module _ (masks places : List ℕ) (n : ℕ) where
  -- all places are chosen
  module _ (end : n ≡ length masks) (room : n ≤ length places) where
    pub all_chosen : GoesOn masks places n (take n places)
    all_chosen = record {
      wide = length-take-le n places room ∙ end;
      begins = λ k h. get_or-take n places k 0 h;
      each = λ k h l. absurd (omega arith);
    }

    pub only_chosen : (row : List ℕ) → GoesOn masks places n row → take n places ≡ row
    only_chosen row r = sym (ext_get_or 0 row (take n places) (r.wide ∙ sym all_chosen.wide)
        (λ k h. r.begins k (omega (arith, r.wide)) ∙ sym (all_chosen.begins k (omega (arith, r.wide)))))

  -- place p is chosen at position n
  module _ (p : ℕ) (room : n < length places) (row : List ℕ) where
    pub with_place : Allowed masks n p → GoesOn masks (set places n p) (n + 1) row → GoesOn masks places n row
    with_place allowed r = record {
      wide = r.wide;
      begins = λ k h. r.begins k (omega arith) ∙ get_or-set_other places n k p 0 (omega arith);
      each = λ k h l. ⊎_elim
          (λ e. subst (Allowed masks k) (sym (r.begins k (omega arith) ∙ ap (λ x. get_or (set places n p) x 0) e ∙ get_or-set_same places n p 0 room))
          (subst (λ x. Allowed masks x p) (sym e) allowed))
          (λ ne. r.each k (omega arith) l)
          (cases_eq k n);
    }

    pub has_place : get_or row n 0 ≡ p → GoesOn masks places n row → GoesOn masks (set places n p) (n + 1) row
    has_place is r = record {
      wide = r.wide;
      begins = λ k h. ⊎_elim
          (λ e. ap (λ x. get_or row x 0) e ∙ is ∙ sym (ap (λ x. get_or (set places n p) x 0) e ∙ get_or-set_same places n p 0 room))
          (λ ne. r.begins k (omega arith) ∙ sym (get_or-set_other places n k p 0 ne))
          (cases_eq k n);
      each = λ k h l. r.each k (omega arith) l;
    }
