-- Support in a turned book. Assumes nothing.
use Rattle.std.proofs.Common.{◌≡◌, ℕ, ◌-◌, ◌<◌, ◌≤◌, Bool, true, false, cond, List, reverse, length, get_or, sym, refl, ap, ◌∙◌, subst, arith}
use Rattle.std.proofs.lemmas.List.{length-reverse, reverse-reverse, get_or-reverse, get_or_past}
use Rattle.std.proofs.lemmas.Bool.{cond_both}
use Rattle.network.specs.BookLaws.{reversed_at}
use Rattle.network.specs.Book.{Rule, Supported, reversed}
use Rattle.network.specs.Made.{SamePosition}

-- b is a with its cells and its rows last to first
record Mirrored (a b : Rule) : Type 0 where
  cells_are : b.cells ≡ reverse a.cells
  permits_are : (row : List ℕ) → b.permits row ≡ a.permits (reverse row)

-- support at a position is support at the mirrored one in the mirrored rule
module _ {a b : Rule} (mirrored : Mirrored a b) where
  long : length b.cells ≡ length a.cells
  long = ap length mirrored.cells_are ∙ length-reverse a.cells

  mirrored_supported : {i v : ℕ} {sets : List ℕ} → Supported a i v sets → Supported b (length a.cells - 1 - i) v sets
  mirrored_supported {i} {v} {sets} s = record {
    row = reverse s.row;
    wide = length-reverse s.row ∙ s.wide ∙ sym long;
    within = omega (arith, s.within, long);
    permitted = mirrored.permits_are _ ∙ rw reverse-reverse s.permitted;
    here = get_or-reverse s.row (length a.cells - 1 - i) 64 (omega (arith, s.wide, s.within))
        ∙ ap (λ k. get_or s.row k 64) (omega (arith, s.wide, s.within)) ∙ s.here;
    remain = λ k h.
        let h' : k < length a.cells = omega (arith, long) in
        let cell : get_or b.cells k 255 ≡ get_or a.cells (length a.cells - 1 - k) 255 =
        ap (λ cs. get_or cs k 255) mirrored.cells_are ∙ get_or-reverse a.cells k 255 h' in
        let place : get_or (reverse s.row) k 64 ≡ get_or s.row (length a.cells - 1 - k) 64 =
        get_or-reverse s.row k 64 (omega (arith, s.wide)) ∙ ap (λ j. get_or s.row j 64) (omega (arith, s.wide)) in
        rw (cell, place) (s.remain (length a.cells - 1 - k) (omega arith));
  }

-- a reversed rule
module _ (rule : Rule) (i : ℕ) where
  reversed_inside : i < length rule.cells → SamePosition (reversed rule) i rule (length rule.cells - 1 - i)
  reversed_inside h = record {
    cell = reversed_at rule i h;
    support = λ v sets. (
      (λ s. subst (λ n. Supported rule (n - 1 - i) v sets) (length-reverse rule.cells)
          (mirrored_supported (record { cells_are = sym (reverse-reverse rule.cells); permits_are = λ row. ap rule.permits (sym (reverse-reverse row)) }) s)),
      (λ s.
          let back : length rule.cells - 1 - (length rule.cells - 1 - i) ≡ i = omega arith in
          subst (λ j. Supported (reversed rule) j v sets) back
          (mirrored_supported (record { cells_are = refl; permits_are = λ _. refl }) s)),
    );
  }

  -- a position past both
  reversed_past : length rule.cells ≤ i → SamePosition (reversed rule) i rule i
  reversed_past h = record {
    cell = get_or_past (reverse rule.cells) i 255 (omega (arith, length-reverse rule.cells)) ∙ sym (get_or_past rule.cells i 255 h);
    support = λ v sets. ((λ s. absurd (omega (arith, s.within, length-reverse rule.cells))), (λ s. absurd (omega (arith, s.within))));
  }

  same_position : SamePosition rule i rule i
  same_position = record { cell = refl; support = λ v sets. ((λ s. s), (λ s. s)) }

-- a turned rule, whose flag is b
module _ (b : Bool) (rule : Rule) where
  abbrev pub turn : Rule
  turn = cond b (reversed rule) rule

  pub turn_width : length turn.cells ≡ length rule.cells
  turn_width = cond_both b (reversed rule) rule (λ x. length x.cells ≡ length rule.cells) (λ _. length-reverse rule.cells) (λ _. refl)

  pub turn_inside : b ≡ true → (i : ℕ) → i < length rule.cells → SamePosition turn i rule (length rule.cells - 1 - i)
  turn_inside on i h = subst (λ t. SamePosition (cond t (reversed rule) rule) i rule (length rule.cells - 1 - i)) (sym on) (reversed_inside rule i h)

  pub turn_past : (i : ℕ) → length rule.cells ≤ i → SamePosition turn i rule i
  turn_past i h = cond_both b (reversed rule) rule (λ x. SamePosition x i rule i) (λ _. reversed_past rule i h) (λ _. same_position rule i)

  pub turn_off : b ≡ false → (i : ℕ) → SamePosition turn i rule i
  turn_off off i = subst (λ t. SamePosition (cond t (reversed rule) rule) i rule i) (sym off) (same_position rule i)
