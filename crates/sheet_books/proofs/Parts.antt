-- Parts of a store, and the cells of a stored rule. Assumes nothing.
use Rattle.std.proofs.Common.{◌≡◌, ℕ, ◌-◌, ◌<◌, ◌≤◌, List, map, length, get_or, take, replicate, sym, refl, ◌∙◌, arith}
use Rattle.std.specs.List.{range_with_len}
use Rattle.std.proofs.lemmas.List.{get_or_append_left, take_at}
use Rattle.std.proofs.lemmas.List.FromFn.{fill_by_all}
use Rattle.network.specs.Cells.{GoodCells}
use Rattle.sheets.specs.Stored.{filled}

module _ {X : Type 0} (blank : X) (n : ℕ) (xs : List X) where
  pub filled_take : (m : ℕ) → length xs ≡ m → take m (filled blank n xs) ≡ xs
  filled_take m e = take_at xs (replicate (n - length xs) blank) m e

-- the first of the stored cells are those of the rule
pub cell_there : (cs : List ℕ) (k : ℕ) → k < length cs → get_or (filled 0 4 cs) k 0 ≡ get_or cs k 0
cell_there cs k h = get_or_append_left cs (replicate (4 - length cs) 0) 0 k h

pub cells_there : (cs : List ℕ) → map (λ k. get_or (filled 0 4 cs) k 0) (range_with_len 0 (length cs)) ≡ cs
cells_there cs = sym (fill_by_all (λ k. get_or (filled 0 4 cs) k 0) cs (length cs) 0 refl (λ k h. sym (cell_there cs k h)))

module _ (cs : List ℕ) (n : ℕ) (few : n ≤ 64) where
  pub cells_good : 1 ≤ length cs → length cs ≤ 4 → ((k : ℕ) → k < length cs → get_or cs k 0 < n)
      → ((j k : ℕ) → j < k → k < length cs → get_or cs j 0 ≡ get_or cs k 0 → ⊥) → GoodCells (length cs) (filled 0 4 cs)
  cells_good some four small apart = record {
    some = some;
    few = four;
    small = λ k h. omega (arith, cell_there cs k h, small k h);
    apart = λ j k l h e.
        let a : j < length cs = omega arith in
        apart j k l h (sym (cell_there cs j a) ∙ e ∙ cell_there cs k h);
  }
