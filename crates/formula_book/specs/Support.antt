-- The lists of a formula book, and the places that are of them. Assumes nothing.
use Rattle.std.specs.Prelude.{ℕ, ◌<◌, ◌↔◌, List, ℤ, slice_index}
use Rattle.network.specs.Tries.{Allowed}
use Rattle.formula_book.specs.Formulas.{Lists}

-- the lists of these lengths and these numbers
abbrev pub lists_of : List ℕ → List ℤ → Lists
lists_of lengths numbers = record { lengths = lengths; numbers = numbers }

-- the masks allow at each position what others allow, if it is of the list of the cell there
abbrev pub ListedOf : List ℕ → List ℕ → List ℕ → List ℕ → Type 0
ListedOf lengths cells allowed masks =
    (k : ℕ) → k < 4 → (v : ℕ) → Allowed masks k v ↔ Allowed allowed k v × (v < slice_index lengths (slice_index cells k))
