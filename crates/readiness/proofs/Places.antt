-- A set is not 0 exactly if some place remains there. Assumes nothing.
use Rattle.std.proofs.Common.{ℕ, ◌^◌, ◌<◌, ◌≢◌, List, length, get_or, subst}
use Rattle.bits.specs.Sets.{In}
use Rattle.bits.proofs.Bits.{has_zero}
use Rattle.bits.proofs.Size.{not_zero}
use Rattle.runs.specs.Law.{Full}

pub full_from : (sets : List ℕ) → ((c : ℕ) → get_or sets c 0 < 2 ^ 64) → ((c : ℕ) → c < length sets → get_or sets c 0 ≢ 0) → Full sets
full_from sets small some c lt empty = not_zero (get_or sets c 0) (small c) (some c lt) (λ v few h. empty v (few, h))

pub from_full : (sets : List ℕ) → Full sets → (c : ℕ) → c < length sets → get_or sets c 0 ≢ 0
from_full sets full c lt z = full c lt (λ v h. has_zero v (subst (λ (s : ℕ). In s v) z h.1))
