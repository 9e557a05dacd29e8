use Rattle.std.proofs.Common.{◌≡◌, ◌∷◌, ◌++◌, take, vec_items}
use Rattle.std.specs.List.{flat_map}
use Rattle.formulas.specs.Tree.{number_text}
use Rattle.listing.proofs.lines.push_numbers.Given as goal

abbrev pub invariant-loop-number : goal.invariant-loop-number
invariant-loop-number l = vec_items l.out ≡ vec_items l.initial.out ++ flat_map (λ z. 32 ∷ number_text z) (take l.number-index l.numbers)
