use Rattle.std.proofs.Common.{◌≡◌, ◌++◌, take, vec_items}
use Rattle.std.specs.List.{flat_map}
use Rattle.formulas.specs.Tree.{numeral}
use Rattle.listing.proofs.lines.push_each.Given as goal

abbrev pub invariant-loop-item : goal.invariant-loop-item
invariant-loop-item l = vec_items l.out ≡ vec_items l.initial.out ++ flat_map (λ v. l.before ++ numeral v) (take l.item-index l.items)
