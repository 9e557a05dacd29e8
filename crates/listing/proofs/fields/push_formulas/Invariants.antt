use Rattle.std.proofs.Common.{◌≡◌, ◌+◌, ◌^◌, ◌<◌, List, ◌++◌, length, vec_items}
use Rattle.std.specs.List.{flat_map}
use Rattle.sheets.specs.Sheet.{Field, field_bytes}
use Rattle.listing.specs.Listing.{formula_lines}
use Rattle.listing.proofs.Walks.{Left}
use Rattle.listing.proofs.fields.push_formulas.Given as goal

abbrev pub invariant-loop-tag : goal.invariant-loop-tag
invariant-loop-tag l =
    (fs : List Field) → l.initial.number + length fs < 2 ^ 64 → l.initial.rest ≡ flat_map field_bytes fs
    → Left (vec_items l.initial.out ++ formula_lines l.initial.number fs) l.rest (vec_items l.out) l.number

abbrev pub decreases-loop-tag : goal.decreases-loop-tag
decreases-loop-tag l = length l.rest
