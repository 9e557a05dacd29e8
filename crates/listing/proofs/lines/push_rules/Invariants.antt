use Rattle.std.proofs.Common.{◌≡◌, ◌++◌, take, vec_items}
use Rattle.listing.specs.Listing.{numbered, rows_line, field_of}
use Rattle.listing.proofs.lines.push_rules.Given as goal

abbrev pub invariant-loop-number : goal.invariant-loop-number
invariant-loop-number l = vec_items l.out ≡ vec_items l.initial.out ++ numbered (λ r rule. rows_line r (field_of l.places rule)) 0 (take l.number l.rules)
