use Rattle.std.proofs.Common.{◌≡◌, ◌+◌, ◌*◌, ◌++◌, map, take, drop, vec_items}
use Rattle.std.specs.List.{range_with_len}
use Rattle.listing.specs.Listing.{commas, row_text}
use Rattle.listing.proofs.lines.push_rows.Given as goal

abbrev pub invariant-loop-row : goal.invariant-loop-row
invariant-loop-row l = vec_items l.out ≡ vec_items l.initial.out ++ commas (map row_text (map (λ j. take l.rule.width (drop (l.rule.start + j * l.rule.width) l.places)) (range_with_len 0 l.row)))
