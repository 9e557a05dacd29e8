use Rattle.std.proofs.Common.{◌≡◌, ◌+◌, ◌*◌, ◌++◌, get_or, pos, string_bytes}
use Rattle.std.specs.List.{range_with_len, flat_map}
use Rattle.report.specs.Report.{cell_line}
use Rattle.report.proofs.push_fits.Given as goal

abbrev pub invariant-loop-cell : goal.invariant-loop-cell
invariant-loop-cell l = string_bytes l.out ≡ string_bytes l.initial.out ++ flat_map (λ c. cell_line c (get_or l.numbers (64 * c + get_or l.filling c 0) (pos 0))) (range_with_len 0 l.cell)
