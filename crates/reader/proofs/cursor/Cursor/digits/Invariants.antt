use Rattle.std.proofs.Common.{◌-◌, ◌<◌, ◌≤◌}
use Rattle.formulas.specs.Tree.{numeral}
use Rattle.reader.specs.Places.{Reads}
use Rattle.reader.proofs.cursor.Cursor.digits.Given as goal

abbrev pub invariant-loop-value : goal.invariant-loop-value
invariant-loop-value l = (0 < l.value) × (l.value ≤ 10000009) × Reads l.self (numeral l.value) l.end

abbrev pub decreases-loop-value : goal.decreases-loop-value
decreases-loop-value l = 10000010 - l.value
