use Rattle.std.proofs.Common.{◌-◌, length}
use Rattle.sheets.specs.Sheet.{Sheet}
use Rattle.load.specs.Fields.{Begun, Kept, Holds}
use Rattle.load.proofs.loading.Loading.fields.Given as goal

abbrev pub invariant-loop-next : goal.invariant-loop-next
invariant-loop-next l = (s : Sheet) × Begun l.file l.at s × Holds l.self s × Kept l.initial.self l.self

abbrev pub decreases-loop-next : goal.decreases-loop-next
decreases-loop-next l = length l.file - l.at
