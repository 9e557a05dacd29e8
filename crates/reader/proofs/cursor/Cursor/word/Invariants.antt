use Rattle.std.proofs.Common.{take}
use Rattle.reader.specs.Places.{Reads}
use Rattle.reader.proofs.cursor.Cursor.word.Given as goal

abbrev pub invariant-loop-b : goal.invariant-loop-b
invariant-loop-b l = Reads l.self (take l.b-index l.word) l.end
