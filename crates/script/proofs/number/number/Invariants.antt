use Rattle.std.proofs.Common.{◌≡◌, min, take}
use Rattle.script.specs.Words.{value}
use Rattle.script.proofs.number.number.Given as goal

abbrev pub invariant-loop-digit : goal.invariant-loop-digit
invariant-loop-digit l = l.number ≡ min (value (take l.digit-index l.word)) 65535
