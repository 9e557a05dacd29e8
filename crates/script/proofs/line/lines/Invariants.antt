use Rattle.std.proofs.Common.{map, take}
use Rattle.std.specs.List.{AllZip}
use Rattle.script.specs.Script.{ReadAs}
use Rattle.script.proofs.line.lines.Given as goal

abbrev pub invariant-loop-text : goal.invariant-loop-text
invariant-loop-text l = AllZip ReadAs (map (λ t. t.now) (take l.text-index l.text-items)) l.lines.items
