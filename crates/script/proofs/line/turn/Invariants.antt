use Rattle.std.proofs.Common.{◌≡◌, take, map}
use Rattle.std.specs.List.{AllByRecursion}
use Rattle.script.specs.Words.{IsNumber}
use Rattle.script.specs.Script.{flags_of}
use Rattle.script.proofs.line.turn.Given as goal

abbrev pub invariant-loop-word : goal.invariant-loop-word
invariant-loop-word l =
    record {
      numbers : AllByRecursion IsNumber (map (λ w. w.now) (take l.word-index l.rest));
      flags : l.flags ≡ flags_of (map (λ w. w.now) (take l.word-index l.rest));
    }
