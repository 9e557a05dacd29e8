use Rattle.std.proofs.Common.{◌≡◌, ◌++◌, string_bytes}
use Rattle.std.specs.List.{flat_map}
use Rattle.bits.specs.Sets.{below}
use Rattle.report.specs.Report.{rule_line}
use Rattle.report.proofs.push_clash.Given as goal

abbrev pub invariant-loop-rule : goal.invariant-loop-rule
invariant-loop-rule l = string_bytes l.out ≡ string_bytes l.initial.out ++ flat_map rule_line (below l.rule l.core)
