use Rattle.std.proofs.Common.{◌≡◌, ◌∷◌, ◌++◌, string_bytes, codes, refl, ap, ◌∙◌, arith, rules}
use Rattle.std.specs.List.{flat_map}
use Rattle.formulas.specs.Tree.{numeral}
use Rattle.bits.specs.Sets.{below}
use Rattle.text.proofs.Decimals.{decimal_numeral}
use Rattle.report.specs.Report.{rule_line}
use Rattle.report.proofs.Lines.{after_first, rules_more, rules_none, rules_all}
use Rattle.report.proofs.push_clash.Goals as goal

pub loop-rule-init : goal.loop-rule-init
loop-rule-init c = rules_none rule_line c.args.core (string_bytes c.writeln.new.self)

pub loop-rule-preserved : goal.loop-rule-preserved
loop-rule-preserved c =
    rules_more rule_line c.args.core c.loop-rule.rule (string_bytes c.writeln.new.self) (string_bytes c.loop-rule.out) (string_bytes c.push_rule.new.out) c.loop-rule.invariant c.in_ok-push_rule.ensures

pub returns : goal.returns
returns c =
    let rest = flat_map rule_line (below 64 c.args.core) in
    let end : c.loop-rule.rule ≡ 64 = omega arith in
    after_first (string_bytes c.args.out.now) _ (codes "CLASH ") (numeral c.args.lines) (flat_map rule_line (below 64 c.args.core)) (string_bytes c.writeln.new.self) (string_bytes c.loop-rule.out)
    refl (search (rules, decimal_numeral)) (c.loop-rule.invariant ∙ ap (λ n. string_bytes c.writeln.new.self ++ flat_map rule_line (below n c.args.core)) end)
    ∙ ap (λ l. string_bytes c.args.out.now ++ (codes "CLASH " ++ (numeral c.args.lines ++ (10 ∷ l)))) (rules_all rule_line c.args.core)
