use Rattle.std.proofs.Common.{◌≡◌, ◌+◌, ◌∷◌, ◌++◌, [], sym, ap, ◌∙◌, rules, arith}
use Rattle.std.proofs.lemmas.Fmt.{decimal_digit}
use Rattle.std.proofs.lemmas.Result.{IfOk-equal}
use Rattle.formulas.specs.Tree.{numeral}
use Rattle.text.proofs.Decimals.{decimal_numeral}
use Rattle.listing.proofs.lines.push_small.Goals as goal

pub returns-then-number-lt10 : goal.returns-then-number-lt10
returns-then-number-lt10 c =
    let one : (48 + c.args.number) ∷ [] ≡ numeral c.args.number = sym (decimal_digit c.args.number c.if-number-lt10.true) ∙ decimal_numeral c.args.number (omega (arith, c.if-number-lt10.true)) in
    IfOk-equal c.extend_from_slice.result _ (c.args.out.now.items ++ (48 + c.args.number) ∷ []) _ (search rules) (ap (λ l. c.args.out.now.items ++ l) one)
