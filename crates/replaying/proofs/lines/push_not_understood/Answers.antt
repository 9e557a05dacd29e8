use Rattle.std.proofs.Common.{◌++◌, ◌∷◌, [], codes, string_bytes, rules}
use Rattle.std.proofs.lemmas.Result.{IfOk-weaker}
use Rattle.formulas.specs.Tree.{numeral}
use Rattle.text.proofs.Decimals.{decimal_numeral}
use Rattle.text.proofs.Pieces.{after}
use Rattle.replaying.proofs.lines.push_not_understood.Goals as goal

pub returns : goal.returns
returns c =
    IfOk-weaker c.push_end.result _ _
    (λ _ e. after (string_bytes c.args.out.now) (codes "line " ++ numeral c.args.number) (codes " not understood" ++ (10 ∷ [])) (search (rules, decimal_numeral)) e)
    c.push_end.ensures
