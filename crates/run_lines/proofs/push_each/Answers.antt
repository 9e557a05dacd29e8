use Rattle.std.proofs.Common.{◌∷◌, string_bytes, refl, rules}
use Rattle.formulas.specs.Tree.{numeral}
use Rattle.text.proofs.Decimals.{decimal_numeral}
use Rattle.text.proofs.Pieces.{joined_more}
use Rattle.run_lines.proofs.push_each.Goals as goal

pub loop-number-preserved : goal.loop-number-preserved
loop-number-preserved c =
    joined_more c.args.numbers.now c.loop-number.number-index 0 _ c.loop-number-test.true refl (string_bytes c.args.out.now) (string_bytes c.loop-number.out) (string_bytes c.write.new.self)
    (λ n. 32 ∷ numeral n) c.loop-number.invariant (search (rules, decimal_numeral))
