use Rattle.std.proofs.Common.{◌∷◌, string_bytes, refl, rules}
use Rattle.formulas.specs.Tree.{numeral}
use Rattle.text.proofs.Decimals.{decimal_numeral}
use Rattle.text.proofs.Pieces.{joined_more}
use Rattle.replaying.proofs.answer.push_places.Goals as goal

pub loop-place-preserved : goal.loop-place-preserved
loop-place-preserved c =
    joined_more c.args.places.now c.loop-place.place-index 0 _ c.loop-place-test.true refl (string_bytes c.args.out.now) (string_bytes c.loop-place.out) (string_bytes c.write.new.self)
    (λ v. 32 ∷ numeral v) c.loop-place.invariant (search (rules, decimal_numeral))
