use Rattle.std.proofs.Common.{◌∷◌, get_or, pos, vec_items, refl, w32, SFits, rules}
use Rattle.std.proofs.lemmas.Int.{to_z-of_z}
use Rattle.formulas.specs.Tree.{number_text}
use Rattle.text.proofs.Pieces.{pieces, joined_more}
use Rattle.listing.proofs.lines.push_numbers.Goals as goal

pub loop-number-preserved : goal.loop-number-preserved
loop-number-preserved c =
    let fit : SFits w32 (get_or c.args.numbers.now c.loop-number.number-index (pos 0)) = search rules in
    joined_more c.args.numbers.now c.loop-number.number-index (pos 0) _ c.loop-number-test.true refl (vec_items c.args.out.now) (vec_items c.loop-number.out) (vec_items c.push_number.new.out)
    (λ v. 32 ∷ number_text v) c.loop-number.invariant (search (rules, pieces, to_z-of_z w32 _ fit))
