use Rattle.std.proofs.Common.{◌++◌, vec_items, refl, rules}
use Rattle.formulas.specs.Tree.{numeral}
use Rattle.text.proofs.Pieces.{pieces, joined_more}
use Rattle.listing.proofs.lines.push_each.Goals as goal

pub loop-item-preserved : goal.loop-item-preserved
loop-item-preserved c =
    joined_more c.args.items.now c.loop-item.item-index 0 _ c.loop-item-test.true refl (vec_items c.args.out.now) (vec_items c.loop-item.out) (vec_items c.push_small.new.out)
    (λ v. c.args.before.now ++ numeral v) c.loop-item.invariant (search (rules, pieces))
