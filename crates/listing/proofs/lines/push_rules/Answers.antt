use Rattle.std.proofs.Common.{vec_items, refl}
use Rattle.listing.specs.Listing.{rows_line, field_of}
use Rattle.listing.proofs.Texts.{numbered_more, numbered_whole}
use Rattle.listing.proofs.lines.push_rules.Goals as goal

pub loop-number-preserved : goal.loop-number-preserved
loop-number-preserved c =
    numbered_more c.args.rules.now c.loop-number.number _ _ c.loop-number-test.true refl (vec_items c.args.out.now) (vec_items c.loop-number.out) (vec_items c.push_rule.new.out)
    (λ r rule. rows_line r (field_of c.args.places.now rule)) c.loop-number.invariant c.in_ok-push_rule.ensures

pub returns : goal.returns
returns c =
    numbered_whole c.args.rules.now c.loop-number.number c.loop-number-test.false (vec_items c.args.out.now) (vec_items c.loop-number.out)
    (λ r rule. rows_line r (field_of c.args.places.now rule)) c.loop-number.invariant
