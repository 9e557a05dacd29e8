use Rattle.std.proofs.Common.{◌≡◌, ◌≢◌, MatchResult, false, eqb, subst, rules}
use Rattle.std.proofs.lemmas.Bool.{ne_eqb}
use Rattle.sheets.specs.declared.tag.Tag.{Tag}
use Rattle.sheets.specs.declared.tag.Tag.TheVariants.{Formula}
use Rattle.sheets.specs.Tags.{tag_byte}
use Rattle.listing.proofs.fields.push_field.Goals as goal

pub returns-in_default-2 : goal.returns-in_default-2
returns-in_default-2 c =
    let none : (t : Tag) → c.args.tag ≢ tag_byte t = subst (λ r. MatchResult r (λ t. c.args.tag ≡ tag_byte t) (λ _. (t : Tag) → c.args.tag ≢ tag_byte t)) c.in_default.is c.try_from.ensures in
    let other : eqb c.args.tag 3 ≡ false = ne_eqb c.args.tag 3 (none Formula) in
    search (rules, other)
