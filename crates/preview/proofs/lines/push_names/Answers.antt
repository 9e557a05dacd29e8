use Rattle.std.proofs.Common.{◌∷◌, string_bytes, refl, rules}
use Rattle.formulas.specs.Tree.{numeral}
use Rattle.text.proofs.Pieces.{pieces}
use Rattle.preview.proofs.Texts.{word_more}
use Rattle.preview.proofs.lines.push_names.Goals as goal

pub loop-place-preserved : goal.loop-place-preserved
loop-place-preserved c =
    word_more (λ x. 67 ∷ numeral x) c.args.cells.now c.loop-place.place _ (string_bytes c.args.out.now) (string_bytes c.loop-place.out) (string_bytes c.push_separator.new.out) (string_bytes c.push_digits.new.out)
    c.loop-place-test.true refl c.loop-place.invariant c.in_ok-push_separator.ensures (search (rules, pieces))
