use Rattle.std.proofs.Common.{get_or, pos, string_bytes, refl, rules}
use Rattle.formulas.specs.Tree.{number_text}
use Rattle.preview.proofs.Texts.{word_more}
use Rattle.preview.proofs.lines.push_row.Goals as goal

pub loop-place-preserved : goal.loop-place-preserved
loop-place-preserved c =
    word_more (λ x. number_text (get_or c.args.row.now x (pos 0))) c.args.cells.now c.loop-place.place _ (string_bytes c.args.out.now) (string_bytes c.loop-place.out) (string_bytes c.push_separator.new.out) (string_bytes c.push_number.new.out)
    c.loop-place-test.true refl c.loop-place.invariant c.in_ok-push_separator.ensures (search rules)
