use Rattle.std.proofs.Common.{◌≡◌, ◌+◌, ◌*◌, ◌++◌, map, take, drop, vec_items, ap, ◌∙◌, arith}
use Rattle.std.specs.List.{range_with_len}
use Rattle.listing.specs.Listing.{commas, row_text}
use Rattle.listing.proofs.Texts.{row_more}
use Rattle.listing.proofs.lines.push_rows.Goals as goal

pub loop-row-preserved : goal.loop-row-preserved
loop-row-preserved c =
    let rule = c.args.rule.now in
    let places = c.args.places.now in
    let comma = vec_items c.push_separator.new.out in
    row_more (λ j. take rule.width (drop (rule.start + j * rule.width) places)) c.loop-row.row (vec_items c.args.out.now) (vec_items c.loop-row.out) comma (vec_items c.push_each.new.out)
    c.loop-row.invariant c.in_ok-push_separator.ensures
    (c.in_ok-push_each.ensures ∙ ap (λ x. comma ++ row_text x) (c.part.ensures ∙ ap (λ n. take n (drop (rule.start + c.loop-row.row * n) places)) c.from-width.ensures))

pub returns : goal.returns
returns c =
    let rule = c.args.rule.now in
    let all : c.loop-row.row ≡ rule.count = omega arith in
    c.loop-row.invariant ∙ ap (λ n. vec_items c.args.out.now ++ commas (map row_text (map (λ j. take rule.width (drop (rule.start + j * rule.width) c.args.places.now)) (range_with_len 0 n)))) all
