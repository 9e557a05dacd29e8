use Rattle.std.proofs.Common.{min, length, sym, ap, ◌∙◌, arith}
use Rattle.listing.proofs.Walks.{left_more, left_done}
use Rattle.listing.proofs.fields.push_formulas.Goals as goal

pub loop-tag-preserved : goal.loop-tag-preserved
loop-tag-preserved c fs few e =
    let is = c.in-Some.ensures.cases in
    left_more _ _ _ c.in-Some.field-0-0.now c.in-Some.after.now _ _ _ _ c.min.result _ is.0 is.1 is.2
    (c.min.ensures ∙ ap (λ n. min n (length c.in-Some.after.now)) (c.from-size.ensures ∙ c.from_be_bytes.ensures ∙ omega arith))
    c.split_at.ensures.front c.split_at.ensures.back c.in_ok-number.ensures.0 c.in_ok-number.ensures.1 (c.loop-tag.invariant fs few e)

pub returns : goal.returns
returns c fs few e = sym (left_done _ _ _ _ c.in_default.ensures.cases (c.loop-tag.invariant fs few e))
