use Rattle.std.proofs.Common.{◌≡◌, ℕ, ◌*◌, ◌/◌, List, ◌++◌, length, drop, sym, ap, div-add-mod', div-le_self, arith}
use Rattle.std.proofs.lemmas.List.{length-take-le}
use Rattle.load.proofs.Rows.{no_head, head_width, part_of_row, bad_row, all_rows}
use Rattle.load.proofs.rule.read_rows.Goals as goal
use Rattle.load.proofs.rule.read_rows.Goals.{then-rest-width-ne0-via-then-rest-width-ne0, then-rest-width-ne0-via-else-rest-width-ne0+then-not-are_rows}

pub returns-in_default : goal.returns-in_default
returns-in_default c = no_head c.args.content.now c.args.lengths.now c.args.tag c.in_default.ensures

pub returns-then-rest-width-ne0 : goal.returns-then-rest-width-ne0
returns-then-rest-width-ne0 c =
    let content = c.args.content.now in
    let lengths = c.args.lengths.now in
    let kind = c.in-Some.parts.kind in
    let cells = c.in-Some.parts.cells.now in
    let rest = c.in-Some.parts.rest.now in
    elim c.then-rest-width-ne0.branch [
      | then-rest-width-ne0-via-then-rest-width-ne0 w ↦ part_of_row content lengths (length lengths) c.args.tag kind cells rest c.in-Some.ensures w.if-rest-width-ne0.true
      | then-rest-width-ne0-via-else-rest-width-ne0+then-not-are_rows w ↦
          bad_row content lengths (length lengths) c.args.tag kind cells rest c.in-Some.ensures w.are_rows.result w.are_rows.ensures w.if-not-are_rows.true
    ]

pub slice_bounds-copy_from_slice-end : goal.slice_bounds-copy_from_slice-end
slice_bounds-copy_from_slice-end c = omega (arith, (head_width c.args.content.now _ _ _ _ c.in-Some.ensures).1)

pub slice_bounds-copy_from_slice-end-2 : goal.slice_bounds-copy_from_slice-end-2
slice_bounds-copy_from_slice-end-2 c =
    sym (length-take-le (length c.in-Some.parts.rest.now) c.args.places.now (omega (arith, (head_width c.args.content.now _ _ _ _ c.in-Some.ensures).1)))

pub copy_from_slice-requires : goal.copy_from_slice-requires
copy_from_slice-requires c =
    length-take-le (length c.in-Some.parts.rest.now) c.args.places.now (omega (arith, (head_width c.args.content.now _ _ _ _ c.in-Some.ensures).1))

pub overflow_cast-result-3 : goal.overflow_cast-result-3
overflow_cast-result-3 c =
    let h = (head_width c.args.content.now _ _ _ _ c.in-Some.ensures).1 in
    let le = div-le_self (length c.in-Some.parts.rest.now) (length c.in-Some.parts.cells.now) in
    omega arith

pub returns : goal.returns
returns c =
    let cells = c.in-Some.parts.cells.now in
    let rest = c.in-Some.parts.rest.now in
    let count = length rest / length cells in
    let d = div-add-mod' (length rest) (length cells) in
    let long : length rest ≡ count * length cells = omega (arith, c.if-rest-width-ne0.false) in
    all_rows c.args.content.now c.args.lengths.now c.args.start c.args.places.now _ _ c.in-Some.parts.kind cells rest count
    c.in-Some.ensures long (c.are_rows.ensures.0 c.if-not-are_rows.false)
    (λ i. record { kind = c.in-Some.parts.kind; width = length cells; cells = c.stored.ensures i; start = c.args.start; count = count })
    (ap (λ (l : List ℕ). l ++ drop (length rest) c.args.places.now) c.copy_from_slice.ensures.after)
