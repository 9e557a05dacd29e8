use Rattle.std.proofs.Common.{◌*◌, ◌++◌, take, vec_items, sym, ap, ◌∙◌, arith}
use Rattle.listing.specs.Listing.{cell_line, list_in}
use Rattle.listing.proofs.Texts.{numbered_more, numbered_whole}
use Rattle.listing.proofs.Stored.{drop_cut}
use Rattle.listing.proofs.lines.push_cells.Goals as goal

pub loop-cell-preserved : goal.loop-cell-preserved
loop-cell-preserved c =
    let u = vec_items c.loop-cell.out in
    let i = c.loop-cell.cell in
    let numbers = c.args.numbers.now in
    numbered_more c.args.lengths.now i 0 c.from.result c.loop-cell-test.true (sym c.from.ensures) (vec_items c.args.out.now) u (vec_items c.push_cell.new.out)
    (λ k n. cell_line k (list_in numbers k n)) c.loop-cell.invariant
    (c.in_ok-push_cell.ensures ∙ ap (λ x. u ++ cell_line i x) (c.part-list.ensures ∙ ap (take c.from.result) (drop_cut numbers (64 * i) c.saturating_mul.result 18446744073709551615 (omega arith) (omega arith))))

pub returns : goal.returns
returns c =
    numbered_whole c.args.lengths.now c.loop-cell.cell c.loop-cell-test.false (vec_items c.args.out.now) (vec_items c.loop-cell.out)
    (λ k n. cell_line k (list_in c.args.numbers.now k n)) c.loop-cell.invariant
