use Rattle.std.proofs.Common.{length, get_or, None, ◌∙◌, arith}
use Rattle.std.proofs.lemmas.List.FromFn.{fill_by_all}
use Rattle.calls.specs.Runs.{start_of}
use Rattle.session.specs.Pins.{held}
use Rattle.session.proofs.start.set_starts.Goals as goal

pub returns : goal.returns
returns c =
    let l = c.args.lengths.now in
    fill_by_all (λ k. start_of (get_or l k 0) (held (get_or l k 0) (get_or c.args.pins.now k None))) c.loop-cell.start (length l) 0
    (c.loop-cell.auto.start ∙ c.requires.cells) (λ k lt. c.loop-cell.invariant k (omega (arith, c.requires.cells, c.loop-cell-test.false)))
