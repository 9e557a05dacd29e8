use Rattle.std.proofs.Common.{rules, length}
use Rattle.network.specs.Cells.{Listed}
use Rattle.rows.proofs.Chunks.{all_chunks}
use Rattle.load.proofs.rule.are_rows.Goals as goal

pub returns : goal.returns
returns c =
    let run = c.all.ensures.runs in
    all_chunks run.0 _ run.1 c.chunks_exact.ensures.runs (length c.args.cells.now) c.args.rows.now c.requires c.chunks_exact.ensures.size c.chunks_exact.ensures.rest
    _ _ (λ a r f' e. search rules) (Listed c.args.lengths.now c.args.cells.now) (λ x r h e. search rules) c.all.result run.2
