use Rattle.std.proofs.Common.{rules, length}
use Rattle.network.specs.Tries.{Tried}
use Rattle.rows.proofs.Chunks.{any_chunk}
use Rattle.rows.proofs.search.some_stored.Goals as goal

pub returns : goal.returns
returns c =
    let run = c.any.ensures.runs in
    any_chunk run.0 _ run.1 c.chunks_exact.ensures.runs (length c.args.masks.each.now) c.args.rows.now c.requires c.chunks_exact.ensures.size c.chunks_exact.ensures.rest
    _ _ (λ a r f' e. search rules) (Tried c.args.masks.each.now) (λ x r h e. search rules) c.any.result run.2
