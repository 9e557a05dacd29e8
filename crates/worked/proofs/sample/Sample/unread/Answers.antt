-- What is read is decided by the text.
use Rattle.std.proofs.Common.{◌∙◌}
use Rattle.worked.proofs.Sampling.{unread}
use Rattle.worked.proofs.sample.Sample.unread.Goals as goal

pub returns : goal.returns
returns c h =
    c.err.ensures.value
    ∙ unread c.args.self c.args.cells c.text.result.now c.deref_mut.result.now c.read.result c.ranges.cells.fits c.text.ensures.bytes
    (c.deref_mut.ensures.len ∙ c.in_ok-nodes.ensures.len) c.read.ensures.exact h
