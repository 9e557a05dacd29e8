use Rattle.std.proofs.Common.{[], take, sym, subst}
use Rattle.std.proofs.lemmas.List.{take_all, get_or_default}
use Rattle.formulas.specs.Tree.{noted}
use Rattle.reader.specs.Mentions.{Holds, mentioned}
use Rattle.reader.proofs.Cells.{node_more, node_many}
use Rattle.reader.proofs.mentions.cells_of.Goals as goal

pub returns-in_err-named : goal.returns-in_err-named
returns-in_err-named c =
    let i = c.loop-node.node-index in
    rw c.from_residual.ensures (node_many c.args.nodes.now i _ c.loop-node-test.true (get_or_default c.args.nodes.now i _ _ c.loop-node-test.true)
    (c.in_err-named.ensures (noted [] (mentioned (take i c.args.nodes.now))) c.loop-node.invariant.1))

pub loop-node-preserved : goal.loop-node-preserved
loop-node-preserved c =
    let i = c.loop-node.node-index in (
      c.in_ok-named.named.few,
      subst (λ l. Holds l c.in_ok-named.named) (sym (node_more c.args.nodes.now i _ c.loop-node-test.true (get_or_default c.args.nodes.now i _ _ c.loop-node-test.true))) (c.in_ok-named.ensures (noted [] (mentioned (take i c.args.nodes.now))) c.loop-node.invariant.1),
    )

pub returns : goal.returns
returns c = subst (λ l. Holds (noted [] (mentioned l)) (record { cells = c.loop-node.named.0; count = c.loop-node.named.1.0; few = c.loop-node.invariant.0 })) (take_all c.loop-node.node-index c.args.nodes.now c.loop-node-test.false) c.loop-node.invariant.1
