use Rattle.std.proofs.Common.{rules}
use Rattle.judge.proofs.Trees.{stood}
use Rattle.judge.proofs.+holds.Goals as goal

pub returns-in-Free-clause-stands : goal.returns-in-Free-clause-stands
returns-in-Free-clause-stands t c = stood c.args.nodes.now c.args.numbers.now c.args.at _ (λ n l. search rules)

pub returns-in-Compare-clause-stands : goal.returns-in-Compare-clause-stands
returns-in-Compare-clause-stands t c = stood c.args.nodes.now c.args.numbers.now c.args.at _ (λ n l. search rules)

pub returns-after-child-at-clause-stands : goal.returns-after-child-at-clause-stands
returns-after-child-at-clause-stands t c = stood c.args.nodes.now c.args.numbers.now c.args.at _ (λ n l. search rules)

pub returns-then-rest-at-clause-stands : goal.returns-then-rest-at-clause-stands
returns-then-rest-at-clause-stands t c = stood c.args.nodes.now c.args.numbers.now c.args.at _ (λ n l. search rules)

pub returns-else-rest-at-clause-stands : goal.returns-else-rest-at-clause-stands
returns-else-rest-at-clause-stands t c = stood c.args.nodes.now c.args.numbers.now c.args.at _ (λ n l. search rules)

pub returns-then-holds-2-clause-stands : goal.returns-then-holds-2-clause-stands
returns-then-holds-2-clause-stands t c = stood c.args.nodes.now c.args.numbers.now c.args.at _ (λ n l. search rules)

pub returns-then-rest-at-2-clause-stands : goal.returns-then-rest-at-2-clause-stands
returns-then-rest-at-2-clause-stands t c = stood c.args.nodes.now c.args.numbers.now c.args.at _ (λ n l. search rules)

pub returns-else-rest-at-2-clause-stands : goal.returns-else-rest-at-2-clause-stands
returns-else-rest-at-2-clause-stands t c = stood c.args.nodes.now c.args.numbers.now c.args.at _ (λ n l. search rules)
