-- A node over the constants is its variable.
use Rattle.std.proofs.Common.{◌∙◌, cond, sym}
use Rattle.dd_nodes.specs.NodeList.{Values, function}
use Rattle.dd_nodes.proofs.NodeLemmas.{function_node}
use Rattle.dd_ops.proofs.ValueLemmas.{node_variable}
use Rattle.dd_ops.proofs.replacements.variable_of.Goals as goal

pub returns-in-Some-clause-value : goal.returns-in-Some-clause-value
returns-in-Some-clause-value c = λ (values : Values).
    function_node c.args.dd.now.nodes c.args.dd.now.vars c.node.ensures.table.reduced c.args.f.0 c.in-Some.node values (sym c.in-Some.ensures.node)
    ∙ (λ i. cond (values c.in-Some.node.var) (function c.args.dd.now.nodes (c.if-node-eq1.true i) values) (function c.args.dd.now.nodes (c.if-node-eq0.true i) values))
    ∙ node_variable c.args.dd.now.nodes c.in-Some.node.var values
