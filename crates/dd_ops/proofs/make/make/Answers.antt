-- The node of `own` has the function of its children's.
use Rattle.std.proofs.Common.{◌≡◌, sym, ap, ◌∙◌, cond, arith}
use Rattle.std.proofs.lemmas.Option.{same_Some}
use Rattle.dd_nodes.specs.declared.node.Node.{Node}
use Rattle.dd_nodes.specs.NodeList.{function}
use Rattle.dd_nodes.proofs.NodeLemmas.{function_node, node_place}
use Rattle.dd_nodes.proofs.Extending.{extends_same}
use Rattle.dd_ops.proofs.make.make.Goals as goal

pub returns-then-is_same-clause-function : goal.returns-then-is_same-clause-function
returns-then-is_same-clause-function c values =
    let same = c.is_same.ensures c.if-is_same.true in
    function_node c.args.dd.now.nodes c.args.dd.now.vars c.requires.table.reduced c.args.own.number.0 c.args.own.node values c.requires.own
    ∙ ap (λ (k : Node). cond (values k.var) (function c.args.dd.now.nodes k.hi.0 values) (function c.args.dd.now.nodes k.lo.0 values)) same

pub returns-then-is_same-clause-in_table : goal.returns-then-is_same-clause-in_table
returns-then-is_same-clause-in_table c = (node_place c.args.dd.now.nodes c.args.own.number.0 c.args.own.node c.requires.own).1

pub returns-then-is_same-clause-from_var : goal.returns-then-is_same-clause-from_var
returns-then-is_same-clause-from_var c node there =
    let same = c.is_same.ensures c.if-is_same.true in
    let var : c.args.wanted.var ≡ node.var = sym (ap (λ (k : Node). k.var) same) ∙ ap (λ (k : Node). k.var) (same_Some c.args.own.node node (sym c.requires.own ∙ there)) in
    omega (arith, var)

pub returns-then-is_same-clause-extends : goal.returns-then-is_same-clause-extends
returns-then-is_same-clause-extends c = extends_same c.args.dd.now.nodes
