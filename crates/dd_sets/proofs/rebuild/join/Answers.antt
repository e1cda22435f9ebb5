-- A node's set is a choice between those of its children.
use Rattle.std.proofs.Common.{ap, ◌∙◌}
use Rattle.dd_nodes.specs.NodeList.{function}
use Rattle.dd_ops.specs.Operations.{ite_of, variable}
use Rattle.dd_sets.proofs.RebuildLemmas.{memo_kept, rebuilt_node}
use Rattle.dd_sets.proofs.rebuild.join.Goals as goal

pub returns-in_err-r-clause-memo : goal.returns-in_err-r-clause-memo
returns-in_err-r-clause-memo c = memo_kept c.args.from.now.nodes c.args.order.now.fluents _ _ c.choose.ensures.kept _ c.requires.memo

pub returns-clause-rebuilt : goal.returns-clause-rebuilt
returns-clause-rebuilt c =
    rebuilt_node c.args.from.now.nodes c.args.order.now.fluents c.args.from.now.vars c.requires.table.reduced c.args.to.now c.choose.new.to c.args.rebuilt.number.0 c.args.rebuilt.node c.requires.node c.args.rebuilt.lo.0 c.args.rebuilt.hi.0 c.in_ok-r.r.0
    c.requires.lo c.requires.hi c.in_ok-r.ensures.number
    (c.in_ok-r.ensures.value ∙ ap (λ v. ite_of (variable v) (function c.args.to.now.nodes c.args.rebuilt.hi.0) (function c.args.to.now.nodes c.args.rebuilt.lo.0)) c.fluent.ensures)

pub returns-clause-memo : goal.returns-clause-memo
returns-clause-memo c =
    c.remember.ensures c.args.from.now.nodes c.choose.new.to.nodes c.args.order.now.fluents (memo_kept c.args.from.now.nodes c.args.order.now.fluents _ _ c.choose.ensures.kept _ c.requires.memo)
    (rebuilt_node c.args.from.now.nodes c.args.order.now.fluents c.args.from.now.vars c.requires.table.reduced c.args.to.now c.choose.new.to c.args.rebuilt.number.0 c.args.rebuilt.node c.requires.node c.args.rebuilt.lo.0 c.args.rebuilt.hi.0 c.in_ok-r.r.0
    c.requires.lo c.requires.hi c.in_ok-r.ensures.number
    (c.in_ok-r.ensures.value ∙ ap (λ v. ite_of (variable v) (function c.args.to.now.nodes c.args.rebuilt.hi.0) (function c.args.to.now.nodes c.args.rebuilt.lo.0)) c.fluent.ensures))
