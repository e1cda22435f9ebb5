-- A constant has the same number everywhere, what was remembered is right, and children have lower
-- numbers.
use Rattle.std.proofs.Common.{◌<◌, refl, sym, subst, arith}
use Rattle.dd_nodes.specs.NodeList.{IsNumber}
use Rattle.dd_sets.specs.Rebuilt.{IsMemo}
use Rattle.dd_sets.proofs.RebuildLemmas.{rebuilt_constant}
use Rattle.dd_sets.proofs.rebuild.+rebuild.Goals as goal

pub returns-in_default-clause-rebuilt : goal.returns-in_default-clause-rebuilt
returns-in_default-clause-rebuilt t c = rebuilt_constant c.args.from.now.nodes c.args.order.now.fluents c.args.to.now.nodes c.args.number.0 (c.in_default.ensures.constant.0 refl)

pub returns-in-Some-recall-clause-rebuilt : goal.returns-in-Some-recall-clause-rebuilt
returns-in-Some-recall-clause-rebuilt t c = c.in-Some-recall.ensures.found c.args.from.now.nodes c.args.to.now.nodes c.args.order.now.fluents c.requires.memo

pub returns-in-Some-recall-clause-memo : goal.returns-in-Some-recall-clause-memo
returns-in-Some-recall-clause-memo t c = subst (IsMemo c.args.from.now.nodes c.args.order.now.fluents c.args.to.now.nodes) (sym c.recall.ensures.same) c.requires.memo

pub rebuild-requires : goal.rebuild-requires
rebuild-requires t c =
    let lower : c.in-Some.node.lo.0 < c.args.number.0 = c.requires.table.reduced.lo_before c.args.number.0 c.in-Some.node (sym c.in-Some.ensures.node) in
    let falls : c.in-Some.node.lo.0 < t = omega (arith, c.decreases) in
    let known : IsNumber c.args.from.now.nodes c.args.number.0 = c.requires.number in (
      falls,
      (
        c.requires.table,
        (
          omega arith,
          (
            c.requires.order,
            subst (IsMemo c.args.from.now.nodes c.args.order.now.fluents c.args.to.now.nodes) (sym c.recall.ensures.same) c.requires.memo,
          ),
        ),
      ),
    )
