-- The node over the children's answers is the node's answer.
use Rattle.dd_nodes.specs.declared.node.DdErr.TheVariants.{Full}
use Rattle.dd_ops.proofs.GrowthOps.{refused_same}
use Rattle.dd_ops.proofs.ReplacedLemmas.{joined_replaced, joined_adds, joined_full}
use Rattle.dd_nodes.specs.declared.node.Ref.{Ref}
use Rattle.dd_ops.proofs.ValueLemmas.{ok_both}
use Rattle.dd_ops.proofs.subst.join_replaced.Goals as goal

pub returns-clause-answer : goal.returns-clause-answer
returns-clause-answer c = ok_both c.make.result c.make.ensures.function c.make.ensures.in_table
    (λ (r : Ref) value number. joined_replaced c.args.dd.now c.requires.table c.args.images.now.map.now c.requires.images.numbers c.args.own.number.0 c.args.own.node c.requires.node
    c.args.answers.lo c.args.answers.hi c.requires.lo c.requires.hi c.args.var c.requires.value c.make.new.dd.nodes r.0 c.make.ensures.extends value number)

pub returns-clause-adds : goal.returns-clause-adds
returns-clause-adds c = joined_adds c.args.dd.now c.requires.table c.args.images.now.map.now c.requires.images.numbers c.args.own.number.0 c.args.own.node c.requires.node
    c.args.answers.lo c.args.answers.hi c.requires.lo c.requires.hi c.args.var c.requires.value c.make.new.dd
    c.make.ensures.table c.make.ensures.vars c.make.result c.make.ensures.cases c.make.ensures.function c.make.ensures.refused

pub returns-clause-full : goal.returns-clause-full
returns-clause-full c is =
    let facts = c.make.ensures.full is in
    joined_full c.args.dd.now c.requires.table c.args.images.now.map.now c.requires.images.numbers c.args.own.number.0 c.args.own.node c.requires.node
    c.args.answers.lo c.args.answers.hi c.requires.lo c.requires.hi c.args.var c.requires.value c.make.new.dd
    c.requires.in_range c.requires.lo_below c.requires.hi_below facts.0 facts.1 facts.2 (refused_same c.make.result Full is c.make.ensures.refused)
