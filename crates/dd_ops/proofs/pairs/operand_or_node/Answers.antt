-- An operand with the answers as its halves answers the pair, and so does the node that `mk` answers.
use Rattle.dd_nodes.specs.declared.node.DdErr.TheVariants.{Full}
use Rattle.dd_ops.specs.Pairs.{halves_of, question_of}
use Rattle.dd_ops.proofs.GrowthHalves.{adds_join, full_join}
use Rattle.dd_ops.proofs.GrowthOps.{refused_same}
use Rattle.dd_ops.proofs.HalvesLemmas.{node_answer, operand_answer}
use Rattle.dd_ops.proofs.pairs.operand_or_node.Goals as goal

pub returns-in-Some-clause-answer : goal.returns-in-Some-clause-answer
returns-in-Some-clause-answer g c =
    operand_answer c.args.dd.now c.requires.table (question_of g.row.KIND c.args.p) c.requires.asked (halves_of g.row.KIND c.args.halves) c.args.answers.lo c.args.answers.hi
    c.requires.halves c.requires.answers c.in-Some.r c.in-Some.ensures

pub returns-in-None-clause-answer : goal.returns-in-None-clause-answer
returns-in-None-clause-answer g c =
    node_answer c.args.dd.now c.requires.table (question_of g.row.KIND c.args.p) c.requires.asked c.args.halves.var c.args.answers.lo.0 c.args.answers.hi.0 c.requires.answers
    c.mk.new.self.nodes c.mk.ensures.extends c.mk.result c.mk.ensures.function c.mk.ensures.in_table c.mk.ensures.from_var

pub returns-in-None-clause-adds : goal.returns-in-None-clause-adds
returns-in-None-clause-adds g c =
    adds_join c.args.dd.now c.requires.table (question_of g.row.KIND c.args.p) c.args.halves.var c.args.answers.lo c.args.answers.hi c.requires.answers c.mk.new.self
    c.mk.ensures.table c.mk.ensures.vars c.mk.result c.mk.ensures.cases c.mk.ensures.function c.mk.ensures.refused

pub returns-in-None-clause-full : goal.returns-in-None-clause-full
returns-in-None-clause-full g c is =
    let facts = c.mk.ensures.full.0 is in
    full_join c.args.dd.now c.requires.table (question_of g.row.KIND c.args.p) c.args.halves.var c.args.answers.lo c.args.answers.hi c.requires.answers c.mk.new.self
    facts.0 facts.1 facts.2 (refused_same c.mk.result Full is c.mk.ensures.refused)
