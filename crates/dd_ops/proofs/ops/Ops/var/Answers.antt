-- A node with the constants as children is its variable.
use Rattle.std.proofs.Common.{◌<◌, ◌∙◌, subst, sym, [], ◌∷◌}
use Rattle.dd_nodes.specs.NodeList.{Values}
use Rattle.dd_nodes.specs.Table.{NodeTable}
use Rattle.dd_nodes.specs.declared.node.DdErr.TheVariants.{Full}
use Rattle.dd_ops.specs.Answers.{Keeps}
use Rattle.dd_ops.specs.Growth.{AddsParts}
use Rattle.dd_ops.specs.Operations.{variable}
use Rattle.dd_ops.proofs.CachedLemmas.{cache_after_node}
use Rattle.dd_ops.proofs.GrowthOps.{grows, adds_variable, full_variable, refused_same}
use Rattle.dd_ops.proofs.ValueLemmas.{answers, ok_then, node_variable}
use Rattle.dd_ops.proofs.ops.Ops.var.Goals as goal
use Rattle.dd_ops.proofs.ops.Ops.var.Goals.{After-mk}

kept : (c : After-mk) → Keeps c.self.inside.dd c.mk.new.self
kept c = record { vars = c.mk.ensures.vars; limit = c.mk.ensures.limit; nodes = c.mk.ensures.extends }

pub returns-clause-answers : goal.returns-clause-answers
returns-clause-answers c =
    answers c.self.inside.dd c.args.self.now c.mk.new.self c.self.view_is c.self.invariant.table (kept c) c.mk.ensures.table (variable c.args.v) c.mk.result
    (ok_then c.mk.result c.mk.ensures.function (λ r value. λ i (values : Values). (value values ∙ node_variable c.self.inside.dd.nodes c.args.v values) i))
    c.mk.ensures.in_table
    c.mk.ensures.only_full

adds : (c : After-mk) → AddsParts c.self.inside.dd.vars (variable c.args.v ∷ []) c.self.inside.dd.nodes c.mk.new.self.nodes
adds c = adds_variable c.self.inside.dd c.mk.new.self c.self.invariant.table c.args.v c.mk.ensures.table c.mk.ensures.vars c.mk.result c.mk.ensures.cases c.mk.ensures.function c.mk.ensures.refused

pub returns-clause-grows : goal.returns-clause-grows
returns-clause-grows c =
    grows (λ _. variable c.args.v ∷ []) c.self.inside.dd c.args.self.now c.mk.new.self c.self.view_is c.self.invariant.table (adds c) c.mk.result (kept c)
    (λ is. let facts = c.mk.ensures.full.0 is in
    full_variable c.self.inside.dd c.mk.new.self c.self.invariant.table c.args.v (subst (λ (t : NodeTable). c.args.v < t.vars) (sym c.self.view_is) c.requires)
    facts.1 facts.2 facts.0 (refused_same c.mk.result Full is c.mk.ensures.refused))

pub invariant_of-self : goal.invariant_of-self
invariant_of-self c = cache_after_node c.self.inside.dd c.mk.new.self (record { vars = c.mk.ensures.vars; limit = c.mk.ensures.limit; nodes = c.mk.ensures.extends }) c.self.invariant.table
    c.self.inside.known.places.items c.self.inside.known.entries.items c.self.inside.cache.pairs c.self.inside.next c.self.invariant c.mk.ensures.table
