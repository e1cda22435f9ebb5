-- What the roots need is a table.
use Rattle.std.proofs.Common.{◌∙◌, sym, subst}
use Rattle.std.specs.List.{All}
use Rattle.dd_nodes.specs.declared.node.Ref.{Ref}
use Rattle.dd_nodes.specs.NodeList.{IsNumber}
use Rattle.dd_nodes.specs.Arena.{nodes_of}
use Rattle.dd_nodes.specs.Table.{NodeTable, IsNodeTable}
use Rattle.dd_nodes.specs.Collecting.{Collected}
use Rattle.dd_nodes.proofs.Collecting.{in_order, collection_table, collection_collected}
use Rattle.dd_nodes.proofs.dd.Dd.collect.Goals as goal
use Rattle.dd_nodes.proofs.dd.Dd.collect.Goals.{After-keep_needed}

pub keep_needed-requires-clause-order : goal.keep_needed-requires-clause-order
keep_needed-requires-clause-order c = in_order c.self.inside.vars (nodes_of c.self.inside.cells.items) c.self.invariant.0.reduced

roots_within : (c : After-keep_needed) → All (λ (r : Ref). IsNumber (nodes_of c.self.inside.cells.items) r.0) c.args.roots.now.items
roots_within c = subst (λ (t : NodeTable). All (λ (r : Ref). IsNumber t.nodes r.0) c.args.roots.now.items) (sym c.self.view_is) c.requires.roots

table_now : (c : After-keep_needed) → IsNodeTable (record { vars = c.self.inside.vars; limit = c.self.inside.limit; nodes = nodes_of c.keep_needed.new.cells.items })
table_now c =
    collection_table c.self.inside.vars c.self.inside.limit (nodes_of c.self.inside.cells.items) (nodes_of c.keep_needed.new.cells.items) c.args.roots.now.items c.keep_needed.new.roots.items
    c.self.invariant.0 (roots_within c) c.keep_needed.ensures.collection

pub invariant_of-self : goal.invariant_of-self
invariant_of-self c = (
  table_now c,
  c.keep_needed.ensures.arena,
  c.keep_needed.ensures.room ∙ c.self.invariant.2,
  c.keep_needed.ensures.marks_room ∙ c.self.invariant.3,
)

pub returns-clause-table : goal.returns-clause-table
returns-clause-table c = table_now c

pub returns-clause-roots : goal.returns-clause-roots
returns-clause-roots c =
    subst (λ (t : NodeTable). Collected t.nodes (nodes_of c.keep_needed.new.cells.items) c.args.roots.now.items c.keep_needed.new.roots.items) c.self.view_is
    (collection_collected c.self.inside.vars (nodes_of c.self.inside.cells.items) (nodes_of c.keep_needed.new.cells.items) c.args.roots.now.items c.keep_needed.new.roots.items
    c.self.invariant.0.reduced (roots_within c) c.keep_needed.ensures.collection)
