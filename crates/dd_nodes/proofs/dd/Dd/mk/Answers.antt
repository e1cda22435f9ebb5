-- The clauses follow from what `place` leaves.
use Rattle.std.proofs.Common.{◌≡◌, ◌∙◌, ◌⊎◌, ◌++◌, ◌+◌, ◌∷◌, [], ◌≤◌, List, ap, sym, subst, length, Some, IfOk, OnErr}
use Rattle.std.proofs.lemmas.Bool.{eqb-false}
use Rattle.dd_nodes.specs.declared.node.Node.{Node}
use Rattle.dd_nodes.specs.declared.node.Ref.{Ref}
use Rattle.dd_nodes.specs.NodeList.{node_at, Lacks, IsReduced}
use Rattle.dd_nodes.specs.Table.{NodeTable, IsNodeTable}
use Rattle.dd_nodes.specs.Arena.{nodes_of}
use Rattle.dd_nodes.proofs.Making.{Outcome, outcome, ok_value, ok_number, ok_from}
use Rattle.dd_nodes.proofs.dd.Dd.mk.Goals as goal
use Rattle.dd_nodes.proofs.dd.Dd.mk.Goals.{After-place}

facts : (c : After-place) → Outcome c.args.self.now (record { var = c.args.var; lo = c.args.lo; hi = c.args.hi }) c.place.result (nodes_of c.place.new.cells.items)
facts c =
    let node : Node = record { var = c.args.var; lo = c.args.lo; hi = c.args.hi } in
    let after : List Node = nodes_of c.place.new.cells.items in
    let before : NodeTable = c.args.self.now in
    let inside : NodeTable = record { vars = c.self.inside.vars; limit = c.self.inside.limit; nodes = nodes_of c.self.inside.cells.items } in
    let is : inside ≡ before = c.self.view_is in
    outcome before (subst (λ (t : NodeTable). IsReduced t.vars t.nodes) is c.self.invariant.0.reduced) node c.requires.var_in_range
    (λ e. eqb-false c.args.lo.0 c.args.hi.0 (sym c.eq.ensures ∙ c.if-eq.false) (ap (λ (r : Ref). r.0) e))
    c.requires.lo_in_table c.requires.hi_in_table c.requires.lo_below c.requires.hi_below after c.place.result
    (subst (λ (t : NodeTable). IfOk c.place.result (λ f. ((node_at t.nodes f.0 ≡ Some node) × (after ≡ t.nodes)) ⊎ (Lacks t.nodes node × (f.0 ≡ length t.nodes + 2) × (after ≡ t.nodes ++ node ∷ [])))) is c.place.ensures.placed)
    (subst (λ (t : NodeTable). OnErr c.place.result (after ≡ t.nodes)) is c.place.ensures.refused)

table_now : (c : After-place) → IsNodeTable (record { vars = c.self.inside.vars; limit = c.self.inside.limit; nodes = nodes_of c.place.new.cells.items })
table_now c = record {
  few_vars = c.self.invariant.0.few_vars;
  some_room = c.self.invariant.0.some_room;
  small_limit = c.self.invariant.0.small_limit;
  within_limit = subst (λ n. length (nodes_of c.place.new.cells.items) ≤ n) c.self.invariant.2 c.place.ensures.within;
  reduced = subst (λ v. IsReduced v (nodes_of c.place.new.cells.items)) (sym (ap (λ t. t.vars) c.self.view_is)) (facts c).reduced;
}

pub invariant_of-self : goal.invariant_of-self
invariant_of-self c = (table_now c, c.place.ensures.arena, c.place.ensures.room ∙ c.self.invariant.2, c.self.invariant.3)

pub returns-clause-function : goal.returns-clause-function
returns-clause-function c = ok_value _ _ _ _ (facts c)

pub returns-clause-in_table : goal.returns-clause-in_table
returns-clause-in_table c = ok_number _ _ _ _ (facts c)

pub returns-clause-from_var : goal.returns-clause-from_var
returns-clause-from_var c = ok_from _ _ _ _ (facts c)

pub returns-clause-earlier : goal.returns-clause-earlier
returns-clause-earlier c = (facts c).earlier

pub returns-clause-table : goal.returns-clause-table
returns-clause-table c = table_now c
