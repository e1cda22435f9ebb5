-- What the operations say of the number of nodes.
use Rattle.std.proofs.Common.{◌≡◌, ◌≢◌, ℕ, ◌<◌, List, [], ◌∷◌, length, Result, Ok, Err, IfOk, OnErr, IsErrOf, sym, ap, subst, ◌∙◌, ◌⊎◌, if◌then◌else◌, arith}
use Rattle.std.proofs.lemmas.Option.{none-some}
use Rattle.dd_nodes.specs.declared.node.Node.{Node}
use Rattle.dd_nodes.proofs.NodeLemmas.{node_at_constant}
use Rattle.dd_nodes.specs.declared.node.Ref.{Ref}
use Rattle.dd_nodes.specs.declared.node.DdErr.{DdErr}
use Rattle.dd_nodes.specs.NodeList.{Values, IsNumber, function, IsReduced, Appends, Lacks, StandsBelow}
use Rattle.dd_nodes.specs.Subfunctions.{Function}
use Rattle.dd_nodes.specs.Table.{NodeTable, IsNodeTable}
use Rattle.dd_ops.specs.Answers.{Keeps, IsFullFor}
use Rattle.dd_ops.specs.Operations.{variable}
use Rattle.dd_nodes.specs.declared.node.DdErr.TheVariants.{Full}
use Rattle.dd_ops.specs.Growth.{Grows, AddsParts, AddsAtMost, IsFullBeyond, LacksPart}
use Rattle.dd_ops.proofs.GrowthAnswers.{growth_of, full_of}
use Rattle.dd_nodes.proofs.Dependence.{sub_self}
use Rattle.dd_ops.proofs.GrowthParts.{part_only}
use Rattle.dd_ops.proofs.GrowthSteps.{adds_made, adds_same, lacks_made}
use Rattle.dd_ops.proofs.ValueLemmas.{node_variable}

-- the pieces may be named by the table that a value shows
module _ (pieces : NodeTable → List Function) (inside now after : NodeTable) (is : inside ≡ now) (table : IsNodeTable inside)
    (adds : AddsParts inside.vars (pieces inside) inside.nodes after.nodes) where
  pub adds_at_most : AddsAtMost (pieces now) now after
  adds_at_most = subst (λ (t : NodeTable). AddsAtMost (pieces t) t after) is
      (growth_of inside.vars (pieces inside) inside.nodes after.nodes table.reduced adds)

  pub full_beyond : Keeps inside after → IsFullFor (pieces inside) after → IsFullBeyond (pieces now) now after
  full_beyond kept full = subst (λ (t : NodeTable). IsFullBeyond (pieces t) t after) is
      (let found = full_of (pieces inside) inside after kept.vars table.reduced adds full in
      record { at_limit = found.0; lacks = subst (λ v. LacksPart v (pieces inside) after.nodes) kept.vars full.lacks; beyond = found.1 })

  pub grows : (r : Result Ref DdErr) → Keeps inside after → (IsErrOf r Full → IsFullFor (pieces inside) after) → Grows (pieces now) now after r
  grows r kept full = record {
    adds = subst (λ (t : NodeTable). AddsParts t.vars (pieces t) t.nodes after.nodes) is adds;
    most = adds_at_most;
    full = λ is_full. full_beyond kept (full is_full);
  }

-- one node more at most, for one piece
module _ (before after : NodeTable) (table : IsNodeTable before) (reduced : IsReduced before.vars after.nodes) (node : Node) (piece : Function)
    (value : (values : Values) → (if values node.var then function before.nodes node.hi.0 values else function before.nodes node.lo.0 values) ≡ piece values) where
  pub adds_one : (r : Result Ref DdErr) → IfOk r (λ f. (after.nodes ≡ before.nodes) ⊎ Appends before.nodes node f.0 after.nodes)
      → IfOk r (λ f. (values : Values) → function after.nodes f.0 values ≡ (if values node.var then function before.nodes node.hi.0 values else function before.nodes node.lo.0 values))
      → OnErr r (after ≡ before) → AddsParts before.vars (piece ∷ []) before.nodes after.nodes
  adds_one (Ok f) cases made refused = adds_made before.vars (piece ∷ []) before.nodes after.nodes node f.0 piece table.reduced reduced cases
      (λ values. made values ∙ value values) (part_only before.vars piece piece (sub_self before.vars piece))
  adds_one (Err e) cases made refused = adds_same before.vars (piece ∷ []) before.nodes after.nodes (ap (λ (t : NodeTable). t.nodes) refused) table.reduced

  pub full_one : node.var < before.vars → IsNumber before.nodes node.lo.0 → IsNumber before.nodes node.hi.0
      → StandsBelow before.nodes node.var node.lo.0 → StandsBelow before.nodes node.var node.hi.0
      → node.lo ≢ node.hi → Lacks before.nodes node → length before.nodes ≡ before.limit → after ≡ before → IsFullFor (piece ∷ []) after
  full_one in_range lo hi lo_below hi_below differ lacks limit refused = subst (λ (t : NodeTable). IsFullFor (piece ∷ []) t) (sym refused) (record {
    at_limit = limit;
    lacks = lacks_made before.vars (piece ∷ []) before.nodes node piece table.reduced in_range differ lacks lo hi lo_below hi_below
        (λ values. sym (value values)) (part_only before.vars piece piece (sub_self before.vars piece));
  })

-- an operation is full only where it refused, and then it left the table as it was
pub refused_same : {T E : Type 0} {P : Type 0} (r : Result T E) (e : E) → IsErrOf r e → OnErr r P → P
refused_same {P = P} r e is refused = subst (λ q. OnErr q P) is refused

-- the constants stand below every variable
constant_below : (nodes : List Node) (v n : ℕ) → n < 2 → StandsBelow nodes v n
constant_below nodes v n small k at = absurd (none-some k (sym (node_at_constant nodes n small) ∙ at))

-- the node of a variable
abbrev pub variable_node : ℕ → Node
variable_node v = record { var = v; lo = record { 0 = 0 }; hi = record { 0 = 1 } }

module _ (before after : NodeTable) (table : IsNodeTable before) (v : ℕ) where
  pub adds_variable : IsNodeTable after → after.vars ≡ before.vars → (r : Result Ref DdErr)
      → IfOk r (λ f. (after.nodes ≡ before.nodes) ⊎ Appends before.nodes (variable_node v) f.0 after.nodes)
      → IfOk r (λ f. (values : Values) → function after.nodes f.0 values ≡ (if values v then function before.nodes 1 values else function before.nodes 0 values))
      → OnErr r (after ≡ before) → AddsParts before.vars (variable v ∷ []) before.nodes after.nodes
  adds_variable later vars r cases value refused = adds_one before after table (subst (λ u. IsReduced u after.nodes) vars later.reduced) (variable_node v) (variable v)
      (node_variable before.nodes v) r cases value refused

  pub full_variable : v < before.vars → Lacks before.nodes (variable_node v) → length before.nodes ≡ before.limit → (variable_node v).lo ≢ (variable_node v).hi
      → after ≡ before → IsFullFor (variable v ∷ []) after
  full_variable in_range lacks limit differ refused =
      let reduced : IsReduced before.vars after.nodes = subst (λ (t : NodeTable). IsReduced before.vars t.nodes) (sym refused) table.reduced in
      full_one before after table reduced (variable_node v) (variable v) (node_variable before.nodes v) in_range (omega arith) (omega arith)
      (constant_below before.nodes v 0 (omega arith)) (constant_below before.nodes v 1 (omega arith)) differ lacks limit refused
