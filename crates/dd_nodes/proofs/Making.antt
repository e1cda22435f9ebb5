-- What is true of the number that `mk` answers and of the nodes that it leaves.
use Rattle.std.proofs.Common.{◌≡◌, ◌≢◌, ℕ, ◌+◌, ◌<◌, ◌≤◌, List, [], ◌∷◌, ◌++◌, length, Some, refl, sym, ap, subst, ◌∙◌, ◌⊎◌, ⊎_elim, arith, cond, if◌then◌else◌}
use Rattle.std.proofs.Common.{IfOk, OnErr, Result, Ok, Err}
use Rattle.dd_nodes.specs.declared.node.Ref.{Ref}
use Rattle.dd_nodes.specs.declared.node.DdErr.{DdErr}
use Rattle.dd_nodes.specs.Table.{NodeTable}
use Rattle.std.proofs.lemmas.Option.{same_Some}
use Rattle.dd_nodes.specs.declared.node.Node.{Node}
use Rattle.dd_nodes.specs.NodeList.{Values, IsNumber, node_at, function, StandsBelow, StandsFrom, IsReduced, Lacks, Extends}
use Rattle.dd_nodes.proofs.NodeLemmas.{node_place, function_node}
use Rattle.dd_nodes.proofs.Extension.{node_pushed, reduced_push, function_kept}
use Rattle.std.proofs.lemmas.List.{append-nil}

pub record Makes (vars : ℕ) (before : List Node) (node : Node) (n : ℕ) (after : List Node) : Type 0 where
  pub value : (values : Values) → function after n values ≡ (if values node.var then function before node.hi.0 values else function before node.lo.0 values)
  pub in_table : IsNumber after n
  pub from_var : StandsFrom after node.var n
  pub extends : Extends before after
  pub earlier : (m : ℕ) (values : Values) → IsNumber before m → function after m values ≡ function before m values
  pub reduced : IsReduced vars after

module _ (vars : ℕ) (before : List Node) (reduced : IsReduced vars before) (node : Node) (n : ℕ) where
  makes_there : node_at before n ≡ Some node → Makes vars before node n before
  makes_there there = record {
    value = λ values. function_node before vars reduced n node values there;
    in_table = (node_place before n node there).1;
    from_var = λ k at. subst (λ m. node.var ≤ m.var) (same_Some node k (sym there ∙ at)) (omega arith);
    extends = record { more = []; appended = sym (append-nil before) };
    earlier = λ m values _. refl;
    reduced = reduced;
  }

  module _ (in_range : node.var < vars) (differ : node.lo ≢ node.hi) (lo : IsNumber before node.lo.0) (hi : IsNumber before node.hi.0)
      (lo_below : StandsBelow before node.var node.lo.0) (hi_below : StandsBelow before node.var node.hi.0) where
    makes_new : Lacks before node → n ≡ length before + 2 → Makes vars before node n (before ++ node ∷ [])
    makes_new lacks last =
        let there : node_at (before ++ node ∷ []) n ≡ Some node = ap (node_at (before ++ node ∷ [])) last ∙ node_pushed before node in
        let longer : IsReduced vars (before ++ node ∷ []) = reduced_push before node vars reduced in_range differ lacks lo hi lo_below hi_below in
        record {
          value = λ values.
              function_node (before ++ node ∷ []) vars longer n node values there
              ∙ (λ i. cond (values node.var) (function_kept before (node ∷ []) vars reduced node.hi.0 hi values i) (function_kept before (node ∷ []) vars reduced node.lo.0 lo values i));
          in_table = (node_place (before ++ node ∷ []) n node there).1;
          from_var = λ k at. subst (λ m. node.var ≤ m.var) (same_Some node k (sym there ∙ at)) (omega arith);
          extends = record { more = node ∷ []; appended = refl };
          earlier = λ m values number. function_kept before (node ∷ []) vars reduced m number values;
          reduced = longer;
        }

    -- by either way
    pub makes : (after : List Node) → ((node_at before n ≡ Some node) × (after ≡ before)) ⊎ (Lacks before node × (n ≡ length before + 2) × (after ≡ before ++ node ∷ []))
        → Makes vars before node n after
    makes after = ⊎_elim
        (λ (was : (node_at before n ≡ Some node) × (after ≡ before)). subst (Makes vars before node n) (sym was.1) (makes_there was.0))
        (λ (new : Lacks before node × (n ≡ length before + 2) × (after ≡ before ++ node ∷ [])). subst (Makes vars before node n) (sym new.2) (makes_new new.0 new.1))

-- what a result of `place` says of the table that is left
pub record Outcome (table : NodeTable) (node : Node) (r : Result Ref DdErr) (after : List Node) : Type 0 where
  pub on_ok : IfOk r (λ f. Makes table.vars table.nodes node f.0 after)
  pub reduced : IsReduced table.vars after
  pub earlier : (n : ℕ) (values : Values) → IsNumber table.nodes n → function after n values ≡ function table.nodes n values

module _ (table : NodeTable) (reduced : IsReduced table.vars table.nodes) (node : Node) (in_range : node.var < table.vars) (differ : node.lo ≢ node.hi)
    (lo : IsNumber table.nodes node.lo.0) (hi : IsNumber table.nodes node.hi.0)
    (lo_below : StandsBelow table.nodes node.var node.lo.0) (hi_below : StandsBelow table.nodes node.var node.hi.0) (after : List Node) where
  pub outcome : (r : Result Ref DdErr)
      → IfOk r (λ f. ((node_at table.nodes f.0 ≡ Some node) × (after ≡ table.nodes)) ⊎ (Lacks table.nodes node × (f.0 ≡ length table.nodes + 2) × (after ≡ table.nodes ++ node ∷ [])))
      → OnErr r (after ≡ table.nodes) → Outcome table node r after
  outcome (Ok f) placed refused =
      let made : Makes table.vars table.nodes node f.0 after = makes table.vars table.nodes reduced node f.0 in_range differ lo hi lo_below hi_below after placed in
      record { on_ok = made; reduced = made.reduced; earlier = made.earlier }
  outcome (Err e) placed refused = record {
    on_ok = tt;
    reduced = subst (IsReduced table.vars) (sym refused) reduced;
    earlier = λ n values _. ap (λ l. function l n values) refused;
  }

-- each fact of the number that comes
module _ (table : NodeTable) (node : Node) (r : Result Ref DdErr) (after : List Node) where
  pub ok_value : Outcome table node r after
      → IfOk r (λ f. (values : Values) → function after f.0 values ≡ (if values node.var then function table.nodes node.hi.0 values else function table.nodes node.lo.0 values))
  ok_value o = by r o.on_ok
    where
      by : (q : Result Ref DdErr) → IfOk q (λ f. Makes table.vars table.nodes node f.0 after)
          → IfOk q (λ f. (values : Values) → function after f.0 values ≡ (if values node.var then function table.nodes node.hi.0 values else function table.nodes node.lo.0 values))
      by (Ok f) made = made.value
      by (Err e) made = made

  pub ok_number : Outcome table node r after → IfOk r (λ f. IsNumber after f.0)
  ok_number o = by r o.on_ok
    where
      by : (q : Result Ref DdErr) → IfOk q (λ f. Makes table.vars table.nodes node f.0 after) → IfOk q (λ f. IsNumber after f.0)
      by (Ok f) made = made.in_table
      by (Err e) made = made

  pub ok_from : Outcome table node r after → IfOk r (λ f. StandsFrom after node.var f.0)
  ok_from o = by r o.on_ok
    where
      by : (q : Result Ref DdErr) → IfOk q (λ f. Makes table.vars table.nodes node f.0 after) → IfOk q (λ f. StandsFrom after node.var f.0)
      by (Ok f) made = made.from_var
      by (Err e) made = made
