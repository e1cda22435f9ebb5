-- What the cofactors of a node's children add and lack, the node's own does.
use Rattle.std.proofs.Common.{◌≡◌, ◌≢◌, ℕ, ◌<◌, Bool, cond, eqb, [], ◌∷◌, length, Some, sym, ap, subst, ◌∙◌, arith, if◌then◌else◌, Result, IfOk, OnErr, ◌⊎◌}
use Rattle.std.proofs.lemmas.Bool.{cond-false, ne_eqb}
use Rattle.dd_nodes.specs.declared.node.Node.{Node}
use Rattle.dd_nodes.specs.declared.node.Ref.{Ref}
use Rattle.dd_nodes.specs.declared.node.DdErr.{DdErr}
use Rattle.dd_nodes.specs.NodeList.{Values, with_value, IsNumber, node_at, function, IsReduced, Appends, Lacks}
use Rattle.dd_nodes.specs.Subfunctions.{Function}
use Rattle.dd_nodes.specs.Table.{NodeTable, IsNodeTable}
use Rattle.dd_nodes.proofs.NodeLemmas.{node_place, function_node}
use Rattle.dd_nodes.proofs.Extending.{extends_function}
use Rattle.dd_ops.specs.Operations.{cofactor_of}
use Rattle.dd_ops.specs.Answers.{IsCofactor, Keeps, IsFullFor}
use Rattle.dd_ops.specs.Growth.{AddsParts}
use Rattle.dd_ops.proofs.CofactorLemmas.{lo_stays_below, hi_stays_below}
use Rattle.dd_ops.proofs.GrowthAnswers.{cofactor_hi, cofactor_lo}
use Rattle.dd_ops.proofs.GrowthOps.{adds_one, full_one}
use Rattle.dd_nodes.proofs.Dependence.{sub_self}
use Rattle.dd_ops.proofs.GrowthParts.{part_only}
use Rattle.dd_ops.proofs.GrowthTables.{AreParts, one_part, adds_first, adds_then, full_parts}

-- the cofactor of a node of the table t0: that of the child lo leaves t1, and that of hi leaves t2
module _ (t0 : NodeTable) (table0 : IsNodeTable t0) (f : ℕ) (node : Node) (there : node_at t0.nodes f ≡ Some node) (v : ℕ) (b : Bool) (before : node.var < v) where
  wanted : Function
  wanted = cofactor_of (function t0.nodes f) v b

  differ : node.var ≢ v
  differ e = omega arith

  lo_parts : AreParts t0.vars (wanted ∷ []) (cofactor_of (function t0.nodes node.lo.0) v b ∷ [])
  unfolding wanted
  lo_parts = one_part t0.vars (wanted ∷ []) (cofactor_of (function t0.nodes node.lo.0) v b)
      (part_only t0.vars wanted (cofactor_of (function t0.nodes node.lo.0) v b) (cofactor_lo t0.vars t0.nodes table0.reduced v b f node there differ))

  module _ (t1 : NodeTable) (kept1 : Keeps t0 t1) where
    pub fixed_lo_adds : AddsParts t0.vars (cofactor_of (function t0.nodes node.lo.0) v b ∷ []) t0.nodes t1.nodes → AddsParts t0.vars (cofactor_of (function t0.nodes f) v b ∷ []) t0.nodes t1.nodes
    unfolding wanted
    fixed_lo_adds adds = adds_first (wanted ∷ []) (cofactor_of (function t0.nodes node.lo.0) v b ∷ []) t0 t1 lo_parts adds

    pub fixed_lo_full : IsFullFor (cofactor_of (function t0.nodes node.lo.0) v b ∷ []) t1 → IsFullFor (cofactor_of (function t0.nodes f) v b ∷ []) t1
    unfolding wanted
    fixed_lo_full full = full_parts (wanted ∷ []) (cofactor_of (function t0.nodes node.lo.0) v b ∷ []) t0 t1 kept1.vars lo_parts full

    hi_parts : AreParts t0.vars (wanted ∷ []) (cofactor_of (function t1.nodes node.hi.0) v b ∷ [])
    unfolding wanted
    hi_parts =
        let place : IsNumber t0.nodes f = (node_place t0.nodes f node there).1 in
        let lower : node.hi.0 < f = table0.reduced.hi_before f node there in
        subst (λ g. AreParts t0.vars (wanted ∷ []) (cofactor_of g v b ∷ []))
        (sym (extends_function t0.nodes t1.nodes kept1.nodes t0.vars table0.reduced node.hi.0 (omega arith)))
        (one_part t0.vars (wanted ∷ []) (cofactor_of (function t0.nodes node.hi.0) v b)
        (part_only t0.vars wanted (cofactor_of (function t0.nodes node.hi.0) v b) (cofactor_hi t0.vars t0.nodes table0.reduced v b f node there differ)))

    module _ (adds1 : AddsParts t0.vars (cofactor_of (function t0.nodes node.lo.0) v b ∷ []) t0.nodes t1.nodes) (t2 : NodeTable) (kept2 : Keeps t1 t2) where
      pub fixed_hi_adds : AddsParts t1.vars (cofactor_of (function t1.nodes node.hi.0) v b ∷ []) t1.nodes t2.nodes → AddsParts t0.vars (cofactor_of (function t0.nodes f) v b ∷ []) t0.nodes t2.nodes
      unfolding wanted
      fixed_hi_adds adds = adds_then (wanted ∷ []) (cofactor_of (function t1.nodes node.hi.0) v b ∷ []) t0 t1 t2 (fixed_lo_adds adds1) kept1.vars hi_parts adds

      pub fixed_hi_full : IsFullFor (cofactor_of (function t1.nodes node.hi.0) v b ∷ []) t2 → IsFullFor (cofactor_of (function t0.nodes f) v b ∷ []) t2
      unfolding wanted
      fixed_hi_full full = full_parts (wanted ∷ []) (cofactor_of (function t1.nodes node.hi.0) v b ∷ []) t0 t2 (kept2.vars ∙ kept1.vars) hi_parts full

      -- the cofactor is joined from there, and that leaves t3
      module _ (adds2 : AddsParts t1.vars (cofactor_of (function t1.nodes node.hi.0) v b ∷ []) t1.nodes t2.nodes) where
        latest : cofactor_of (function t2.nodes f) v b ≡ cofactor_of (function t0.nodes f) v b
        latest =
            let sum = fixed_hi_adds adds2 in
            ap (λ g. cofactor_of g v b) (extends_function t0.nodes t2.nodes sum.extends t0.vars table0.reduced f (node_place t0.nodes f node there).1)

        pub fixed_rest_adds : (t3 : NodeTable) → AddsParts t2.vars (cofactor_of (function t2.nodes f) v b ∷ []) t2.nodes t3.nodes → AddsParts t0.vars (cofactor_of (function t0.nodes f) v b ∷ []) t0.nodes t3.nodes
        fixed_rest_adds t3 adds = adds_then (cofactor_of (function t0.nodes f) v b ∷ []) (cofactor_of (function t0.nodes f) v b ∷ []) t0 t2 t3 (fixed_hi_adds adds2)
            (kept2.vars ∙ kept1.vars)
            (one_part t0.vars (cofactor_of (function t0.nodes f) v b ∷ []) (cofactor_of (function t0.nodes f) v b)
            (part_only t0.vars (cofactor_of (function t0.nodes f) v b) (cofactor_of (function t0.nodes f) v b) (sub_self t0.vars (cofactor_of (function t0.nodes f) v b))))
            (subst (λ g. AddsParts t2.vars (g ∷ []) t2.nodes t3.nodes) latest adds)

        pub fixed_rest_full : (t3 : NodeTable) → IsFullFor (cofactor_of (function t2.nodes f) v b ∷ []) t3 → IsFullFor (cofactor_of (function t0.nodes f) v b ∷ []) t3
        fixed_rest_full t3 full = subst (λ g. IsFullFor (g ∷ []) t3) latest full

-- a node of the children's cofactors
module _ (t : NodeTable) (table : IsNodeTable t) (f : ℕ) (node : Node) (there : node_at t.nodes f ≡ Some node) (v : ℕ) (b : Bool) (before : node.var < v) (lo hi : Ref)
    (lo_is : IsCofactor t.nodes v b node.lo.0 lo.0) (hi_is : IsCofactor t.nodes v b node.hi.0 hi.0) (after : NodeTable) where
  joined_value : (values : Values) → (if values node.var then function t.nodes hi.0 values else function t.nodes lo.0 values) ≡ cofactor_of (function t.nodes f) v b values
  joined_value values =
      (λ j. cond (other j) (hi_is.value j values) (lo_is.value j values))
      ∙ sym (function_node t.nodes t.vars table.reduced f node (with_value values v b) there)
    where
      other : values node.var ≡ with_value values v b node.var
      other = sym (cond-false (eqb node.var v) b (values node.var) (ne_eqb node.var v (λ e. omega arith)))

  pub fixed_join_adds : IsNodeTable after → after.vars ≡ t.vars → (r : Result Ref DdErr)
      → IfOk r (λ g. (after.nodes ≡ t.nodes) ⊎ Appends t.nodes (record { var = node.var; lo = lo; hi = hi }) g.0 after.nodes)
      → IfOk r (λ g. (values : Values) → function after.nodes g.0 values ≡ (if values node.var then function t.nodes hi.0 values else function t.nodes lo.0 values))
      → OnErr r (after ≡ t) → AddsParts t.vars (cofactor_of (function t.nodes f) v b ∷ []) t.nodes after.nodes
  fixed_join_adds later vars r cases value refused = adds_one t after table (subst (λ u. IsReduced u after.nodes) vars later.reduced)
      (record { var = node.var; lo = lo; hi = hi }) (cofactor_of (function t.nodes f) v b) joined_value r cases value refused

  pub fixed_join_full : lo ≢ hi → Lacks t.nodes (record { var = node.var; lo = lo; hi = hi }) → length t.nodes ≡ t.limit → after ≡ t
      → IsFullFor (cofactor_of (function t.nodes f) v b ∷ []) after
  fixed_join_full apart lacks limit refused =
      let reduced : IsReduced t.vars after.nodes = subst (λ (u : NodeTable). IsReduced t.vars u.nodes) (sym refused) table.reduced in
      full_one t after table reduced (record { var = node.var; lo = lo; hi = hi }) (cofactor_of (function t.nodes f) v b) joined_value
      (table.reduced.in_range f node there) lo_is.number hi_is.number
      (lo_stays_below t.vars t.nodes table.reduced f node there v b before lo.0 hi.0 lo_is hi_is)
      (hi_stays_below t.vars t.nodes table.reduced f node there v b before lo.0 hi.0 lo_is hi_is)
      apart lacks limit refused
