-- What the answers to the halves of a question add and lack, its own answer does.
use Rattle.std.proofs.Common.{◌≡◌, ◌≢◌, ℕ, ◌<◌, true, false, cond, List, [], ◌∷◌, length, sym, subst, ◌∙◌, ◌⊎◌, if◌then◌else◌, Result, IfOk, OnErr}
use Rattle.dd_nodes.specs.declared.node.DdErr.{DdErr}
use Rattle.dd_nodes.specs.declared.node.Ref.{Ref}
use Rattle.dd_nodes.specs.NodeList.{Values, function, IsReduced, Appends, Lacks}
use Rattle.dd_nodes.specs.Subfunctions.{Function}
use Rattle.dd_nodes.specs.Table.{NodeTable, IsNodeTable}
use Rattle.dd_ops.specs.declared.question.Question.{Question}
use Rattle.dd_ops.specs.Answers.{top_of, IsAsked, IsHalf, AreHalfAnswers, Keeps, IsFullFor, asked_of}
use Rattle.dd_ops.specs.Growth.{IsPart, AddsParts}
use Rattle.dd_ops.proofs.GrowthAnswers.{asked_kept, half_sub}
use Rattle.dd_ops.proofs.GrowthParts.{part_only}
use Rattle.dd_ops.proofs.GrowthOps.{adds_one, full_one}
use Rattle.dd_ops.proofs.GrowthSteps.{adds_chain, adds_for_part, lacks_for_part}
use Rattle.dd_ops.proofs.QuestionLemmas.{joined}
use Rattle.dd_ops.proofs.HalvesLemmas.{var_below, var_from, var_from_later}

-- a question of the table t0, halved at its top: the answer to the first half leaves t1, that to
-- the second leaves t2
module _ (t0 : NodeTable) (table0 : IsNodeTable t0) (q : Question) (asked : IsAsked t0.nodes q) (tests : 1 < q.f.0) (var : ℕ) (top : var ≡ top_of t0.nodes q) where
  own : List Function
  own = asked_of t0.nodes q ∷ []

  -- what is full for a part is full for the question
  full_from : (part : Function) → IsPart t0.vars own part → (t : NodeTable) → t.vars ≡ t0.vars → IsFullFor (part ∷ []) t → IsFullFor own t
  full_from part is_part t same full = record {
    at_limit = full.at_limit;
    lacks = lacks_for_part t.vars own part (subst (λ v. IsPart v own part) (sym same) is_part) t.nodes full.lacks;
  }

  module _ (p0 : Question) (half0 : IsHalf t0.nodes var false q p0) (t1 : NodeTable) (kept1 : Keeps t0 t1)
      (adds1 : AddsParts t0.vars (asked_of t0.nodes p0 ∷ []) t0.nodes t1.nodes) where
    lo_part : IsPart t0.vars own (asked_of t0.nodes p0)
    unfolding own
    lo_part = part_only t0.vars (asked_of t0.nodes q) (asked_of t0.nodes p0)
        (half_sub t0.vars t0.nodes table0.reduced var false q p0 (var_below t0 table0 q asked tests var top) (var_from t0 table0 q asked tests var top) half0)

    pub adds_lo : AddsParts t0.vars (asked_of t0.nodes q ∷ []) t0.nodes t1.nodes
    unfolding own
    adds_lo = adds_for_part t0.vars own (asked_of t0.nodes p0) lo_part t0.nodes t1.nodes adds1

    pub full_lo : IsFullFor (asked_of t0.nodes p0 ∷ []) t1 → IsFullFor (asked_of t0.nodes q ∷ []) t1
    unfolding own
    full_lo full = full_from (asked_of t0.nodes p0) lo_part t1 kept1.vars full

    later : asked_of t1.nodes q ≡ asked_of t0.nodes q
    later = asked_kept t0.vars t0.nodes t1.nodes table0.reduced kept1.nodes q asked

    module _ (p1 : Question) (half1 : IsHalf t1.nodes var true q p1) (t2 : NodeTable) (kept2 : Keeps t1 t2)
        (adds2 : AddsParts t1.vars (asked_of t1.nodes p1 ∷ []) t1.nodes t2.nodes) where
      adds2_vars : AddsParts t0.vars (asked_of t1.nodes p1 ∷ []) t1.nodes t2.nodes
      adds2_vars = subst (λ v. AddsParts v (asked_of t1.nodes p1 ∷ []) t1.nodes t2.nodes) kept1.vars adds2

      hi_part : IsPart t0.vars own (asked_of t1.nodes p1)
      unfolding own
      hi_part = subst (λ g. IsPart t0.vars (g ∷ []) (asked_of t1.nodes p1)) later
          (part_only t0.vars (asked_of t1.nodes q) (asked_of t1.nodes p1)
          (half_sub t0.vars t1.nodes adds1.reduced var true q p1 (var_below t0 table0 q asked tests var top) (var_from_later t0 table0 q asked tests var top t1 kept1) half1))

      pub adds_hi : AddsParts t0.vars (asked_of t0.nodes q ∷ []) t0.nodes t2.nodes
      unfolding own
      adds_hi = adds_chain t0.vars own t0.nodes t1.nodes t2.nodes adds_lo (adds_for_part t0.vars own (asked_of t1.nodes p1) hi_part t1.nodes t2.nodes adds2_vars)

      pub full_hi : IsFullFor (asked_of t1.nodes p1 ∷ []) t2 → IsFullFor (asked_of t0.nodes q ∷ []) t2
      unfolding own
      full_hi full = full_from (asked_of t1.nodes p1) hi_part t2 (kept2.vars ∙ kept1.vars) full

      latest : asked_of t2.nodes q ≡ asked_of t0.nodes q
      latest = asked_kept t0.vars t0.nodes t2.nodes table0.reduced adds_hi.extends q asked

      -- the question is answered from there, and that leaves t3
      pub adds_rest : (t3 : NodeTable) → AddsParts t2.vars (asked_of t2.nodes q ∷ []) t2.nodes t3.nodes → AddsParts t0.vars (asked_of t0.nodes q ∷ []) t0.nodes t3.nodes
      unfolding own
      adds_rest t3 adds3 = adds_chain t0.vars own t0.nodes t2.nodes t3.nodes adds_hi
          (subst (λ g. AddsParts t0.vars (g ∷ []) t2.nodes t3.nodes) latest
          (subst (λ v. AddsParts v (asked_of t2.nodes q ∷ []) t2.nodes t3.nodes) (kept2.vars ∙ kept1.vars) adds3))

      pub full_rest : (t3 : NodeTable) → IsFullFor (asked_of t2.nodes q ∷ []) t3 → IsFullFor (asked_of t0.nodes q ∷ []) t3
      full_rest t3 full = subst (λ g. IsFullFor (g ∷ []) t3) latest full

-- a node of the answers to the halves
module _ (t : NodeTable) (table : IsNodeTable t) (q : Question) (var : ℕ) (lo hi : Ref) (halves : AreHalfAnswers t q var lo.0 hi.0) (after : NodeTable) where
  made_value : (values : Values) → (if values var then function t.nodes hi.0 values else function t.nodes lo.0 values) ≡ asked_of t.nodes q values
  made_value values = (λ j. cond (values var) (halves.hi_value j values) (halves.lo_value j values)) ∙ joined (asked_of t.nodes q) var values

  pub adds_join : IsNodeTable after → after.vars ≡ t.vars → (r : Result Ref DdErr)
      → IfOk r (λ g. (after.nodes ≡ t.nodes) ⊎ Appends t.nodes (record { var = var; lo = lo; hi = hi }) g.0 after.nodes)
      → IfOk r (λ g. (values : Values) → function after.nodes g.0 values ≡ (if values var then function t.nodes hi.0 values else function t.nodes lo.0 values))
      → OnErr r (after ≡ t) → AddsParts t.vars (asked_of t.nodes q ∷ []) t.nodes after.nodes
  adds_join later vars r cases value refused = adds_one t after table (subst (λ u. IsReduced u after.nodes) vars later.reduced)
      (record { var = var; lo = lo; hi = hi }) (asked_of t.nodes q) made_value r cases value refused

  pub full_join : lo ≢ hi → Lacks t.nodes (record { var = var; lo = lo; hi = hi }) → length t.nodes ≡ t.limit → after ≡ t
      → IsFullFor (asked_of t.nodes q ∷ []) after
  full_join apart lacks limit refused =
      let reduced : IsReduced t.vars after.nodes = subst (λ (u : NodeTable). IsReduced t.vars u.nodes) (sym refused) table.reduced in
      full_one t after table reduced (record { var = var; lo = lo; hi = hi }) (asked_of t.nodes q) made_value
      halves.in_range halves.lo_number halves.hi_number halves.lo_below halves.hi_below apart lacks limit refused
