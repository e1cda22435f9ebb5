-- What the steps within a call add and lack.
use Rattle.std.proofs.Common.{◌≡◌, ◌≢◌, ℕ, ◌+◌, ◌<◌, ◌≤◌, Bool, true, false, cond, eqb, List, [], ◌∷◌, length, Some, sym, ap, subst, ◌∙◌, ⊎_elim, arith}
use Rattle.std.proofs.lemmas.Bool.{cases_eq, cond-true, cond-false, eq-eqb, ne_eqb}
use Rattle.std.proofs.lemmas.Option.{same_Some}
use Rattle.dd_nodes.specs.declared.node.Node.{Node}
use Rattle.dd_nodes.specs.NodeList.{Values, with_value, node_at, function, StandsFrom, IsReduced, Extends}
use Rattle.dd_nodes.specs.Subfunctions.{Function, IsSubfunction}
use Rattle.dd_nodes.specs.Table.{NodeTable}
use Rattle.dd_nodes.proofs.Extending.{extends_function}
use Rattle.dd_ops.specs.declared.question.Question.{Question}
use Rattle.dd_ops.specs.Operations.{ite_of, cofactor_of}
use Rattle.dd_ops.specs.Answers.{IsAsked, AsksFrom, IsHalf, IsFullFor, asked_of}
use Rattle.dd_nodes.specs.Subfunctions.{DependsOnly}
use Rattle.dd_ops.specs.Growth.{grow, IsPart, AddsParts, LacksPart}
use Rattle.dd_ops.proofs.GrowthCount.{grows_within, grows_below}
use Rattle.dd_nodes.proofs.Dependence.{sub_at, depends_function, function_at_hi, function_at_lo}
use Rattle.dd_ops.proofs.GrowthParts.{sub_ite}
use Rattle.dd_ops.proofs.GrowthSteps.{lacks_for_part}

-- what a call that adds parts alone says of the lengths, and what a refusal for want of room says
-- of the limit
pub growth_of : (vars : ℕ) (pieces : List Function) (before after : List Node) → IsReduced vars before → AddsParts vars pieces before after → length after ≤ length before + grow vars before pieces
growth_of vars pieces before after reduced adds = grows_within vars pieces before after reduced adds

pub full_of : (pieces : List Function) (before after : NodeTable) → after.vars ≡ before.vars → IsReduced before.vars before.nodes → AddsParts before.vars pieces before.nodes after.nodes
    → IsFullFor pieces after → (length after.nodes ≡ after.limit) × (after.limit < length before.nodes + grow before.vars before.nodes pieces)
full_of pieces before after vars reduced adds full =
    let below : length after.nodes < length before.nodes + grow before.vars before.nodes pieces =
    grows_below before.vars pieces before.nodes after.nodes reduced adds (subst (λ v. LacksPart v pieces after.nodes) vars full.lacks) in
    let limit : length after.nodes ≡ after.limit = full.at_limit in
    (limit, omega arith)

-- where the table is full for parts of other pieces it is full for these
pub full_for_part : (pieces : List Function) (part : Function) (table : NodeTable) → IsPart table.vars pieces part → IsFullFor (part ∷ []) table → IsFullFor pieces table
full_for_part pieces part table is_part full = record {
  at_limit = full.at_limit;
  lacks = lacks_for_part table.vars pieces part is_part table.nodes full.lacks;
}

module _ (vars : ℕ) where
  -- a question asks for the same function in a longer list
  pub asked_kept : (before after : List Node) → IsReduced vars before → Extends before after → (q : Question) → IsAsked before q → asked_of after q ≡ asked_of before q
  asked_kept before after reduced extends q asked =
      λ i. ite_of
      (extends_function before after extends vars reduced q.f.0 asked.f i)
      (extends_function before after extends vars reduced q.g.0 asked.g i)
      (extends_function before after extends vars reduced q.h.0 asked.h i)

  -- what a half asks for is a subfunction of what the question asks for
  pub half_sub : (nodes : List Node) → IsReduced vars nodes → (v : ℕ) (b : Bool) (q p : Question) → v < vars → AsksFrom nodes v q → IsHalf nodes v b q p
      → IsSubfunction vars (asked_of nodes q) (asked_of nodes p)
  half_sub nodes reduced v b q p within from half =
      sub_ite vars v b (function nodes q.f.0) (function nodes q.g.0) (function nodes q.h.0) (function nodes p.f.0) (function nodes p.g.0) (function nodes p.h.0) within
      (depends_function vars nodes reduced v q.f.0 from.f) (depends_function vars nodes reduced v q.g.0 from.g) (depends_function vars nodes reduced v q.h.0 from.h)
      (λ values i. half.f.value i values) (λ values i. half.g.value i values) (λ values i. half.h.value i values)

  -- two variables may be set in either order
  with_value_both : (values : Values) (u : ℕ) (b : Bool) (v : ℕ) (c : Bool) → u ≢ v → (w : ℕ) → with_value (with_value values u b) v c w ≡ with_value (with_value values v c) u b w
  with_value_both values u b v c differ w = ⊎_elim
      (λ (e : w ≡ v).
      cond-true (eqb w v) c (with_value values u b w) (eq-eqb w v e)
      ∙ sym (cond-false (eqb w u) b (with_value values v c w) (ne_eqb w u (λ d. differ (sym d ∙ e))) ∙ cond-true (eqb w v) c (values w) (eq-eqb w v e)))
      (λ (other : w ≡ v → ⊥).
      cond-false (eqb w v) c (with_value values u b w) (ne_eqb w v other)
      ∙ ap (cond (eqb w u) b) (sym (cond-false (eqb w v) c (values w) (ne_eqb w v other))))
      (cases_eq w v)

  module _ (nodes : List Node) (reduced : IsReduced vars nodes) (v : ℕ) (b : Bool) (n : ℕ) (node : Node) (there : node_at nodes n ≡ Some node) where
    own_from : StandsFrom nodes node.var n
    own_from k at = subst (λ m. node.var ≤ m.var) (same_Some node k (sym there ∙ at)) (omega arith)

    cofactor_depends : DependsOnly node.var vars (cofactor_of (function nodes n) v b)
    cofactor_depends s t agree = depends_function vars nodes reduced node.var n own_from (with_value s v b) (with_value t v b)
        (λ u above within. ap (cond (eqb u v) b) (agree u above within))

    -- with another variable fixed, a child's function is a subfunction of the node's
    pub cofactor_hi : node.var ≢ v → IsSubfunction vars (cofactor_of (function nodes n) v b) (cofactor_of (function nodes node.hi.0) v b)
    cofactor_hi differ = sub_at vars node.var true (cofactor_of (function nodes n) v b) (cofactor_of (function nodes node.hi.0) v b)
        (reduced.in_range n node there) cofactor_depends
        (λ values. function_at_hi vars nodes reduced n node there (with_value values v b)
        ∙ ap (function nodes n) (λ i w. with_value_both values v b node.var true (λ e. differ (sym e)) w i))

    pub cofactor_lo : node.var ≢ v → IsSubfunction vars (cofactor_of (function nodes n) v b) (cofactor_of (function nodes node.lo.0) v b)
    cofactor_lo differ = sub_at vars node.var false (cofactor_of (function nodes n) v b) (cofactor_of (function nodes node.lo.0) v b)
        (reduced.in_range n node there) cofactor_depends
        (λ values. function_at_lo vars nodes reduced n node there (with_value values v b)
        ∙ ap (function nodes n) (λ i w. with_value_both values v b node.var false (λ e. differ (sym e)) w i))
