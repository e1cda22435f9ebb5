-- One step after another: what a call adds and what it lacks, from what its own calls add and lack.
use Rattle.std.proofs.Common.{◌≡◌, ◌≢◌, ℕ, zero, suc, ◌+◌, ◌<◌, ◌≤◌, true, List, [], ◌∷◌, ◌++◌, length, sym, ap, subst, ◌∙◌, ◌⊎◌, ⊎_elim, arith, length-append, if◌then◌else◌, cond}
use Rattle.std.specs.List.{All}
use Rattle.std.proofs.lemmas.Bool.{cases_lt, false_from_ne_true}
use Rattle.dd_nodes.specs.declared.node.Node.{Node}
use Rattle.dd_nodes.specs.NodeList.{Values, IsNumber, function, StandsBelow, IsReduced, Lacks, Appends}
use Rattle.dd_nodes.specs.Subfunctions.{Function, agree}
use Rattle.dd_nodes.proofs.NodeLemmas.{function_node}
use Rattle.dd_nodes.proofs.Extending.{extends_same, extends_more}
use Rattle.dd_nodes.proofs.Extension.{function_kept, node_pushed, reduced_push}
use Rattle.dd_ops.specs.Growth.{IsPart, AddsParts, LacksPart}
use Rattle.dd_nodes.proofs.Agreement.{agree_same, agree_chain}
use Rattle.dd_nodes.proofs.NodeCount.{one_number}
use Rattle.dd_ops.proofs.GrowthParts.{part_chain, part_same}

-- where each piece is a part of other pieces, each part of the pieces is one of the others
pub part_weaker : (vars : ℕ) (pieces others : List Function) → All (λ piece. IsPart vars others piece) pieces → (g : Function) → IsPart vars pieces g → IsPart vars others g
part_weaker vars pieces others all g part = part_chain vars others part.1 g
    (subst (λ piece. IsPart vars others piece) part.3 (all part.0 part.1 part.2)) part.4

module _ (vars : ℕ) (pieces : List Function) where
  -- no step adds nothing
  pub adds_none : (nodes : List Node) → IsReduced vars nodes → AddsParts vars pieces nodes nodes
  adds_none nodes reduced = record {
    extends = extends_same nodes;
    reduced = reduced;
    parts = λ n above within. absurd (omega arith);
  }

  pub adds_same : (before after : List Node) → after ≡ before → IsReduced vars before → AddsParts vars pieces before after
  adds_same before after same reduced = subst (AddsParts vars pieces before) (sym same) (adds_none before reduced)

  -- what two steps add, one after the other
  pub adds_chain : (a b c : List Node) → AddsParts vars pieces a b → AddsParts vars pieces b c → AddsParts vars pieces a c
  adds_chain a b c first second = record {
    extends = extends_more a b c first.extends second.extends;
    reduced = second.reduced;
    parts = λ n above within. ⊎_elim
        (λ (old : n < length b + 2). part_same vars pieces (function b n) (function c n)
        (λ values. ap (λ nodes. function nodes n values) second.extends.appended ∙ function_kept b second.extends.more vars first.reduced n old values)
        (first.parts n above old))
        (λ (new : length b + 2 ≤ n). second.parts n new within)
        (cases_lt n (length b + 2));
  }

  all_one : (part : Function) → IsPart vars pieces part → All (λ piece. IsPart vars pieces piece) (part ∷ [])
  all_one part is_part zero d within = is_part
  all_one part is_part (suc k) d within = absurd (omega arith)

  -- what is added for pieces that are parts
  pub adds_weaker : (others : List Function) → All (λ piece. IsPart vars pieces piece) others → (before after : List Node) → AddsParts vars others before after → AddsParts vars pieces before after
  adds_weaker others all before after adds = record {
    extends = adds.extends;
    reduced = adds.reduced;
    parts = λ n above within. part_weaker vars others pieces all (function after n) (adds.parts n above within);
  }

  pub adds_for_part : (part : Function) → IsPart vars pieces part → (before after : List Node) → AddsParts vars (part ∷ []) before after → AddsParts vars pieces before after
  adds_for_part part is_part before after adds = adds_weaker (part ∷ []) (all_one part is_part) before after adds

  -- one node at most, whose function is a part
  pub adds_made : (before after : List Node) (node : Node) (n : ℕ) (part : Function) → IsReduced vars before → IsReduced vars after
      → (after ≡ before) ⊎ Appends before node n after → ((values : Values) → function after n values ≡ part values) → IsPart vars pieces part
      → AddsParts vars pieces before after
  adds_made before after node n part reduced_before reduced_after made value is_part = ⊎_elim
      (λ (same : after ≡ before). adds_same before after same reduced_before)
      (λ (new : Appends before node n after).
      let number : n ≡ length before + 2 = new.number in
      let long : length after ≡ length before + 1 = ap length new.appended ∙ length-append before (node ∷ []) in
      record {
        extends = record { more = node ∷ []; appended = new.appended };
        reduced = reduced_after;
        parts = λ m above within.
            let e : n ≡ m = omega arith in
            subst (λ k. IsPart vars pieces (function after k)) e (part_same vars pieces part (function after n) value is_part);
      })
      made

  -- what is lacked for pieces that are parts
  pub lacks_weaker : (others : List Function) → All (λ piece. IsPart vars pieces piece) others → (nodes : List Node) → LacksPart vars others nodes → LacksPart vars pieces nodes
  lacks_weaker others all nodes lacks = record {
    missing = lacks.missing;
    part = part_weaker vars others pieces all lacks.missing lacks.part;
    nowhere = lacks.nowhere;
  }

  pub lacks_for_part : (part : Function) → IsPart vars pieces part → (nodes : List Node) → LacksPart vars (part ∷ []) nodes → LacksPart vars pieces nodes
  lacks_for_part part is_part nodes lacks = lacks_weaker (part ∷ []) (all_one part is_part) nodes lacks

  -- a node that was refused: its function is that of no number
  pub lacks_made : (nodes : List Node) (node : Node) (part : Function) → IsReduced vars nodes → node.var < vars → node.lo ≢ node.hi → Lacks nodes node
      → IsNumber nodes node.lo.0 → IsNumber nodes node.hi.0 → StandsBelow nodes node.var node.lo.0 → StandsBelow nodes node.var node.hi.0
      → ((values : Values) → part values ≡ (if values node.var then function nodes node.hi.0 values else function nodes node.lo.0 values)) → IsPart vars pieces part
      → LacksPart vars pieces nodes
  lacks_made nodes node part reduced in_range differ lacks lo hi lo_below hi_below value is_part = record {
    missing = part;
    part = is_part;
    nowhere = λ n number. false_from_ne_true (agree vars part (function nodes n)) (λ same. apart n number same);
  }
    where
      longer : List Node
      longer = nodes ++ node ∷ []

      reduced_longer : IsReduced vars longer
      reduced_longer = reduced_push nodes node vars reduced in_range differ lacks lo hi lo_below hi_below

      long : length longer ≡ length nodes + 1
      long = length-append nodes (node ∷ [])

      value_longer : (values : Values) → function longer (length nodes + 2) values ≡ part values
      value_longer values =
          function_node longer vars reduced_longer (length nodes + 2) node values (node_pushed nodes node)
          ∙ (λ i. cond (values node.var) (function_kept nodes (node ∷ []) vars reduced node.hi.0 hi values i) (function_kept nodes (node ∷ []) vars reduced node.lo.0 lo values i))
          ∙ sym (value values)

      apart : (n : ℕ) → IsNumber nodes n → agree vars part (function nodes n) ≡ true → ⊥
      apart n number same =
          let e : length nodes + 2 ≡ n = one_number longer vars reduced_longer (length nodes + 2) n (omega (arith, long)) (omega (arith, long))
          (agree_chain vars (function longer (length nodes + 2)) (function nodes n) (function longer n)
          (agree_chain vars (function longer (length nodes + 2)) part (function nodes n) (agree_same vars (function longer (length nodes + 2)) part value_longer) same)
          (agree_same vars (function nodes n) (function longer n) (λ values. sym (function_kept nodes (node ∷ []) vars reduced n number values)))) in
          omega arith
