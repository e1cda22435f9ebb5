-- A set that is built in another table, node by node.
use Rattle.std.proofs.Common.{◌≡◌, ◌⊎◌, ⊎_elim, ℕ, ◌+◌, ◌<◌, ◌≤◌, cond, List, [], length, Contains, Some, Result, refl, sym, ap, subst, ◌∙◌, arith}
use Rattle.dd_nodes.specs.declared.node.Node.{Node}
use Rattle.dd_nodes.specs.declared.node.Ref.{Ref}
use Rattle.dd_nodes.specs.declared.node.DdErr.{DdErr}
use Rattle.dd_nodes.specs.NodeList.{IsNumber, IsReduced, function, node_at}
use Rattle.dd_nodes.specs.Subfunctions.{Function}
use Rattle.dd_nodes.specs.Table.{NodeTable}
use Rattle.dd_nodes.proofs.NodeLemmas.{function_node, function_without_node, node_at_constant}
use Rattle.dd_cache.specs.declared.key.Key.{Key}
use Rattle.dd_ops.specs.Calls.{Answers}
use Rattle.dd_ops.specs.Operations.{variable, ite_of}
use Rattle.dd_sets.specs.Orders.{at_place, read}
use Rattle.dd_sets.specs.Rebuilt.{IsRebuilt, IsMemo, KeepsFunctions, key_of}

pub keeps_chain : (a b c : NodeTable) → KeepsFunctions a b → KeepsFunctions b c → KeepsFunctions a c
keeps_chain a b c first second =
    let one : length a.nodes ≤ length b.nodes = first.longer in
    let two : length b.nodes ≤ length c.nodes = second.longer in
    record {
      vars = second.vars ∙ first.vars;
      longer = omega arith;
      earlier = λ n number. second.earlier n (omega arith) ∙ first.earlier n number;
    }

pub keeps_itself : (a : NodeTable) → KeepsFunctions a a
keeps_itself a = record { vars = refl; longer = omega arith; earlier = λ n number. refl }

pub keeps_answer : (a b : NodeTable) (wanted : Function) (answer : Result Ref DdErr) → Answers wanted a b answer → KeepsFunctions a b
keeps_answer a b wanted answer answers = record { vars = answers.vars; longer = answers.longer; earlier = answers.earlier }

module _ (from : List Node) (order : List ℕ) where
  pub rebuilt_kept : (a b : NodeTable) → KeepsFunctions a b → (number r : ℕ) → IsRebuilt from order a.nodes number r → IsRebuilt from order b.nodes number r
  rebuilt_kept a b keeps number r is =
      let longer : length a.nodes ≤ length b.nodes = keeps.longer in
      let known : r < length a.nodes + 2 = is.in_table in
      record { in_table = omega arith; value = keeps.earlier r known ∙ is.value }

  pub memo_kept : (a b : NodeTable) → KeepsFunctions a b → (pairs : List (Key × ℕ)) → IsMemo from order a.nodes pairs → IsMemo from order b.nodes pairs
  memo_kept a b keeps pairs memo number r has = rebuilt_kept a b keeps number r (memo number r has)

  -- a constant is read as it is
  pub read_constant : (number : ℕ) → number < 2 → read order (function from number) ≡ function from number
  read_constant number small = λ i values. (function_without_node from number (λ v. values (at_place order v)) (node_at_constant from number small) ∙ sym (function_without_node from number values (node_at_constant from number small))) i

  -- and has the same number everywhere
  pub rebuilt_constant : (to : List Node) (number : ℕ) → number < 2 → IsRebuilt from order to number number
  rebuilt_constant to number small = record {
    in_table = omega arith;
    value = λ i values. (function_without_node to number values (node_at_constant to number small) ∙ sym (function_without_node from number (λ v. values (at_place order v)) (node_at_constant from number small))) i;
  }

  -- a node is a choice by the fluent of its variable
  pub rebuilt_node : (vars : ℕ) → IsReduced vars from → (a b : NodeTable) (number : ℕ) (node : Node) → node_at from number ≡ Some node → (lo hi r : ℕ)
      → IsRebuilt from order a.nodes node.lo.0 lo → IsRebuilt from order a.nodes node.hi.0 hi → IsNumber b.nodes r
      → function b.nodes r ≡ ite_of (variable (at_place order node.var)) (function a.nodes hi) (function a.nodes lo) → IsRebuilt from order b.nodes number r
  rebuilt_node vars reduced a b number node there lo hi r is_lo is_hi in_table value = record {
    in_table = in_table;
    value = value
        ∙ (λ i values. cond (values (at_place order node.var)) (is_hi.value i values) (is_lo.value i values))
        ∙ (λ i values. sym (function_node from vars reduced number node (λ v. values (at_place order v)) there) i);
  }

  -- nothing is remembered at first, and then one thing more
  pub memo_none : (to : List Node) (pairs : List (Key × ℕ)) → pairs ≡ [] → IsMemo from order to pairs
  memo_none to pairs none number r has = let within : has.0 < length pairs = has.1 in absurd (omega (arith, ap length none))

  pub memo_added : (to : List Node) (before after : List (Key × ℕ)) (number r : ℕ) (key : Key) → key ≡ key_of number
      → ((k : Key) (v : ℕ) → Contains after (k, v) → Contains before (k, v) ⊎ ((k ≡ key) × (v ≡ r))) → IsMemo from order to before → IsRebuilt from order to number r → IsMemo from order to after
  memo_added to before after number r key is adds memo rebuilt n s has = ⊎_elim
      (λ (was : Contains before (key_of n, s)). memo n s was)
      (λ (new : (key_of n ≡ key) × (s ≡ r)).
      subst (λ (m : ℕ). IsRebuilt from order to m s) (sym (ap (λ (k : Key). k.a) (new.0 ∙ is)))
      (subst (IsRebuilt from order to number) (sym new.1) rebuilt))
      (adds (key_of n) s has)
