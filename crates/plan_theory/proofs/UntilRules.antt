-- The printed rules of an until-chain denote a plan that acts as printed.
use Rattle.std.proofs.Common.{◌≡◌, ℕ, suc, ◌-◌, ◌≤◌, true, Some, refl, ◌∙◌, ap, arith}
use Rattle.std.specs.Prelude.{◌&&◌, ◌==◌}
use Rattle.std.specs.List.{All}
use Rattle.std.proofs.lemmas.Bool.{and_from, and_parts, eq-eqb, eqb-true}
use Rattle.std.proofs.lemmas.List.Elements.{All-weaker}
use Rattle.task_core.specs.Systems.{System, IsVector, IsSystem}
use Rattle.task_core.specs.Vectors.{Vector}
use Rattle.plan_rules.specs.Denoted.{denoted_contexts}
use Rattle.plan_rules.specs.Plans.{IsContextOf, IsContextRuleOf}
use Rattle.plan_theory.specs.LayerPlans.{is_action}
use Rattle.plan_theory.specs.UntilChains.{UntilSets, guarded_from, until_advance, until_contexts, until_win, until_win_at}
use Rattle.plan_theory.specs.UntilPlans.{ActsAsUntil}
use Rattle.plan_theory.specs.UntilPrinted.{until_action, until_nexts, until_rules, until_states}
use Rattle.plan_theory.proofs.ContextRuleParts.{Contains-range, IsFrom, leading_below, numbers_from, rules_act, rules_within}
use Rattle.plan_theory.proofs.UntilTowards.{advance-last, chain_acts}
use Rattle.plan_theory.proofs.WeakPrinted.{is_action-Some, is_action-from}

module _ (sys : System) (chain : UntilSets) where
  -- the sets of a context agree on what a state does
  one_way : (v : Vector) (c j a : ℕ) → until_states sys chain c j a v ≡ true → (until_advance sys chain c v ≡ j) × (until_action sys chain (until_advance sys chain c v) v ≡ Some a)
  one_way v c j a holds =
      let inside = and_parts (until_win_at sys chain c v) ((until_advance sys chain c v == j) && is_action a (until_action sys chain j v)) holds in
      let both = and_parts (until_advance sys chain c v == j) (is_action a (until_action sys chain j v)) inside.1 in
      let same : until_advance sys chain c v ≡ j = eqb-true (until_advance sys chain c v) j both.0 in
      (same, ap (λ n. until_action sys chain n v) same ∙ is_action-Some a (until_action sys chain j v) both.1)

  module _ (ok : IsSystem sys) where
    acts_at : (v : Vector) (c : ℕ) → IsVector sys v → 1 ≤ c → c ≤ until_contexts chain → until_win_at sys chain c v ≡ true
        → ((denoted_contexts (until_rules sys chain)).act v c ≡ until_action sys chain (until_advance sys chain c v) v)
        × ((t : Vector) → (denoted_contexts (until_rules sys chain)).ctxt v c t ≡ Some (until_advance sys chain c v))
    acts_at v c is first last wins =
        let j = until_advance sys chain c v in
        let towards = chain_acts sys chain c v first ok is wins in
        let a = towards.action in
        let end = advance-last sys chain c v first last in
        let holds : until_states sys chain c j a v ≡ true =
        and_from (until_win_at sys chain c v) ((j == j) && is_action a (until_action sys chain j v)) wins
        (and_from (j == j) (is_action a (until_action sys chain j v)) (eq-eqb j j refl) (is_action-from a (until_action sys chain j v) towards.chosen)) in
        rules_act sys (until_states sys chain) (until_nexts chain) (until_contexts chain) v c j a is first last
        (Contains-range c (suc (until_contexts chain) - c) j (omega arith) (omega arith))
        (leading_below sys ok (until_win sys chain.keep (guarded_from j chain.stages)) v a towards.leads) holds
        j (until_action sys chain j v) (one_way v c)

    pub acts_as_until : ActsAsUntil sys chain (denoted_contexts (until_rules sys chain))
    acts_as_until = record {
      acts = λ v c is first last wins. (acts_at v c is first last wins).0;
      goes_on = λ v c t is first last wins. (acts_at v c is first last wins).1 t;
    }

  nexts : (c : ℕ) → IsContextOf (until_contexts chain) c → All (IsContextOf (until_contexts chain)) (until_nexts chain c)
  nexts c here =
      let last = until_contexts chain in
      let first = here.first in
      let end = here.last in
      All-weaker (IsFrom c (suc last - c)) (IsContextOf last)
      (λ j from. let low = from.low in let high = from.high in record { first = omega arith; last = omega arith })
      (until_nexts chain c) (numbers_from c (suc last - c))

  pub until_rules_within : All (IsContextRuleOf sys.fluents sys.actions (until_contexts chain)) (until_rules sys chain)
  until_rules_within = rules_within sys (until_states sys chain) (until_nexts chain) (until_contexts chain) nexts
