-- A goal in computation tree logic is true of a part as it is of the plan: it depends on what follows what
-- where the plan may come.
use Rattle.std.proofs.Common.{◌↔◌, ℕ, List, refl, sym, ◌∙◌, subst}
use Rattle.std.specs.Prelude.{IsSome}
use Rattle.task_core.specs.ContextPlans.{Configuration, Follows, IsComplete}
use Rattle.task_core.specs.Systems.{System, IsSystem}
use Rattle.ctl_syntax.specs.Goals.{CtlTree, CtlTrees, EachPlain, EachPlainOf, plain, negation, all, any, implication, ax, ex, af, ef, ag, eg, au, eu, aw, ew, no_goal, goal_then}
use Rattle.ctl_syntax.specs.Truth.{Satisfies}
use Rattle.ctl_syntax.proofs.Carried.{carried}
use Rattle.plan_rules.specs.Denoted.{denoted_contexts}
use Rattle.plan_rules.specs.Rules.{ContextRule, automaton}
use Rattle.exec_graph.specs.Executions.{GoesTo, IsReachedBy}
use Rattle.exec_graph.proofs.Reaching.{reached_next}
use Rattle.apart_rules.proofs.Parts.{IsPart, part_follows, reached_from, same_act, same_context}

-- of each plain part nothing is asked
abbrev Known : {P : Type 0} → P → Type 0
Known p = Unit {0}

mutual
  each_known : {P : Type 0} (g : CtlTree P) → EachPlain Known g
  each_known (plain p) = tt
  each_known (negation g) = each_known g
  each_known (all gs) = each_known_of gs
  each_known (any gs) = each_known_of gs
  each_known (implication g h) = (each_known g, each_known h)
  each_known (ax g) = each_known g
  each_known (ex g) = each_known g
  each_known (af g) = each_known g
  each_known (ef g) = each_known g
  each_known (ag g) = each_known g
  each_known (eg g) = each_known g
  each_known (au g h) = (each_known g, each_known h)
  each_known (eu g h) = (each_known g, each_known h)
  each_known (aw g h) = (each_known g, each_known h)
  each_known (ew g h) = (each_known g, each_known h)

  each_known_of : {P : Type 0} (gs : CtlTrees P) → EachPlainOf Known gs
  each_known_of no_goal = tt
  each_known_of (goal_then g gs) = (each_known g, each_known_of gs)

module _ (sys : System) (ok : IsSystem sys) (n m : ℕ) (rules others : List ContextRule) (part : IsPart sys (automaton n rules) (automaton m others)) where
  goes : (x y : Configuration) → IsReachedBy sys (automaton n rules) x → GoesTo sys (automaton n rules) x y ↔ GoesTo sys (automaton m others) x y
  goes = part_follows sys ok n m rules others part

  pub part_complete : IsComplete sys (denoted_contexts rules) → IsComplete sys (denoted_contexts others)
  part_complete complete x reached =
      let r = reached_from sys ok (automaton n rules) (automaton m others) part goes x reached in
      let on = complete x r in
      record {
        action = on.action;
        acts = same_act sys ok n m rules others part x r ∙ on.acts;
        executable = on.executable;
        contexts = λ t o. subst IsSome (sym (same_context sys ok n m rules others part x t r)) (on.contexts t o);
      }

  pub part_true : {P : Type 0} (Has : P → Configuration → Type 0) (g : CtlTree P) (x : Configuration) → IsReachedBy sys (automaton n rules) x
      → Satisfies (Follows sys (denoted_contexts rules)) Has g x → Satisfies (Follows sys (denoted_contexts others)) Has g x
  part_true {P} Has g x r =
      (carried (Follows sys (denoted_contexts rules)) (Follows sys (denoted_contexts others)) (λ (y : Configuration). y) (IsReachedBy sys (automaton n rules))
      (λ y z s step. reached_next sys (automaton n rules) y z s step)
      (λ y z s step. (goes y z s).0 step)
      (λ y z s step. record { node = z; follows = (goes y z s).1 step; is = refl })
      Has Has Known (λ p y k s. (λ h. h, λ h. h)) g (each_known g) x r).0
