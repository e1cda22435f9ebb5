-- What the configurations of a graph say of all that a plan may reach.
use Rattle.std.proofs.Common.{◌≡◌, ◌⊎◌, ◌+◌, ◌++◌, ◌<◌, ◌≤◌, ℕ, Bool, List, length, take, inl, inr, arith, subst, sym}
use Rattle.std.proofs.lemmas.Bool.{cases_lt}
use Rattle.std.proofs.Math.Seq.{take-append_seam}
use Rattle.std.proofs.lemmas.List.{length-map}
use Rattle.exec_graph.specs.Graphs.{IsGraphOf, PlainGraph}
use Rattle.rule_lookup.specs.RunRules.{run_rules}
use Rattle.plan_rules.specs.Rules.{ContextRule, PlainPlan}
use Rattle.task_core.specs.ContextPlans.{Configuration}
use Rattle.task_core.specs.States.{vector}
use Rattle.task_core.specs.Systems.{System}
use Rattle.task_core.specs.declared.states.State.{State}
use Rattle.controller_rules.specs.AsRun.{HasNoDeadRule, HasOneMove, HasOneMoveAt, IsFirstAt}
use Rattle.controller_rules.specs.Checks.{AgreeBelow, ServesIn, place_of, plain_rules, run_value}
use Rattle.controller_rules.specs.declared.run_rules.RunRules.{RunRules}

-- a configuration by its parts
pub place_is : (n : ℕ) (x : Configuration) (state : State) (context : ℕ) → x.state ≡ vector n state → x.context ≡ context → place_of n state context ≡ x
place_is n x state context s c = λ i. record { state = sym s i; context = sym c i }

module _ (n : ℕ) (rules : List ContextRule) (graph : PlainGraph) (number : ℕ) (state : State) (context : ℕ) (state_is : (graph.configuration number).state ≡ vector n state)
    (context_is : (graph.configuration number).context ≡ context) where
  -- one configuration more
  pub agree_more : AgreeBelow rules graph number → HasOneMoveAt rules (place_of n state context) → AgreeBelow rules graph (number + 1)
  agree_more below one i less = by_place (cases_lt i number)
    where
      by_place : (i < number) ⊎ (number ≤ i) → HasOneMoveAt rules (graph.configuration i)
      by_place (inl early) = below i early
      by_place (inr late) =
          let is : number ≡ i = omega (arith, less, late) in
          subst (λ j. HasOneMoveAt rules (graph.configuration j)) is
          (subst (HasOneMoveAt rules) (place_is n (graph.configuration number) state context state_is context_is) one)

  -- a mark was there, or is set here
  pub serves_more : (k : ℕ) (Old : Type 0) → number < graph.size → (Old → ServesIn rules graph k) → Old ⊎ IsFirstAt rules (place_of n state context) k → ServesIn rules graph k
  serves_more k Old below old (inl was) = old was
  serves_more k Old below old (inr first) = record {
    node = number;
    below = below;
    first = subst (λ x. IsFirstAt rules x k) (place_is n (graph.configuration number) state context state_is context_is) first;
  }

module _ (sys : System) (plan : PlainPlan) (graph : PlainGraph) (rules : List ContextRule) (same : rules ≡ run_rules plan) (is : IsGraphOf sys plan graph) where
  pub has_one_move : AgreeBelow rules graph graph.size → HasOneMove sys plan
  has_one_move agree x reached =
      let at = is.listed x reached in
      subst (λ rs. HasOneMoveAt rs x) same (subst (HasOneMoveAt rules) at.is (agree at.number at.below))

  pub has_no_dead_rule : ((k : ℕ) → k < length rules → ServesIn rules graph k) → HasNoDeadRule sys plan
  has_no_dead_rule all k inside =
      let serves = all k (subst (λ (rs : List ContextRule). k < length rs) (sym same) inside) in
      record {
        place = graph.configuration serves.node;
        reached = is.reached serves.node serves.below;
        first = subst (λ rs. IsFirstAt rs (graph.configuration serves.node) k) same serves.first;
      }

-- there are as many plain rules
pub rule_inside : (run : RunRules) (k : ℕ) → k < length (plain_rules run) → k < length run.rules.items
rule_inside run k inside = subst (λ m. k < m) (length-map run.rules.items run_value) inside

-- all marks, before what was behind them
pub marks_are : (len : ℕ) (marks rest : List Bool) → length marks ≡ len → take len (marks ++ rest) ≡ marks
marks_are len marks rest long = subst (λ n. take n (marks ++ rest) ≡ marks) long (take-append_seam marks rest)
