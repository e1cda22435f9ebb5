-- Private: what the checks rest on: the rules of a plan with an index of their cubes.
use Rattle.std.specs.Prelude.{◌<◌, ℕ, List, map}
use Rattle.std.specs.List.{All}
use Rattle.cube_index.specs.Index.{IsIndexOf}
use Rattle.exec_graph.specs.Graphs.{PlainGraph}
use Rattle.plan_rules.specs.Plans.{IsCubeOf}
use Rattle.plan_rules.specs.Rules.{ContextRule, always}
use Rattle.task_core.specs.Cubes.{Cube}
use Rattle.task_core.specs.ContextPlans.{Configuration}
use Rattle.task_core.specs.States.{vector}
use Rattle.task_core.specs.declared.states.State.{State}
use Rattle.controller_rules.specs.AsRun.{HasOneMoveAt, IsFirstAt}
use Rattle.controller_rules.specs.declared.run_rules.RunRule.{RunRule}
use Rattle.controller_rules.specs.declared.run_rules.RunRules.{RunRules}

-- a rule as a plain one
abbrev pub run_value : RunRule → ContextRule
run_value r =
    record {
      context = r.context;
      cube = r.cube.now;
      action = r.action.0;
      next = always r.next;
    }

abbrev pub run_cube : RunRule → Cube
run_cube r = r.cube.now

-- the rules as plain ones
abbrev pub plain_rules : RunRules → List ContextRule
plain_rules run = map run_value run.rules.items

-- the index is that of the cubes, which name the first n fluents alone
pub record AreIndexed (n : ℕ) (run : RunRules) : Type 0 where
  pub cubes : All (λ (rule : RunRule). IsCubeOf n (run_cube rule)) run.rules.items
  pub index : IsIndexOf run.index (map run_cube run.rules.items)

-- a state and a context, over n fluents
abbrev pub place_of : ℕ → State → ℕ → Configuration
place_of n state context = record { state = vector n state; context = context }

-- the rules agree in the configurations of the numbers below n
abbrev pub AgreeBelow : List ContextRule → PlainGraph → ℕ → Type 0
AgreeBelow rules graph n = (i : ℕ) → i < n → HasOneMoveAt rules (graph.configuration i)

-- the rule of number k is the first that counts in the configuration of some number
pub record ServesIn (rules : List ContextRule) (graph : PlainGraph) (k : ℕ) : Type 0 where
  pub node : ℕ
  pub below : node < graph.size
  pub first : IsFirstAt rules (graph.configuration node) k
