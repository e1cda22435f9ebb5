-- The order in which the configurations of a plan are met.
use Rattle.std.specs.Prelude.{◌≡◌, List, map}
use Rattle.std.specs.List.{flat_map, fold}
use Rattle.task_core.specs.Vectors.{Vector}
use Rattle.task_core.specs.Systems.{System}
use Rattle.task_core.specs.ContextPlans.{Configuration, first_context}
use Rattle.plan_rules.specs.Rules.{PlainPlan}
use Rattle.exec_graph.specs.Counting.{add_configuration, moves_from}

-- a state in the first context
abbrev pub in_first : Vector → Configuration
in_first s = record { state = s; context = first_context }

-- the configurations to which the plan goes on from x, in the order of the rules that count there
-- and of the outcomes of their actions, each once
abbrev pub onward : System → PlainPlan → Configuration → List Configuration
onward sys plan x = (moves_from sys plan x).next

-- the configurations stand in the order in which a search by breadth meets them: those in which an
-- execution may begin, in the order of the initial states, and then of each in its turn those to
-- which the plan goes on, each where it is met first
abbrev pub AreInOrderMet : System → PlainPlan → List Configuration → Type 0
AreInOrderMet sys plan xs =
    xs ≡ fold add_configuration (map in_first sys.initial) (flat_map (onward sys plan) xs)
