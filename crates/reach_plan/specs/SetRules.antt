-- The rules of the actions, from the sets at their places.
use Rattle.std.specs.Prelude.{ℕ, List, map}
use Rattle.dd_sets.specs.LiveSets.{LiveSets}
use Rattle.dd_sets.specs.declared.slots.SetId.{SetId}
use Rattle.plan_rules.specs.Rules.{PlanRule}
use Rattle.slot_board.specs.Board.{set_at}
use Rattle.slot_board.specs.Rules.{rule_for}
use Rattle.task_core.specs.Cubes.{cubes_of}
use Rattle.task_core.specs.Vectors.{value_of}

-- the rules that take an action in the states of its place
abbrev pub rules_of_place : LiveSets → List SetId → ℕ → List PlanRule
rules_of_place sets slots a =
    map (rule_for a) (cubes_of sets.vars (λ state. set_at sets slots a (value_of state)))
