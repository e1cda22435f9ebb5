-- The strong cyclic plan that is printed: which of the solutions it is. That it is one, and that
-- there is none where none is printed, is said by paths and tables alone.
use Rattle.std.specs.Prelude.{ℕ, ◌^◌, List, Option}
use Rattle.task_core.specs.Vectors.{Vector}
use Rattle.task_core.specs.Systems.{System}
use Rattle.task_core.specs.declared.classes.Class.TheVariants.{Weak}
use Rattle.plan_rules.specs.Rules.{PlanRule}
use Rattle.plan_theory.specs.LayerPlans.{chosen_action, printed_rules}
use Rattle.plan_theory.specs.Pairs.{Pairs, restricted}

-- the action of a state: the least-numbered one of its pairs with an outcome that is one step
-- nearer to the goal by pairs of the set. Goal states, and states without a pair, have none
abbrev pub progress_action : System → Pairs → Vector → Option ℕ
progress_action sys pairs = chosen_action Weak (restricted sys pairs) (2 ^ sys.fluents)

-- actions in rising number, and for each the cubes of the states that take it
abbrev pub cyclic_rules : System → Pairs → List PlanRule
cyclic_rules sys pairs = printed_rules Weak (restricted sys pairs) (2 ^ sys.fluents)
