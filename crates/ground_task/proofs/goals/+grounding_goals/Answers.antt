use Rattle.std.proofs.Common.{ap, ◌∙◌}
use Rattle.pddl_ast.specs.Values.{temporal_value}
use Rattle.pddl_system.specs.CtlGoals.{goal_value, grounded_goal}
use Rattle.ground_instances.specs.Tables.{setting_in}
use Rattle.ground_task.proofs.GoalLemmas.{of_All, of_Any, of_Binary, of_Unary}
use Rattle.ground_task.proofs.goals.+grounding_goals.Goals as goal

pub goal_over_conditions-returns-in_ok-goals_over_conditions-in-All : goal.goal_over_conditions-returns-in_ok-goals_over_conditions-in-All
goal_over_conditions-returns-in_ok-goals_over_conditions-in-All t c =
    of_All (setting_in c.args.setting.now) c.args.fluents.now c.args.goal.now c.in-All.parts _ c.in_ok-goals_over_conditions-in-All.field-0 c.in-All.is c.deref-in-All.ensures.value c.in_ok-goals_over_conditions-in-All.ensures

pub goal_over_conditions-returns-in_ok-goals_over_conditions-in-Any : goal.goal_over_conditions-returns-in_ok-goals_over_conditions-in-Any
goal_over_conditions-returns-in_ok-goals_over_conditions-in-Any t c =
    of_Any (setting_in c.args.setting.now) c.args.fluents.now c.args.goal.now c.in-Any.parts _ c.in_ok-goals_over_conditions-in-Any.field-0 c.in-Any.is c.deref-in-Any.ensures.value c.in_ok-goals_over_conditions-in-Any.ensures

pub goal_over_conditions-returns-in_ok-unary-in-Unary : goal.goal_over_conditions-returns-in_ok-unary-in-Unary
goal_over_conditions-returns-in_ok-unary-in-Unary t c =
    let grounded = grounded_goal (setting_in c.args.setting.now) c.args.fluents.now in
    c.in_ok-unary-in-Unary.ensures
    ∙ of_Unary (setting_in c.args.setting.now) c.args.fluents.now c.args.goal.now c.in-Unary.operator c.in-Unary.part (goal_value c.in_ok-made-in-Unary.made) c.in-Unary.is
    (c.in_ok-made-in-Unary.ensures ∙ ap (λ g. grounded (temporal_value g)) c.deref-in-Unary.ensures)

pub goal_over_conditions-returns-in_ok-binary-in-Binary : goal.goal_over_conditions-returns-in_ok-binary-in-Binary
goal_over_conditions-returns-in_ok-binary-in-Binary t c =
    let grounded = grounded_goal (setting_in c.args.setting.now) c.args.fluents.now in
    c.in_ok-binary-in-Binary.ensures
    ∙ of_Binary (setting_in c.args.setting.now) c.args.fluents.now c.args.goal.now c.in-Binary.operator c.in-Binary.left c.in-Binary.right (goal_value c.in_ok-first-in-Binary.first) (goal_value c.in_ok-second-in-Binary.second) c.in-Binary.is
    (c.in_ok-first-in-Binary.ensures ∙ ap (λ g. grounded (temporal_value g)) c.deref-in-Binary.ensures)
    (c.in_ok-second-in-Binary.ensures ∙ ap (λ g. grounded (temporal_value g)) c.deref-in-Binary-2.ensures)
