-- What is shown of what was found where a plan was looked for.
use Rattle.std.specs.Prelude.{Result, Ok, Err, ⊤}
use Rattle.plan_rules.specs.Plans.{IsPlanOf, plan_text}
use Rattle.task_core.specs.Tasks.{action_count, action_names, fluent_count, fluent_names}
use Rattle.task_core.specs.declared.tasks.Task.{Task}
use Rattle.command_base.specs.Answers.{Answer, affirmed, denied, refused}
use Rattle.command_base.specs.Values.{bytes_of, refusal_of}
use Rattle.command_base.specs.declared.answers.Refusal.{Refusal}
use Rattle.plan_command.specs.declared.planned.Planned.{Planned}
use Rattle.plan_command.specs.declared.planned.Planned.TheVariants.{Missing, Plan}

-- the text of the plan, over the names of the task; or that there is none
abbrev pub shown_planned : Task → Planned → Answer
shown_planned task (Plan plan) =
    affirmed (plan_text (fluent_names task) (action_names task) plan)
shown_planned task (Missing text) = denied (bytes_of text)

-- the same, or a refusal
abbrev pub planned_answer : Task → Result Planned Refusal → Answer
planned_answer task (Ok planned) = shown_planned task planned
planned_answer task (Err refusal) = refused (refusal_of refusal)

-- a plan that was found is over the fluents and actions of the task
abbrev pub IsPlannedFor : Task → Planned → Type 0
IsPlannedFor task (Plan plan) = IsPlanOf (fluent_count task) (action_count task) plan
IsPlannedFor task (Missing text) = ⊤
