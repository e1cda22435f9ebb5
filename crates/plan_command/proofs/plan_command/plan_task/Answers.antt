use Rattle.std.proofs.Common.{refl, rules}
use Rattle.plan_rules.proofs.Spelled.{task_spells}
use Rattle.plan_rules.specs.declared.rules.Plan.TheVariants.{Table}
use Rattle.plan_command.specs.FoundPlans.{IsFoundPlan}
use Rattle.plan_command.proofs.PlanAnswers.{plan_is_result}
use Rattle.plan_command.proofs.plan_command.plan_task.Goals as goal

pub returns-in-Some-Table-clause-plan : goal.returns-in-Some-Table-clause-plan
returns-in-Some-Table-clause-plan c =
    let t = c.args.task.now in
    let class = c.args.wanted.now.class in
    let table = c.in-Some-Table.table in
    search (rules, λ (found : IsFoundPlan class t table). plan_is_result c.args.wanted.now.certified class t c.tasks_have_systems.ensures.system table _ found (task_spells t (Table table) found.answer.in_task) refl)
