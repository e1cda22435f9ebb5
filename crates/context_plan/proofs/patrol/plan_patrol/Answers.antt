use Rattle.std.proofs.Common.{◌≡◌, ◌∙◌, length, refl}
use Rattle.plan_theory.specs.PatrolPrinted.{patrol_rules}
use Rattle.plan_theory.specs.Patrols.{HasPatrol}
use Rattle.plan_rules.specs.Denoted.{denoted_contexts}
use Rattle.plan_rules.specs.Plans.{IsAutomatonOf}
use Rattle.plan_rules.specs.Rules.{context_rules_of}
use Rattle.preimage.proofs.FrameSteps.{made_now}
use Rattle.task_core.specs.ContextPlans.{Configuration, IsComplete, IsInitial}
use Rattle.task_core.specs.Tasks.{action_count, fluent_count, system_of}
use Rattle.context_plan.specs.Chains.{visit_sets}
use Rattle.context_plan.proofs.PatrolPlan.{patrol_answer_none, patrol_answer_plan, visit_count}
use Rattle.context_plan.proofs.patrol.plan_patrol.Goals as goal

pub returns-clause-contexts : goal.returns-clause-contexts
returns-clause-contexts c =
    let sys = system_of c.args.task.now in
    patrol_answer_plan c.args.task.now (visit_sets c.args.visits.now) (λ plan. plan.contexts ≡ length c.args.visits.now) c.find_patrol.result (λ plan is. is.contexts ∙ visit_count c.args.visits.now (length c.args.visits.now) refl) c.find_patrol.ensures.answer

pub returns-clause-printed : goal.returns-clause-printed
returns-clause-printed c =
    let sys = system_of c.args.task.now in
    patrol_answer_plan c.args.task.now (visit_sets c.args.visits.now) (λ plan. context_rules_of plan ≡ patrol_rules sys (visit_sets c.args.visits.now)) c.find_patrol.result (λ plan is. is.printed) c.find_patrol.ensures.answer

pub returns-clause-in_task : goal.returns-clause-in_task
returns-clause-in_task c =
    let sys = system_of c.args.task.now in
    patrol_answer_plan c.args.task.now (visit_sets c.args.visits.now) (λ plan. IsAutomatonOf (fluent_count c.args.task.now) (action_count c.args.task.now) plan.contexts (context_rules_of plan)) c.find_patrol.result (λ plan is. is.in_task) c.find_patrol.ensures.answer

pub returns-clause-complete : goal.returns-clause-complete
returns-clause-complete c =
    let sys = system_of c.args.task.now in
    patrol_answer_plan c.args.task.now (visit_sets c.args.visits.now) (λ plan. IsComplete sys (denoted_contexts (context_rules_of plan))) c.find_patrol.result (λ plan is. is.solves.complete) c.find_patrol.ensures.answer

pub returns-clause-solves : goal.returns-clause-solves
returns-clause-solves c =
    let sys = system_of c.args.task.now in
    patrol_answer_plan c.args.task.now (visit_sets c.args.visits.now) (λ plan. (x : Configuration) → IsInitial sys x → HasPatrol sys (denoted_contexts (context_rules_of plan)) (visit_sets c.args.visits.now) x) c.find_patrol.result (λ plan is. is.solves.has) c.find_patrol.ensures.answer

pub returns-clause-no_plan : goal.returns-clause-no_plan
returns-clause-no_plan c =
    patrol_answer_none c.args.task.now (visit_sets c.args.visits.now) c.find_patrol.result c.find_patrol.ensures.answer

pub returns-clause-made : goal.returns-clause-made
returns-clause-made c task made =
    made_now task c.args.enc.now c.find_patrol.new.enc c.find_patrol.ensures.same_slots c.find_patrol.ensures.slots.kept made
