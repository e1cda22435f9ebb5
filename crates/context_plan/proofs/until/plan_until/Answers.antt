use Rattle.std.proofs.Common.{◌≡◌, arith, length, refl, suc}
use Rattle.plan_theory.specs.UntilChains.{HasUntil}
use Rattle.plan_theory.specs.UntilPrinted.{until_rules}
use Rattle.plan_rules.specs.Denoted.{denoted_contexts}
use Rattle.plan_rules.specs.Plans.{IsAutomatonOf}
use Rattle.plan_rules.specs.Rules.{context_rules_of}
use Rattle.preimage.proofs.FrameSteps.{made_now}
use Rattle.task_core.specs.ContextPlans.{Configuration, IsComplete, IsInitial}
use Rattle.task_core.specs.Tasks.{action_count, fluent_count, system_of}
use Rattle.context_plan.specs.Chains.{until_sets}
use Rattle.context_plan.proofs.PlanSteps.{answer_no_plan, answer_plan, stage_count}
use Rattle.context_plan.proofs.until.plan_until.Goals as goal

pub returns-clause-contexts : goal.returns-clause-contexts
returns-clause-contexts c =
    let sys = system_of c.args.task.now in
    answer_plan c.args.task.now (until_sets c.args.chain.now) (λ plan. plan.contexts ≡ suc (length c.args.chain.now.stages.items)) c.find_until.result (λ plan is. let long = stage_count c.args.chain.now (length c.args.chain.now.stages.items) refl in omega (arith, is.contexts)) c.find_until.ensures.answer

pub returns-clause-printed : goal.returns-clause-printed
returns-clause-printed c =
    let sys = system_of c.args.task.now in
    answer_plan c.args.task.now (until_sets c.args.chain.now) (λ plan. context_rules_of plan ≡ until_rules sys (until_sets c.args.chain.now)) c.find_until.result (λ plan is. is.printed) c.find_until.ensures.answer

pub returns-clause-in_task : goal.returns-clause-in_task
returns-clause-in_task c =
    let sys = system_of c.args.task.now in
    answer_plan c.args.task.now (until_sets c.args.chain.now) (λ plan. IsAutomatonOf (fluent_count c.args.task.now) (action_count c.args.task.now) plan.contexts (context_rules_of plan)) c.find_until.result (λ plan is. is.in_task) c.find_until.ensures.answer

pub returns-clause-complete : goal.returns-clause-complete
returns-clause-complete c =
    let sys = system_of c.args.task.now in
    answer_plan c.args.task.now (until_sets c.args.chain.now) (λ plan. IsComplete sys (denoted_contexts (context_rules_of plan))) c.find_until.result (λ plan is. is.solves.complete) c.find_until.ensures.answer

pub returns-clause-solves : goal.returns-clause-solves
returns-clause-solves c =
    let sys = system_of c.args.task.now in
    answer_plan c.args.task.now (until_sets c.args.chain.now) (λ plan. (x : Configuration) → IsInitial sys x → HasUntil sys (denoted_contexts (context_rules_of plan)) (until_sets c.args.chain.now) x) c.find_until.result (λ plan is. is.solves.has) c.find_until.ensures.answer

pub returns-clause-no_plan : goal.returns-clause-no_plan
returns-clause-no_plan c =
    answer_no_plan c.args.task.now (until_sets c.args.chain.now) c.find_until.result c.find_until.ensures.answer

pub returns-clause-made : goal.returns-clause-made
returns-clause-made c task made =
    made_now task c.args.enc.now c.find_until.new.enc c.find_until.ensures.same_slots c.find_until.ensures.slots.kept made
