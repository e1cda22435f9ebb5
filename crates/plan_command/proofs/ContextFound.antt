-- What the planners of plans with contexts find is what is looked for.
use Rattle.std.proofs.Common.{◌≡◌, ℕ, ◌+◌, ◌*◌, suc, List, length, Result, Ok, Err, sym, ap, ◌∙◌}
use Rattle.std.specs.Prelude.{IfOk, IsErrOf}
use Rattle.std.proofs.lemmas.List.{length-map}
use Rattle.plan_theory.specs.PatrolPlans.{HasNoPatrolPlan}
use Rattle.plan_theory.specs.UntilChains.{UntilSets}
use Rattle.plan_theory.specs.UntilPlans.{HasNoUntilPlan}
use Rattle.ctl_syntax.specs.Conditions.{states_of}
use Rattle.ctl_syntax.specs.GoalValues.{stage_sets}
use Rattle.ctl_syntax.specs.declared.context_goals.ContextGoal.{ContextGoal}
use Rattle.ctl_syntax.specs.declared.context_goals.UntilChain.{UntilChain}
use Rattle.dd_sets.specs.LiveSets.{LiveSets}
use Rattle.dd_sets.specs.Rooms.{NoRoom}
use Rattle.dd_sets.specs.declared.errors.SetErr.{SetErr}
use Rattle.dd_sets.specs.declared.errors.SetErr.TheVariants.{Full}
use Rattle.context_plan.specs.Chains.{until_sets, visit_sets}
use Rattle.context_plan.specs.Found.{IfNoPlan, IfPlan}
use Rattle.context_plan.specs.PatrolWorkingSets.{BoundsPatrolSets}
use Rattle.context_plan.specs.declared.found.FoundAuto.{FoundAuto}
use Rattle.context_plan.specs.declared.found.FoundAuto.TheVariants.{NoPlan, Plan}
use Rattle.plan_rules.specs.Denoted.{denoted_contexts}
use Rattle.plan_rules.specs.Plans.{IsAutomatonOf}
use Rattle.plan_rules.specs.Rules.{context_rules_of}
use Rattle.task_core.specs.ContextPlans.{Configuration, IsComplete, IsInitial}
use Rattle.task_core.specs.Cubes.{SetOfVectors}
use Rattle.task_core.specs.Systems.{System}
use Rattle.task_core.specs.Tasks.{action_count, fluent_count, system_of}
use Rattle.task_core.specs.declared.conditions.Cond.{Cond}
use Rattle.task_core.specs.declared.tasks.Task.{Task}
use Rattle.plan_command.specs.Enough.{BoundsGoalSets}
use Rattle.plan_command.specs.FoundGoals.{IsGoalSearched}
use Rattle.plan_command.specs.GoalSets.{GoalSets, HasNoGoalPlan, HasSets, contexts_for, of_patrol, of_until, rules_for}
use Rattle.ctl_syntax.specs.GoalSizes.{count_of}

-- a plan is what is looked for, and that there is none
found_goal : (task : Task) (sets : GoalSets) (count : ℕ) (None : Type 0) (result : Result FoundAuto SetErr) → count ≡ contexts_for sets → (None → HasNoGoalPlan (system_of task) sets)
    → IfOk result (λ found. IfPlan found (λ plan. plan.contexts ≡ count))
    → IfOk result (λ found. IfPlan found (λ plan. context_rules_of plan ≡ rules_for (system_of task) sets))
    → IfOk result (λ found. IfPlan found (λ plan. IsAutomatonOf (fluent_count task) (action_count task) plan.contexts (context_rules_of plan)))
    → IfOk result (λ found. IfPlan found (λ plan. IsComplete (system_of task) (denoted_contexts (context_rules_of plan))))
    → IfOk result (λ found. IfPlan found (λ plan. (x : Configuration) → IsInitial (system_of task) x → HasSets (system_of task) (denoted_contexts (context_rules_of plan)) sets x))
    → IfOk result (λ found. IfNoPlan found None)
    → IsGoalSearched task sets result
found_goal task sets count None (Ok (Plan plan)) same never contexts printed in_task complete has none = record {
  contexts = contexts ∙ same;
  in_task = in_task;
  printed = printed;
  has = record { complete = complete; has = has };
}
found_goal task sets count None (Ok NoPlan) same never contexts printed in_task complete has none = never none
found_goal task sets count None (Err e) same never contexts printed in_task complete has none = tt

no_until_plan : (sys : System) (chain : UntilSets) → HasNoUntilPlan sys chain → HasNoGoalPlan sys (of_until chain)
no_until_plan sys chain none plan is = none plan (record { complete = is.complete; has = is.has })

no_patrol_plan : (sys : System) (visits : List SetOfVectors) → HasNoPatrolPlan sys visits → HasNoGoalPlan sys (of_patrol visits)
no_patrol_plan sys visits none plan is = none plan (record { complete = is.complete; has = is.has })

pub found_until : (task : Task) (chain : UntilChain) (result : Result FoundAuto SetErr)
    → IfOk result (λ found. IfPlan found (λ plan. plan.contexts ≡ suc (length chain.stages.items)))
    → IfOk result (λ found. IfPlan found (λ plan. context_rules_of plan ≡ rules_for (system_of task) (of_until (until_sets chain))))
    → IfOk result (λ found. IfPlan found (λ plan. IsAutomatonOf (fluent_count task) (action_count task) plan.contexts (context_rules_of plan)))
    → IfOk result (λ found. IfPlan found (λ plan. IsComplete (system_of task) (denoted_contexts (context_rules_of plan))))
    → IfOk result (λ found. IfPlan found (λ plan. (x : Configuration) → IsInitial (system_of task) x → HasSets (system_of task) (denoted_contexts (context_rules_of plan)) (of_until (until_sets chain)) x))
    → IfOk result (λ found. IfNoPlan found (HasNoUntilPlan (system_of task) (until_sets chain)))
    → IsGoalSearched task (of_until (until_sets chain)) result
found_until task chain result =
    found_goal task (of_until (until_sets chain)) (suc (length chain.stages.items)) (HasNoUntilPlan (system_of task) (until_sets chain)) result
    (ap suc (sym (length-map chain.stages.items stage_sets))) (no_until_plan (system_of task) (until_sets chain))

pub found_patrol : (task : Task) (visits : List Cond) (result : Result FoundAuto SetErr)
    → IfOk result (λ found. IfPlan found (λ plan. plan.contexts ≡ length visits))
    → IfOk result (λ found. IfPlan found (λ plan. context_rules_of plan ≡ rules_for (system_of task) (of_patrol (visit_sets visits))))
    → IfOk result (λ found. IfPlan found (λ plan. IsAutomatonOf (fluent_count task) (action_count task) plan.contexts (context_rules_of plan)))
    → IfOk result (λ found. IfPlan found (λ plan. IsComplete (system_of task) (denoted_contexts (context_rules_of plan))))
    → IfOk result (λ found. IfPlan found (λ plan. (x : Configuration) → IsInitial (system_of task) x → HasSets (system_of task) (denoted_contexts (context_rules_of plan)) (of_patrol (visit_sets visits)) x))
    → IfOk result (λ found. IfNoPlan found (HasNoPatrolPlan (system_of task) (visit_sets visits)))
    → IsGoalSearched task (of_patrol (visit_sets visits)) result
found_patrol task visits result =
    found_goal task (of_patrol (visit_sets visits)) (length visits) (HasNoPatrolPlan (system_of task) (visit_sets visits)) result
    (sym (length-map visits states_of)) (no_patrol_plan (system_of task) (visit_sets visits))

-- why the table is full
abbrev pub IsFullFor : Task → LiveSets → LiveSets → Result FoundAuto SetErr → ContextGoal → Type 0
IsFullFor task before after result goal =
    IsErrOf result Full → (w : ℕ) → BoundsGoalSets goal task w
    → NoRoom w (action_count task * (count_of goal + 3) + 8 * count_of goal + 236) 16 before after

abbrev pub IsPatrolFull : Task → LiveSets → LiveSets → Result FoundAuto SetErr → List Cond → Type 0
IsPatrolFull task before after result visits =
    IsErrOf result Full → (w : ℕ) → BoundsPatrolSets w task visits
    → NoRoom w (action_count task * (length visits + 3) + 8 * length visits + 236) 16 before after
