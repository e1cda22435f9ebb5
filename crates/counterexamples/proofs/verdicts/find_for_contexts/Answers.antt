use Rattle.std.proofs.Common.{refl, subst, sym}
use Rattle.task_core.specs.Tasks.{fluent_count}
use Rattle.plan_rules.specs.Rules.{plain_of}
use Rattle.counterexamples.specs.Aims.{HasGoalFor}
use Rattle.counterexamples.specs.ForVerdicts.{IsContextFinding, IsFinding}
use Rattle.counterexamples.specs.Values.{run_found_value}
use Rattle.counterexamples.specs.declared.aims.Aim.{Aim}
use Rattle.counterexamples.proofs.Told.{asks_no_goal}
use Rattle.counterexamples.proofs.verdicts.find_for_contexts.Goals as goal

pub run_for-requires-clause-goal : goal.run_for-requires-clause-goal
run_for-requires-clause-goal c =
    subst (λ (aim : Aim). HasGoalFor aim c.args.scene.now.task.now) (sym c.context_aim.ensures) (asks_no_goal c.args.verdict.now c.args.scene.now.task.now)

pub returns : goal.returns
returns c =
    let task = c.args.scene.now.task.now in
    let n = fluent_count task in
    let plan = plain_of c.args.scene.now.plan.now in
    subst (IsContextFinding c.args.verdict.now task plan) (sym (c.with_run.ensures n))
    (record { run = subst (λ (aim : Aim). IsFinding aim task plan (run_found_value n c.in_ok-run.run')) c.context_aim.ensures c.in_ok-run.ensures.run; only = refl })
