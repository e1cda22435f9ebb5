use Rattle.std.proofs.Common.{subst}
use Rattle.std.specs.Option.{option_map}
use Rattle.task_core.specs.Tasks.{fluent_count}
use Rattle.plan_rules.specs.Rules.{plain_of}
use Rattle.counterexamples.specs.ForVerdicts.{IsFinding}
use Rattle.counterexamples.specs.Stays.{IsStaysFor}
use Rattle.counterexamples.specs.Values.{run_found_value, stays_value}
use Rattle.counterexamples.specs.declared.aims.Aim.{Aim}
use Rattle.counterexamples.proofs.Told.{has_goal}
use Rattle.counterexamples.proofs.verdicts.find_for_class.Goals as goal

pub run_for-requires-clause-goal : goal.run_for-requires-clause-goal
run_for-requires-clause-goal c = has_goal c.class_aim-aim.result c.args.scene.now.task.now c.requires.goal

pub returns : goal.returns
returns c =
    let task = c.args.scene.now.task.now in
    let n = fluent_count task in
    let plan = plain_of c.args.scene.now.plan.now in
    let run = run_found_value n c.in_ok-run.run' in
    record {
      run = subst (λ (aim : Aim). IsFinding aim task plan run) c.class_aim-aim.ensures c.in_ok-run.ensures.run;
      longest = c.in_ok-longest.ensures;
      stays = subst (λ (aim : Aim). IsStaysFor aim task plan run (option_map stays_value c.in_ok-stays.stays)) c.class_aim-aim.ensures c.in_ok-stays.ensures;
    }
