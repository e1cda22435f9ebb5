use Rattle.std.proofs.Common.{Option, Some, refl, subst, sym}
use Rattle.task_core.specs.Tasks.{fluent_count}
use Rattle.plan_rules.specs.Rules.{plain_of}
use Rattle.counterexamples.specs.Stays.{AreStaysAfter}
use Rattle.counterexamples.specs.Values.{run_found_value, stays_value}
use Rattle.counterexamples.specs.declared.findings.Found.{Found}
use Rattle.counterexamples.proofs.stays.stays_if_found.Goals as goal

pub returns-in_ok-stays-in-Some : goal.returns-in_ok-stays-in-Some
returns-in_ok-stays-in-Some c =
    let task = c.args.scene.now.task.now in
    subst (λ (o : Option Found). AreStaysAfter task (plain_of c.args.scene.now.plan.now) (run_found_value (fluent_count task) o) (Some (stays_value c.in_ok-stays-in-Some.stays))) (sym c.in-Some.is)
    (stays_value c.in_ok-stays-in-Some.stays, refl, c.in_ok-stays-in-Some.ensures)
