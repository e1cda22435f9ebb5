use Rattle.std.proofs.Common.{IfOk, subst, sym}
use Rattle.task_core.specs.Tasks.{fluent_count, system_of}
use Rattle.task_core.specs.declared.classes.Class.{Class}
use Rattle.plan_rules.specs.Rules.{plain_of}
use Rattle.counterexamples.specs.Longest.{IsClassVerdict, IsLongestFor}
use Rattle.counterexamples.specs.Values.{run_found_value}
use Rattle.counterexamples.proofs.verdicts.longest_for.Goals as goal

pub longest_of_strong-requires-clause-verdict : goal.longest_of_strong-requires-clause-verdict
longest_of_strong-requires-clause-verdict c =
    subst (λ (class : Class). IsClassVerdict class (system_of c.args.scene.now.task.now) (plain_of c.args.scene.now.plan.now) c.args.verdict.now) c.in-Strong.is c.requires.verdict

pub returns-in-Strong : goal.returns-in-Strong
returns-in-Strong c =
    let task = c.args.scene.now.task.now in
    subst (λ (class : Class). IfOk c.longest_of_strong.result (λ o. IsLongestFor class c.args.verdict.now task (plain_of c.args.scene.now.plan.now) (run_found_value (fluent_count task) o))) (sym c.in-Strong.is) c.longest_of_strong.ensures
