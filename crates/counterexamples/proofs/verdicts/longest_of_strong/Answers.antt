use Rattle.std.proofs.Common.{IfOk, subst, sym}
use Rattle.task_core.specs.Tasks.{fluent_count, system_of}
use Rattle.task_core.specs.declared.classes.Class.TheVariants.{Strong}
use Rattle.plan_check.specs.declared.verdicts.Verdict.{Verdict}
use Rattle.plan_rules.specs.Rules.{plain_of}
use Rattle.counterexamples.specs.Longest.{IsClassVerdict, IsLongestFor}
use Rattle.counterexamples.specs.Values.{run_found_value}
use Rattle.counterexamples.proofs.verdicts.longest_of_strong.Goals as goal

pub longest_within-requires-clause-verdict : goal.longest_within-requires-clause-verdict
longest_within-requires-clause-verdict c =
    subst (IsClassVerdict Strong (system_of c.args.scene.now.task.now) (plain_of c.args.scene.now.plan.now)) c.in-Yes.is c.requires.verdict

pub returns-in-Yes : goal.returns-in-Yes
returns-in-Yes c =
    let task = c.args.scene.now.task.now in
    subst (λ (v : Verdict). IfOk c.longest_within.result (λ o. IsLongestFor Strong v task (plain_of c.args.scene.now.plan.now) (run_found_value (fluent_count task) o))) (sym c.in-Yes.is) c.longest_within.ensures
