use Rattle.std.proofs.Common.{IfOk, Option, subst, sym, ℕ}
use Rattle.task_core.specs.Tasks.{fluent_count, system_of}
use Rattle.task_core.specs.declared.classes.Class.TheVariants.{Strong}
use Rattle.plan_check.specs.declared.verdicts.Verdict.TheVariants.{Yes}
use Rattle.plan_rules.specs.Rules.{plain_of}
use Rattle.counterexamples.specs.Longest.{IsClassVerdict, IsLongestFor}
use Rattle.counterexamples.specs.Values.{run_found_value}
use Rattle.counterexamples.proofs.verdicts.longest_within.Goals as goal

pub find_longest-requires-clause-verdict : goal.find_longest-requires-clause-verdict
find_longest-requires-clause-verdict c =
    subst (λ (b : Option ℕ). IsClassVerdict Strong (system_of c.args.scene.now.task.now) (plain_of c.args.scene.now.plan.now) (Yes b)) c.in-Some.is c.requires.verdict

pub returns-in-Some : goal.returns-in-Some
returns-in-Some c =
    let task = c.args.scene.now.task.now in
    subst (λ (b : Option ℕ). IfOk c.find_longest.result (λ o. IsLongestFor Strong (Yes b) task (plain_of c.args.scene.now.plan.now) (run_found_value (fluent_count task) o))) (sym c.in-Some.is) c.find_longest.ensures
