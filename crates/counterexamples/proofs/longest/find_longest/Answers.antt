use Rattle.std.proofs.Common.{◌≤◌, Option, length, subst, arith}
use Rattle.std.specs.Prelude.{IfNone, IfSome}
use Rattle.std.proofs.lemmas.List.{length-map}
use Rattle.task_core.specs.ContextPlans.{Configuration, IsInitial}
use Rattle.task_core.specs.Tasks.{fluent_count, system_of}
use Rattle.plan_rules.specs.Rules.{plain_of}
use Rattle.plan_witness.specs.Longest.{IsLongestRun}
use Rattle.plan_witness.specs.Values.{run_value, step_value}
use Rattle.plan_witness.specs.Within.{IsRunWithin}
use Rattle.plan_witness.specs.declared.runs.Run.{Run}
use Rattle.counterexamples.specs.Places.{EndsReached}
use Rattle.counterexamples.proofs.LongestRuns.{longest_found, within_bound}
use Rattle.counterexamples.proofs.longest.find_longest.Goals as goal

pub longest_to-requires-clause-bounded : goal.longest_to-requires-clause-bounded
longest_to-requires-clause-bounded c =
    within_bound c.args.scene.now.task.now (plain_of c.args.scene.now.plan.now) c.args.bound c.requires.verdict

pub initial_number-requires-clause-within : goal.initial_number-requires-clause-within
initial_number-requires-clause-within c =
    (subst (λ (o : Option Run). IfSome o (IsRunWithin (fluent_count c.args.scene.now.task.now))) c.in-Some.is c.in_ok-run.ensures.within).start

pub initial_number-requires-clause-initial : goal.initial_number-requires-clause-initial
initial_number-requires-clause-initial c =
    let task = c.args.scene.now.task.now in
    (subst (λ (o : Option Run). IfSome o (λ run. IsLongestRun (system_of task) (plain_of c.args.scene.now.plan.now) (run_value (fluent_count task) run))) c.in-Some.is c.in_ok-run.ensures.longest).initial.state

pub returns-in_ok-number-in-Some : goal.returns-in_ok-number-in-Some
returns-in_ok-number-in-Some c =
    let task = c.args.scene.now.task.now in
    let n = fluent_count task in
    let sys = system_of task in
    let plan = plain_of c.args.scene.now.plan.now in
    let run = c.in-Some.run' in
    let longest = subst (λ (o : Option Run). IfSome o (λ r. IsLongestRun sys plan (run_value n r))) c.in-Some.is c.in_ok-run.ensures.longest in
    let bounded = subst (λ (o : Option Run). IfSome o (λ r. length r.steps.items ≤ c.args.bound)) c.in-Some.is c.in_ok-run.ensures.bounded in
    let reached = subst (λ (o : Option Run). IfSome o (λ r. EndsReached c.args.scene.now r)) c.in-Some.is c.in_ok-run.ensures.reached in
    let same = length-map run.steps.items (step_value n) in
    longest_found task plan c.args.bound c.in_ok-number-in-Some.number c.len-stem.result (run_value n run) c.requires.verdict c.in_ok-number-in-Some.ensures longest (omega (arith, bounded, same)) reached
    (omega (arith, run.steps.ok.0, c.len-stem.ensures, same))

pub returns-in-None : goal.returns-in-None
returns-in-None c =
    subst (λ (o : Option Run). IfNone o ((x : Configuration) → IsInitial (system_of c.args.scene.now.task.now) x → ⊥)) c.in-None.is c.in_ok-run.ensures.none
