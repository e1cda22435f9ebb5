use Rattle.std.proofs.Common.{subst, sym}
use Rattle.std.specs.Prelude.{IfNone, IfOk, IfSome}
use Rattle.task_core.specs.Tasks.{fluent_count, system_of}
use Rattle.plan_rules.specs.Rules.{plain_of}
use Rattle.plan_witness.specs.Runs.{IsShortestRun, NoneReached}
use Rattle.plan_witness.specs.Values.{run_value}
use Rattle.counterexamples.specs.Aims.{IsAimAt}
use Rattle.counterexamples.specs.declared.aims.Aim.{Aim}
use Rattle.counterexamples.proofs.runs.run_in.Goals as goal

pub returns-in-Inside-clause-shortest : goal.returns-in-Inside-clause-shortest
returns-in-Inside-clause-shortest g c =
    let n = fluent_count c.args.scene.now.task.now in
    let sys = system_of c.args.scene.now.task.now in
    let plan = plain_of c.args.scene.now.plan.now in
    subst (λ (aim : Aim). IfOk c.goal_run.result (λ found. IfSome found (λ run. IsShortestRun sys plan (IsAimAt aim sys plan) (run_value n run)))) (sym c.in-Inside.is) c.goal_run.ensures.shortest

pub returns-in-Outside-clause-shortest : goal.returns-in-Outside-clause-shortest
returns-in-Outside-clause-shortest g c =
    let n = fluent_count c.args.scene.now.task.now in
    let sys = system_of c.args.scene.now.task.now in
    let plan = plain_of c.args.scene.now.plan.now in
    subst (λ (aim : Aim). IfOk c.terminal_run.result (λ found. IfSome found (λ run. IsShortestRun sys plan (IsAimAt aim sys plan) (run_value n run)))) (sym c.in-Outside.is) c.terminal_run.ensures.shortest

pub returns-clause-none : goal.returns-clause-none
returns-clause-none g c =
    let sys = system_of c.args.scene.now.task.now in
    let plan = plain_of c.args.scene.now.plan.now in
    subst (λ (aim : Aim). IfOk c.endless_run.result (λ found. IfNone found (NoneReached sys plan (IsAimAt aim sys plan)))) (sym c.in-Endless.is) c.endless_run.ensures.none

pub returns-in-Round-clause-none : goal.returns-in-Round-clause-none
returns-in-Round-clause-none g c = absurd (c.requires.other c.in-Round.is)
