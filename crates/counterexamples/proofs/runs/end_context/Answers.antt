use Rattle.std.proofs.Common.{◌≡◌, ◌-◌, ap, length, List, slice_get, Some, subst, sym}
use Rattle.task_core.specs.States.{vector}
use Rattle.exec_graph.specs.Orders.{in_first}
use Rattle.plan_witness.specs.declared.runs.RunStep.{RunStep}
use Rattle.counterexamples.proofs.Ends.{last_step}
use Rattle.counterexamples.proofs.runs.end_context.Goals as goal

pub returns-in-Some : goal.returns-in-Some
returns-in-Some c = λ n.
    let last : slice_get c.args.run.now.steps.items (length c.args.run.now.steps.items - 1) ≡ Some c.in-Some.step.now =
    subst (λ (xs : List RunStep). slice_get xs (length xs - 1) ≡ Some c.in-Some.step.now) c.deref.ensures.value (sym c.in-Some.ensures.value) in
    sym (ap (λ x. x.context) (last_step n (in_first (vector n c.args.run.now.start)) c.args.run.now.steps.items c.in-Some.step.now last))
