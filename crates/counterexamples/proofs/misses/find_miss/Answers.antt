use Rattle.std.proofs.Common.{Option, subst}
use Rattle.std.specs.Prelude.{IfSome}
use Rattle.ctl_syntax.specs.Values.{ctl_value}
use Rattle.goal_witness.proofs.Lined.{few_steps}
use Rattle.goal_witness.specs.Witnesses.{IsWitness, witness_value}
use Rattle.goal_witness.specs.declared.witnesses.Witness.{Witness}
use Rattle.plan_rules.specs.Rules.{plain_of}
use Rattle.task_core.specs.Tasks.{fluent_count, system_of}
use Rattle.counterexamples.proofs.misses.find_miss.Goals as goal

pub told-requires-clause-few : goal.told-requires-clause-few
told-requires-clause-few c =
    let n = fluent_count c.args.task.now in
    let sys = system_of c.args.task.now in
    let plan = plain_of c.args.plan.now in
    let tree = ctl_value c.args.by.goal.now in
    few_steps n sys plan tree c.in-Some.witness
    (subst (λ (o : Option Witness). IfSome o (λ w. IsWitness sys plan tree (witness_value n w))) c.in-Some.is c.in_ok-witness.ensures.witness)
