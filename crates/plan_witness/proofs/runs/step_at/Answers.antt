use Rattle.std.proofs.Common.{sym, subst}
use Rattle.task_core.specs.States.{vector}
use Rattle.task_core.specs.Tasks.{fluent_count, system_of}
use Rattle.plan_rules.specs.Rules.{plain_of}
use Rattle.plan_witness.specs.Runs.{IsStepOf}
use Rattle.plan_witness.proofs.FoundRuns.{goes_between}
use Rattle.plan_witness.proofs.Meanings.{at_place}
use Rattle.plan_witness.proofs.runs.step_at.Goals as goal

pub taken_between-taken-requires-clause-from : goal.taken_between-taken-requires-clause-from
taken_between-taken-requires-clause-from c = c.state-source.ensures.within (fluent_count c.args.scene.now.task.now) c.requires.scene.within

pub taken_between-taken-requires-clause-to : goal.taken_between-taken-requires-clause-to
taken_between-taken-requires-clause-to c = c.state-target.ensures.within (fluent_count c.args.scene.now.task.now) c.requires.scene.within

pub taken_between-taken-requires-clause-follows : goal.taken_between-taken-requires-clause-follows
taken_between-taken-requires-clause-follows c =
    let n = fluent_count c.args.scene.now.task.now in
    goes_between c.args.scene.now.task.now c.args.scene.now.plan.now c.args.scene.now.graph.now c.requires.scene.graph c.args.from c.args.to _ _ _ _ c.requires.from c.requires.follows
    (c.state-source.ensures.state n) (c.context-context.ensures n) (c.state-target.ensures.state n) (c.context-next.ensures n)

pub returns-clause-step : goal.returns-clause-step
returns-clause-step c =
    let n = fluent_count c.args.scene.now.task.now in
    subst (λ x. IsStepOf (system_of c.args.scene.now.task.now) (plain_of c.args.scene.now.plan.now) x
    (record {
      rule = c.taken_between-taken.result.rule;
      action = c.taken_between-taken.result.action.0;
      outcome = c.taken_between-taken.result.outcome;
      after = record { state = vector n c.state-target.result.now; context = c.context-next.result };
    }))
    (sym (at_place n c.args.scene.now.graph.now c.args.from _ _ (c.state-source.ensures.state n) (c.context-context.ensures n))) c.taken_between-taken.ensures.step

pub returns-clause-after : goal.returns-clause-after
returns-clause-after c =
    let n = fluent_count c.args.scene.now.task.now in
    sym (at_place n c.args.scene.now.graph.now c.args.to _ _ (c.state-target.ensures.state n) (c.context-next.ensures n))

pub returns-clause-within : goal.returns-clause-within
returns-clause-within c = c.state-target.ensures.within (fluent_count c.args.scene.now.task.now) c.requires.scene.within
