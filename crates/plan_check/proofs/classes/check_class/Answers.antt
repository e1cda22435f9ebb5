use Rattle.std.proofs.Common.{ap, sym, ◌∙◌, subst}
use Rattle.std.specs.Prelude.{IfOk}
use Rattle.std.specs.Option.{option_copied}
use Rattle.task_core.specs.Tasks.{fluent_count, system_of}
use Rattle.plan_rules.specs.Rules.{table}
use Rattle.plan_check.specs.Verdicts.{IsVerdict}
use Rattle.plan_check.proofs.GraphVerdicts.{bad_rule, can_follow, goal_small, never_follows}
use Rattle.plan_check.proofs.SpreadSteps.{graph_turned}
use Rattle.plan_check.proofs.classes.check_class.Goals as goal

pub returns-then-unexecutable-clause-verdict : goal.returns-then-unexecutable-clause-verdict
returns-then-unexecutable-clause-verdict g c = λ word rules h.
    never_follows (system_of c.args.task.now) rules c.args.class (bad_rule (system_of c.args.task.now) word rules (fluent_count c.args.task.now) c.args.graph.now h (sym (c.unexecutable.ensures 0) ∙ c.if-unexecutable.true))

pub check_weak-requires-clause-goal : goal.check_weak-requires-clause-goal
check_weak-requires-clause-goal g c = goal_small c.args.task.now c.unwrap-goal.result.now (sym c.as_ref.ensures.value ∙ ap option_copied c.unwrap-goal.ensures)

pub check_strong-requires-clause-goal : goal.check_strong-requires-clause-goal
check_strong-requires-clause-goal g c = goal_small c.args.task.now c.unwrap-goal.result.now (sym c.as_ref.ensures.value ∙ ap option_copied c.unwrap-goal.ensures)

pub check_cyclic-requires-clause-goal : goal.check_cyclic-requires-clause-goal
check_cyclic-requires-clause-goal g c = goal_small c.args.task.now c.unwrap-goal.result.now (sym c.as_ref.ensures.value ∙ ap option_copied c.unwrap-goal.ensures)

pub returns-in-Weak-clause-verdict : goal.returns-in-Weak-clause-verdict
returns-in-Weak-clause-verdict g c = λ word rules h.
    subst (λ k. IfOk c.check_weak.result (IsVerdict (system_of c.args.task.now) rules k)) (sym c.in-Weak.is)
    (c.check_weak.ensures.verdict c.args.task.now word rules (sym c.as_ref.ensures.value ∙ ap option_copied c.unwrap-goal.ensures) h (can_follow (system_of c.args.task.now) word rules (fluent_count c.args.task.now) c.args.graph.now h (sym (c.unexecutable.ensures 0) ∙ c.if-unexecutable.false)))

pub returns-in-Strong-clause-verdict : goal.returns-in-Strong-clause-verdict
returns-in-Strong-clause-verdict g c = λ word rules h.
    subst (λ k. IfOk c.check_strong.result (IsVerdict (system_of c.args.task.now) rules k)) (sym c.in-Strong.is)
    (c.check_strong.ensures.verdict c.args.task.now word rules (sym c.as_ref.ensures.value ∙ ap option_copied c.unwrap-goal.ensures) h (can_follow (system_of c.args.task.now) word rules (fluent_count c.args.task.now) c.args.graph.now h (sym (c.unexecutable.ensures 0) ∙ c.if-unexecutable.false)))

pub returns-in-Cyclic-clause-verdict : goal.returns-in-Cyclic-clause-verdict
returns-in-Cyclic-clause-verdict g c = λ word rules h.
    subst (λ k. IfOk c.check_cyclic.result (IsVerdict (system_of c.args.task.now) rules k)) (sym c.in-Cyclic.is)
    (c.check_cyclic.ensures.verdict c.args.task.now word rules (sym c.as_ref.ensures.value ∙ ap option_copied c.unwrap-goal.ensures) h (can_follow (system_of c.args.task.now) word rules (fluent_count c.args.task.now) c.args.graph.now h (sym (c.unexecutable.ensures 0) ∙ c.if-unexecutable.false)))

pub check_weak-requires-clause-turned : goal.check_weak-requires-clause-turned
check_weak-requires-clause-turned g c = graph_turned (system_of c.args.task.now) (table c.requires.graph.0 c.requires.graph.1.0) (fluent_count c.args.task.now) c.args.graph.now c.requires.graph.1.1

pub check_cyclic-requires-clause-turned : goal.check_cyclic-requires-clause-turned
check_cyclic-requires-clause-turned g c = graph_turned (system_of c.args.task.now) (table c.requires.graph.0 c.requires.graph.1.0) (fluent_count c.args.task.now) c.args.graph.now c.requires.graph.1.1

pub check_strong-requires-clause-turned : goal.check_strong-requires-clause-turned
check_strong-requires-clause-turned g c = graph_turned (system_of c.args.task.now) (table c.requires.graph.0 c.requires.graph.1.0) (fluent_count c.args.task.now) c.args.graph.now c.requires.graph.1.1
