use Rattle.std.proofs.Common.{sym, ◌∙◌, subst}
use Rattle.task_core.specs.Tasks.{fluent_count, system_of}
use Rattle.ctl_syntax.specs.Values.{ctl_value}
use Rattle.plan_rules.specs.Denoted.{denoted_contexts}
use Rattle.plan_rules.specs.Rules.{automaton}
use Rattle.plan_check.specs.ContextVerdicts.{IsTrueAt}
use Rattle.plan_check.specs.Plain.{HasMarkedStarts, HasUnmarkedStart}
use Rattle.plan_check.proofs.ContextLaws.{all_have, executes_always, few_names, gets_stuck, has_followers, may_get_stuck, may_not_execute, meets_formula, never_stuck, not_executed, one_misses}
use Rattle.plan_check.proofs.SpreadSteps.{graph_turned}
use Rattle.plan_check.proofs.contexts.check_ctl.Goals as goal

pub returns-then-unexecutable-clause-verdict : goal.returns-then-unexecutable-clause-verdict
returns-then-unexecutable-clause-verdict g c = λ contexts rules h.
    not_executed (system_of c.args.task.now) (denoted_contexts rules) (IsTrueAt (system_of c.args.task.now) (denoted_contexts rules) (ctl_value c.args.goal.now))
    (may_not_execute (system_of c.args.task.now) contexts rules (fluent_count c.args.task.now) c.args.graph.now h (sym (c.unexecutable.ensures 0) ∙ c.if-unexecutable.true))

pub returns-then-stuck-clause-verdict : goal.returns-then-stuck-clause-verdict
returns-then-stuck-clause-verdict g c = λ contexts rules h.
    gets_stuck (system_of c.args.task.now) (denoted_contexts rules) (IsTrueAt (system_of c.args.task.now) (denoted_contexts rules) (ctl_value c.args.goal.now))
    (executes_always (system_of c.args.task.now) contexts rules (fluent_count c.args.task.now) c.args.graph.now h (sym (c.unexecutable.ensures 0) ∙ c.if-unexecutable.false))
    (may_get_stuck (system_of c.args.task.now) contexts rules (fluent_count c.args.task.now) c.args.graph.now h (sym (c.stuck.ensures 0) ∙ c.if-stuck.true))

pub labels-requires-clause-followers : goal.labels-requires-clause-followers
labels-requires-clause-followers g c =
    let sys = system_of c.args.task.now in
    let n = fluent_count c.args.task.now in
    let contexts = c.requires.graph.0 in
    let rules = c.requires.graph.1.0 in
    let h = c.requires.graph.1.1 in
    has_followers sys contexts rules n c.args.graph.now h
    (executes_always sys contexts rules n c.args.graph.now h (sym (c.unexecutable.ensures 0) ∙ c.if-unexecutable.false))
    (never_stuck sys contexts rules n c.args.graph.now h (sym (c.stuck.ensures 0) ∙ c.if-stuck.false))

pub labels-requires-clause-names : goal.labels-requires-clause-names
labels-requires-clause-names g c = few_names c.args.task.now (ctl_value c.args.goal.now) c.requires.names

pub returns-then-has_marked_starts-clause-verdict : goal.returns-then-has_marked_starts-clause-verdict
returns-then-has_marked_starts-clause-verdict g c = λ contexts rules h.
    let sys = system_of c.args.task.now in
    let n = fluent_count c.args.task.now in
    let goal = ctl_value c.args.goal.now in
    meets_formula sys (denoted_contexts rules) (IsTrueAt sys (denoted_contexts rules) goal)
    (executes_always sys contexts rules n c.args.graph.now h (sym (c.unexecutable.ensures 0) ∙ c.if-unexecutable.false))
    (never_stuck sys contexts rules n c.args.graph.now h (sym (c.stuck.ensures 0) ∙ c.if-stuck.false))
    (all_have sys contexts rules n c.args.graph.now h goal c.requires.names c.in_ok-marks.marks.items (c.in_ok-marks.ensures.shows n c.requires.names)
    (subst (HasMarkedStarts c.args.graph.now) c.deref.ensures.value c.if-has_marked_starts.ensures))

pub returns-clause-verdict : goal.returns-clause-verdict
returns-clause-verdict g c = λ contexts rules h.
    let sys = system_of c.args.task.now in
    let n = fluent_count c.args.task.now in
    let goal = ctl_value c.args.goal.now in
    one_misses sys contexts rules n c.args.graph.now h goal c.requires.names c.in_ok-marks.marks.items (c.in_ok-marks.ensures.shows n c.requires.names)
    (executes_always sys contexts rules n c.args.graph.now h (sym (c.unexecutable.ensures 0) ∙ c.if-unexecutable.false))
    (never_stuck sys contexts rules n c.args.graph.now h (sym (c.stuck.ensures 0) ∙ c.if-stuck.false))
    (subst (HasUnmarkedStart c.args.graph.now) c.deref.ensures.value c.if-has_marked_starts.ensures)

pub labels-requires-clause-turned : goal.labels-requires-clause-turned
labels-requires-clause-turned g c = graph_turned (system_of c.args.task.now) (automaton c.requires.graph.0 c.requires.graph.1.0) (fluent_count c.args.task.now) c.args.graph.now c.requires.graph.1.1
