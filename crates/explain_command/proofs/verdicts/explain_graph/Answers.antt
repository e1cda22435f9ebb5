use Rattle.std.proofs.Common.{◌≡◌, ℕ, Bool, IfOk, List, subst}
use Rattle.command_base.specs.Values.{shown_of}
use Rattle.task_core.specs.Tasks.{fluent_count}
use Rattle.exec_graph.specs.Values.{plain_graph}
use Rattle.counterexamples.specs.Values.{finding_value}
use Rattle.plan_rules.specs.Rules.{plain_of}
use Rattle.explain_command.specs.Explained.{shown_answer, source_in}
use Rattle.explain_command.specs.Values.{explain_words_of, lined_of}
use Rattle.explain_command.proofs.Finding.{RunsShow, explained_so}
use Rattle.explain_command.proofs.verdicts.explain_graph.Goals as goal

pub finding_for-requires-clause-verdict : goal.finding_for-requires-clause-verdict
finding_for-requires-clause-verdict c =
    c.in_ok-verdict.ensures (plain_of c.args.lined.now.read.plan) c.requires.of_kind c.requires.graph

pub returns : goal.returns
returns c =
    let task = c.args.grounded.now.task in
    let plan = plain_of c.args.lined.now.read.plan in
    let finding = finding_value (fluent_count task) c.in_ok-finding.finding in
    let law : RunsShow = record { failures = c.failures_are_shown.ensures.tables; context_failures = c.failures_are_shown.ensures.contexts; never_end = c.context_plans_never_end.ensures } in
    explained_so c.shown_as.result law (explain_words_of c.args.asked.now) task (lined_of c.args.lined.now) c.args.grounded.now.ctl (plain_graph (fluent_count task) c.args.graph.now) c.in_ok-verdict.verdict finding
    c.requires.graph c.requires.some (c.in_ok-verdict.ensures plan c.requires.of_kind c.requires.graph) c.in_ok-finding.ensures
    (subst (λ (document : Bool). IfOk c.shown_as.result (λ shown. shown_of shown ≡ shown_answer document (source_in task plan c.args.lined.now.lines.items) c.in_ok-verdict.verdict finding)) c.is_document.ensures
    (subst (λ (lines : List ℕ). IfOk c.shown_as.result (λ shown. shown_of shown ≡ shown_answer c.is_document.result (source_in task plan lines) c.in_ok-verdict.verdict finding)) c.deref.ensures.value c.shown_as.ensures))
