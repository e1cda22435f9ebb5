use Rattle.std.proofs.Common.{◌≡◌, ◌++◌, subst}
use Rattle.std.specs.Prelude.{IfOk}
use Rattle.counterexamples.specs.Values.{finding_value, source_value}
use Rattle.plan_rules.specs.Texts.{line_feed}
use Rattle.serde_json.specs.Data.{Data}
use Rattle.serde_json.specs.Written.{compact_text}
use Rattle.task_core.specs.Tasks.{fluent_count}
use Rattle.explain_command.proofs.NoFloats.{document_free}
use Rattle.explain_command.proofs.documents.finding_document.Goals as goal

pub returns : goal.returns
returns c =
    subst (λ (d : Data). IfOk c.value_text.result (λ text. text.items ≡ compact_text d ++ line_feed)) c.in_ok-value.ensures
    (c.value_text.ensures (rw c.in_ok-value.ensures (document_free (source_value c.args.source.now) c.args.verdict.now (finding_value (fluent_count c.args.source.now.task.now) c.args.finding.now))))
