use Rattle.std.proofs.Common.{◌≡◌, ◌++◌, subst}
use Rattle.std.specs.Prelude.{IfOk}
use Rattle.plan_rules.specs.Rules.{plain_of}
use Rattle.plan_rules.specs.Texts.{line_feed}
use Rattle.serde_json.specs.Data.{Data}
use Rattle.serde_json.specs.Written.{compact_text}
use Rattle.task_core.specs.Tasks.{fluent_names}
use Rattle.plan_document.proofs.NoFloats.{document_free}
use Rattle.plan_document.proofs.documents.plan_document.Goals as goal

pub returns : goal.returns
returns c =
    let task = c.args.task.now in
    subst (λ (d : Data). IfOk c.value_text.result (λ text. text.items ≡ compact_text d ++ line_feed)) c.in_ok-value.ensures
    (c.value_text.ensures (rw c.in_ok-value.ensures (document_free (fluent_names task) task.actions.items (plain_of c.args.plan.now))))
