use Rattle.std.proofs.Common.{◌≡◌, ◌++◌, subst}
use Rattle.std.specs.Prelude.{IfOk}
use Rattle.plan_rules.specs.Texts.{line_feed}
use Rattle.serde_json.specs.Data.{Data}
use Rattle.serde_json.specs.Written.{compact_text}
use Rattle.lint_notices.specs.Values.{names_value, report_value}
use Rattle.lint_notices.proofs.NoFloats.{document_free}
use Rattle.lint_notices.proofs.documents.report_document.Goals as goal

pub returns : goal.returns
returns c =
    subst (λ (d : Data). IfOk c.value_text.result (λ text. text.items ≡ compact_text d ++ line_feed)) c.in_ok-value.ensures
    (c.value_text.ensures (rw c.in_ok-value.ensures (document_free (names_value c.args.names.now) (report_value c.args.report.now))))
