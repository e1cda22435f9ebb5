use Rattle.std.proofs.Common.{◌≡◌, map, take}
use Rattle.serde_json.specs.View.{view}
use Rattle.lint_notices.specs.Texts.{notice_data}
use Rattle.lint_notices.specs.Values.{names_value, notice_value}
use Rattle.lint_notices.proofs.documents.notice_values.Given as goal

abbrev pub invariant-loop-notice : goal.invariant-loop-notice
invariant-loop-notice l =
    map view l.values.items ≡ map (notice_data (names_value l.names)) (map notice_value (take l.notice-index l.notices))
