-- No document has a float.
use Rattle.std.proofs.Common.{◌≡◌, ℕ, List, [], ◌∷◌, Option, None, Some, map, false, refl}
use Rattle.serde_json.specs.View.{items_of}
use Rattle.serde_json.specs.Written.{has_float, items_have_float}
use Rattle.lint_notices.specs.Notices.{PlainNotice, PlainReport}
use Rattle.lint_notices.specs.Texts.{PlainFileNames, limit_data, notice_data, report_data}

notices_free : (names : PlainFileNames) (notices : List PlainNotice) → items_have_float (items_of (map (notice_data names) notices)) ≡ false
notices_free names [] = refl
notices_free names (notice ∷ notices) = rw (notices_free names notices) refl

limit_free : (limit : Option (List ℕ)) → has_float (limit_data limit) ≡ false
limit_free None = refl
limit_free (Some name) = refl

pub document_free : (names : PlainFileNames) (report : PlainReport) → has_float (report_data names report) ≡ false
document_free names report = rw (notices_free names report.hints, limit_free report.limit, notices_free names report.notices) refl
