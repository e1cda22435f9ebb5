-- The lines, and the JSON document, of what is told of mistakes.
use Rattle.std.specs.Prelude.{ℕ, List, [], ◌∷◌, ◌++◌, Option, None, Some, codes, decimal, if◌then◌else◌, map}
use Rattle.std.specs.List.{flat_map}
use Rattle.serde_json.specs.Data.{Data, array, member, no_members, null, object, string}
use Rattle.serde_json.specs.View.{items_of}
use Rattle.serde_json.specs.Written.{compact_text}
use Rattle.plan_rules.specs.Texts.{line_feed}
use Rattle.plan_document.specs.Data.{count_data}
use Rattle.lint_notices.specs.Notices.{PlainNotice, PlainReport}

-- the names of the two files
pub record PlainFileNames : Type 0 where
  pub domain : List ℕ
  pub problem : List ℕ

-- the name of the file in which a mistake is
abbrev pub file_of : PlainFileNames → PlainNotice → List ℕ
file_of names notice = if notice.in_problem then names.problem else names.domain

-- the file and the place, as p:4:16: and a space
abbrev pub place_text : PlainFileNames → PlainNotice → List ℕ
place_text names notice =
    file_of names notice ++ codes ":" ++ decimal notice.place.line ++ codes ":"
    ++ decimal notice.place.column ++ codes ": "

-- the line of a mistake, as p:4:16: `red` is of type `parcel`, ..
abbrev pub notice_line : PlainFileNames → PlainNotice → List ℕ
notice_line names notice = place_text names notice ++ notice.message ++ line_feed

-- the line of a hint
abbrev pub hint_line : PlainFileNames → PlainNotice → List ℕ
hint_line names hint = place_text names hint ++ codes "hint: " ++ hint.message ++ line_feed

-- a line each, or that there are none
abbrev pub notices_text : PlainFileNames → List PlainNotice → List ℕ
notices_text names [] = codes "nothing found" ++ line_feed
notices_text names (notice ∷ notices) = flat_map (notice_line names) (notice ∷ notices)

-- that some mistakes were not looked for, since the limit of this name is passed
abbrev pub limit_line : List ℕ → List ℕ
limit_line name =
    codes "limit " ++ name
    ++ codes ": not grounded, so preconditions and the goal were not looked at" ++ line_feed

abbrev pub limit_text : Option (List ℕ) → List ℕ
limit_text None = []
limit_text (Some name) = limit_line name

-- the lines of all that is told
abbrev pub report_text : PlainFileNames → PlainReport → List ℕ
report_text names report =
    notices_text names report.notices ++ flat_map (hint_line names) report.hints
    ++ limit_text report.limit

-- a mistake, or a hint, as an object: its members stand in the order of their keys
abbrev pub notice_data : PlainFileNames → PlainNotice → Data
notice_data names notice =
    object (member (codes "column") (count_data notice.place.column)
    (member (codes "file") (string (file_of names notice))
    (member (codes "kind") (string notice.kind)
    (member (codes "line") (count_data notice.place.line)
    (member (codes "message") (string notice.message) no_members)))))

-- the name of the limit, or null
abbrev pub limit_data : Option (List ℕ) → Data
limit_data None = null
limit_data (Some name) = string name

-- a list of them
abbrev pub notices_data : PlainFileNames → List PlainNotice → Data
notices_data names notices = array (items_of (map (notice_data names) notices))

-- the whole: an object with the hints, the limit and the mistakes
abbrev pub report_data : PlainFileNames → PlainReport → Data
report_data names report =
    object (member (codes "hints") (notices_data names report.hints)
    (member (codes "limit") (limit_data report.limit)
    (member (codes "mistakes") (notices_data names report.notices) no_members)))

-- its text: without spaces, in one line with a line feed at its end
abbrev pub document_text : PlainFileNames → PlainReport → List ℕ
document_text names report = compact_text (report_data names report) ++ line_feed
