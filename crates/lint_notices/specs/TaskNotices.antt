-- What is told of actions that can never be executed, of a goal that never holds, and of groups.
use Rattle.std.specs.Prelude.{ℕ, Bool, true, false, List, [], ◌++◌, Option, None, Some, codes, if◌then◌else◌, nat_eq}
use Rattle.std.specs.List.{list_any}
use Rattle.std.specs.Option.{option_map_or}
use Rattle.std.specs.Str.Lossy.{utf8_lossy}
use Rattle.lint_mistakes.specs.Places.{action_named, part_span, span_or}
use Rattle.lint_mistakes.specs.Rows.{first_list, list_after, section_named}
use Rattle.lint_notices.specs.Notices.{PlainNotice, quoted, text_at, word_at}
use Rattle.never_executed.specs.declared.causes.Cause.{Cause}
use Rattle.never_executed.specs.declared.causes.Cause.TheVariants.{InEach, NoObjects, Part, Together}
use Rattle.sexpr_text.specs.Forest.{Forest}
use Rattle.sexpr_text.specs.Parts.{after_first}
use Rattle.sexpr_text.specs.declared.forms.Place.{Place}
use Rattle.sexpr_text.specs.declared.forms.Span.{Span}

-- the text of a file, and the forms of its sections
pub record PlainWritten : Type 0 where
  pub text : List ℕ
  pub sections : Forest

-- an action that can never be executed: its name, and why
pub record PlainNever : Type 0 where
  pub name : List ℕ
  pub cause : Cause

-- the start of a text: where a form stands that a text has not
abbrev pub start_span : Span
start_span = record { start = 0; end = 0; place = record { line = 1; column = 1 } }

-- whether a text has several lines
abbrev pub has_lines : List ℕ → Bool
has_lines text = list_any (nat_eq 10) text

-- that the part of a condition with this span never holds: with its words, where they are in one line
abbrev pub part_text : List ℕ → Span → List ℕ
part_text text span =
    if has_lines (text_at text span) then codes "this part never holds"
    else quoted (word_at text span) (codes "` never holds")

-- where the name of an action stands that has these parts
abbrev pub name_span : Forest → Span
name_span parts = span_or start_span (after_first parts)

-- where the part with this number of its precondition stands
abbrev pub condition_span : Forest → ℕ → Span
condition_span parts k =
    option_map_or (λ found. part_span k found.0 found.1) (list_after (codes ":precondition") parts)
    (name_span parts)

-- where the cause stands: the part of the precondition, or the name of the action
abbrev pub cause_span : Forest → Cause → Span
cause_span parts (Part k) = condition_span parts k
cause_span parts (InEach k) = condition_span parts k
cause_span parts NoObjects = name_span parts
cause_span parts Together = name_span parts

-- what the cause is, in words
abbrev pub cause_text : List ℕ → Span → Cause → List ℕ
cause_text text span (Part k) = part_text text span
cause_text text span (InEach k) =
    codes "in each instance that the facts allow, " ++ part_text text span
cause_text text span NoObjects = codes "there are no objects for its parameters"
cause_text text span Together = codes "its precondition never holds"

-- that an action can never be executed
abbrev pub never_text : List ℕ → List ℕ → Span → Cause → List ℕ
never_text text name span cause =
    quoted name (codes "` can never be executed: ") ++ cause_text text span cause

-- what is told of an action that can never be executed, by the file of the domain
abbrev pub never_notice : PlainWritten → PlainNever → PlainNotice
never_notice domain never =
    let span = cause_span (action_named never.name domain.sections) never.cause in
    record {
      in_problem = false;
      place = span.place;
      kind = codes "never-executed";
      message = never_text domain.text (utf8_lossy never.name) span never.cause;
    }

-- where a part of the goal stands among the sections of a problem; the whole goal where none is named
abbrev pub goal_part_span : Option ℕ → Span → Forest → Span
goal_part_span (Some k) span parts = part_span k span parts
goal_part_span None span parts = span

abbrev pub goal_span : Forest → Option ℕ → Span
goal_span sections part =
    option_map_or (λ found. goal_part_span part found.0 found.1)
    (first_list (section_named (codes ":goal") sections)) start_span

-- the part of the goal that never holds, after the sentence about the goal
abbrev pub goal_end : List ℕ → Span → Option ℕ → List ℕ
goal_end text span (Some k) = codes ": " ++ part_text text span
goal_end text span None = []

-- what is told of a goal that never holds, by the file of the problem
abbrev pub goal_notice : PlainWritten → Option ℕ → PlainNotice
goal_notice problem part =
    let span = goal_span problem.sections part in
    record {
      in_problem = true;
      place = span.place;
      kind = codes "goal-never";
      message = codes "the goal is false whatever is done" ++ goal_end problem.text span part;
    }

-- a sentence about groups, at the place before which the invariant can be put
abbrev pub group_notice : Place → List ℕ → PlainNotice
group_notice place sentence = record {
  in_problem = false;
  place = place;
  kind = codes "one-of";
  message = sentence;
}

-- the invariant that says so, at that place
abbrev pub invariant_notice : Place → List ℕ → PlainNotice
invariant_notice place invariant = record {
  in_problem = false;
  place = place;
  kind = codes "invariant";
  message = codes "to say so, add here: " ++ utf8_lossy invariant;
}
