-- What is told of a mistake.
use Rattle.std.specs.Str.Lossy.{utf8_lossy}
use Rattle.std.specs.Prelude.{ℕ, Bool, ◌&&◌, nat_le, Option, List, [], ◌++◌, codes, if◌then◌else◌, length, slice_get, slice_range}
use Rattle.std.specs.Option.{option_map_or}
use Rattle.lint_mistakes.specs.declared.mistakes.Mistake.{Mistake}
use Rattle.lint_mistakes.specs.declared.mistakes.MistakeKind.{MistakeKind}
use Rattle.lint_mistakes.specs.declared.mistakes.MistakeKind.TheVariants.{Copied, Idle, MayBeEqual, NeverTrue, NeverUsed, WrongType}
use Rattle.sexpr_text.specs.declared.forms.Place.{Place}
use Rattle.sexpr_text.specs.declared.forms.Span.{Span}

-- whether it is in the file of the problem, and not in that of the domain; the place there; the kind in
-- a word; and what is the matter, in a sentence
pub record PlainNotice : Type 0 where
  pub in_problem : Bool
  pub place : Place
  pub kind : List ℕ
  pub message : List ℕ

-- all that is told: the mistakes; hints, which are no mistakes; and the name of the limit of grounding that
-- is passed, where one is, since some mistakes are seen only after it
pub record PlainReport : Type 0 where
  pub notices : List PlainNotice
  pub hints : List PlainNotice
  pub limit : Option (List ℕ)

-- one of the two files: whether it is that of the problem, and its text; and the names of the domain's
-- types
pub record PlainSource : Type 0 where
  pub in_problem : Bool
  pub text : List ℕ
  pub types : List (List ℕ)

-- the word of each kind
abbrev pub kind_word : MistakeKind → List ℕ
kind_word (WrongType found declared) = codes "wrong-type"
kind_word NeverUsed = codes "never-used"
kind_word Copied = codes "copied-outcome"
kind_word Idle = codes "idle-effect"
kind_word NeverTrue = codes "never-true"
kind_word (MayBeEqual kept other) = codes "equal-parameters"

-- what a form takes up of its text
abbrev pub text_at : List ℕ → Span → List ℕ
text_at text span =
    if nat_le span.start span.end && nat_le span.end (length text)
    then slice_range text span.start span.end else []

-- the name of a type
abbrev pub type_name : List (List ℕ) → ℕ → List ℕ
type_name types number = option_map_or utf8_lossy (slice_get types number) []

-- a sentence about a word, which begins with it between quotes
abbrev pub quoted : List ℕ → List ℕ → List ℕ
quoted word end = codes "`" ++ word ++ end

abbrev pub wrong_type_text : List (List ℕ) → List ℕ → ℕ → ℕ → List ℕ
wrong_type_text types word found declared =
    quoted word (codes "` is of type `") ++ type_name types found
    ++ codes "`, and the predicate takes type `" ++ type_name types declared ++ codes "` here"

abbrev pub never_used_text : List ℕ → List ℕ
never_used_text word = quoted word (codes "` is never used: no action, invariant or goal names it")

abbrev pub never_true_text : List ℕ → List ℕ
never_true_text word =
    quoted word (codes "` is never true: `:init` does not name it, and no effect makes it true")

-- the word with this span, as a message names it
abbrev pub word_at : List ℕ → Span → List ℕ
word_at text span = utf8_lossy (text_at text span)

-- that two words may be one object
abbrev pub equal_text : List ℕ → List ℕ → List ℕ
equal_text kept other =
    quoted kept (codes "` and `") ++ other
    ++ codes "` may be the same object: then the effect deletes this atom and adds it again"

-- what is the matter; the word is the one at the place
abbrev pub message_for : PlainSource → List ℕ → MistakeKind → List ℕ
message_for source word (WrongType found declared) =
    wrong_type_text source.types word found declared
message_for source word NeverUsed = never_used_text word
message_for source word Copied = codes "this outcome stands twice in its choice"
message_for source word Idle =
    codes "this effect changes nothing: the precondition already demands it"
message_for source word NeverTrue = never_true_text word
message_for source word (MayBeEqual kept other) =
    equal_text (word_at source.text kept) (word_at source.text other)

abbrev pub message : PlainSource → Mistake → List ℕ
message source mistake = message_for source (word_at source.text mistake.span) mistake.kind

-- what is told of a mistake in a file
abbrev pub notice_of : PlainSource → Mistake → PlainNotice
notice_of source mistake = record {
  in_problem = source.in_problem;
  place = mistake.span.place;
  kind = kind_word mistake.kind;
  message = message source mistake;
}
