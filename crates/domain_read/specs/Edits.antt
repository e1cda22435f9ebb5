-- The plain text, as edits of the original.
use Rattle.std.specs.Prelude.{ℕ, suc, ◌-◌, ◌==◌, nat_le, nat_lt, ◌&&◌, Bool, true, false}
use Rattle.std.specs.Prelude.{if◌then◌else◌, List, [], ◌∷◌, ◌++◌, length, Option, Some, None, codes, slice_index}
use Rattle.sexpr_text.specs.declared.forms.Span.{Span}
use Rattle.sexpr_text.specs.Forest.{Forest, nothing, word, group}
use Rattle.domain_read.specs.declared.roles.Role.{Role}
use Rattle.domain_read.specs.declared.roles.Role.TheVariants.{Choice, Weight, Dropped}
use Rattle.domain_read.specs.Roles.{after_word, after_group, inner_role, is_left_out, text_role}

-- an edit: the bytes of the span become the text, and after it spaces; line feeds there stay
pub record Edit : Type 0 where
  pub span : Span
  pub text : List ℕ

-- a byte that becomes a space, but for a line feed
abbrev pub blank : ℕ → ℕ
blank x = if x == 10 then 10 else 32

-- what a byte becomes that stands so far into the span of an edit with this text
abbrev pub byte_within : List ℕ → ℕ → ℕ → ℕ
byte_within text place x = if nat_lt place (length text) then slice_index text place else blank x

-- the byte at offset k after the edit, where x is the one before
unfoldable pub written : Edit → ℕ → ℕ → ℕ
written e k x =
    if nat_le e.span.start k && nat_lt k e.span.end then byte_within e.text (k - e.span.start) x else x

-- a list in which each byte, from offset k on, is replaced by offset and value
abbrev pub replaced : (ℕ → ℕ → ℕ) → ℕ → List ℕ → List ℕ
replaced f k [] = []
replaced f k (x ∷ xs) = f k x ∷ replaced f (suc k) xs

-- a text after one edit
unfoldable pub edited : Edit → List ℕ → List ℕ
edited e text = replaced (written e) 0 text

-- a text after edits, one after another
abbrev pub all_edited : List Edit → List ℕ → List ℕ
all_edited [] text = text
all_edited (e ∷ es) text = all_edited es (edited e text)

-- the head of a recognised list, by whether mass is missing
abbrev pub choice_text : Bool → List ℕ
choice_text true = codes "oneof ()"
choice_text false = codes "oneof"

-- what a word of this role becomes, where it does not stay: the head of a recognised list, or
-- nothing
abbrev pub new_text : Role → Option (List ℕ)
new_text (Choice missing) = Some (choice_text missing)
new_text Weight = Some []
new_text Dropped = Some []
new_text _ = None

-- the edits of a word of this role
abbrev pub edit_to : Span → Option (List ℕ) → List Edit
edit_to span None = []
edit_to span (Some text) = record { span = span; text = text } ∷ []

abbrev pub word_edits : Role → Span → List Edit
word_edits role span = edit_to span (new_text role)

-- the edits of a row: words change, and of a group that is left out nothing stays
abbrev pub edits : Role → Forest → List Edit
edits role nothing = []
edits role (word span text rest) = word_edits role span ++ edits (after_word role text) rest
edits role (group span parts rest) =
    (if is_left_out role then edit_to span (Some []) else edits (inner_role role parts) parts)
    ++ edits (after_group role parts) rest

-- those of a group
abbrev pub group_edits : Role → Span → Forest → List Edit
group_edits role span parts =
    if is_left_out role then edit_to span (Some []) else edits (inner_role role parts) parts

-- the plain text of a text that spells these forms
abbrev pub plain_text : Forest → List ℕ → List ℕ
plain_text trees bytes = all_edited (edits (text_role trees) trees) bytes
