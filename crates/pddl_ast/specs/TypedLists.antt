-- Typed lists of names or of variables. A typed list is a row of groups; a group is one or more
-- names followed by `-` and a type word. The last group may lack both, and then its type is
-- `object`.
use Rattle.std.specs.Prelude.{ℕ, Bool, true, false, ◌&&◌, not, if◌then◌else◌, List, [], ◌∷◌, ◌++◌}
use Rattle.std.specs.Prelude.{map, codes}
use Rattle.std.specs.List.{list_any}
use Rattle.std.specs.Option.{unwrap_or}
use Rattle.std.specs.Str.{bytes_eq}
use Rattle.sexpr_text.specs.declared.forms.Span.{Span}
use Rattle.sexpr_text.specs.declared.faults.FaultKind.{FaultKind}
use Rattle.sexpr_text.specs.declared.faults.FaultKind.TheVariants.{BadForm, UnknownName, DoubleName}
use Rattle.sexpr_text.specs.declared.faults.FaultKind.TheVariants.{LeftOut}
use Rattle.sexpr_text.specs.Forest.{Forest, nothing, word, group}
use Rattle.sexpr_text.specs.Flaws.{Flaw, flaw_at}
use Rattle.pddl_ast.specs.Words.{is_variable, is_dash}
use Rattle.sexpr_text.specs.Parts.{is_name}
use Rattle.pddl_ast.specs.Known.{number_in}
use Rattle.pddl_ast.specs.declared.trees.Named.{Named}
use Rattle.pddl_ast.specs.declared.typed_lists.Declares.{Declares}
use Rattle.pddl_ast.specs.declared.typed_lists.Declares.TheVariants.{Types, Objects, Variables}
use Rattle.pddl_ast.specs.declared.typed_lists.Declares.TheVariants.{PredicateVariables}

-- the names of a group in order, and its type word
pub record Group : Type 0 where
  pub names : List (List ℕ)
  pub type_word : List ℕ

-- whether the word is of the kind that the list declares
abbrev pub is_wanted : Declares → List ℕ → Bool
is_wanted Types w = is_name w
is_wanted Objects w = is_name w
is_wanted Variables w = is_variable w
is_wanted PredicateVariables w = is_variable w

-- whether the word may come again: `object` among types, and the variables of a predicate
abbrev pub may_repeat : Declares → List ℕ → Bool
may_repeat Types w = bytes_eq w (codes "object")
may_repeat Objects w = false
may_repeat Variables w = false
may_repeat PredicateVariables w = true

-- whether the word may be a type: in a list of types every word, else one that is known
abbrev pub is_type : Declares → List (List ℕ) → List ℕ → Bool
is_type Types types w = true
is_type Objects types w = list_any (bytes_eq w) types
is_type Variables types w = list_any (bytes_eq w) types
is_type PredicateVariables types w = list_any (bytes_eq w) types

-- what is wrong with a word in a name's place, where these names came before
abbrev pub name_flaws : Declares → Span → List ℕ → List (List ℕ) → List Flaw
name_flaws declares span w seen =
    if not (is_wanted declares w) then flaw_at span BadForm ∷ []
    else if not (may_repeat declares w) && list_any (bytes_eq w) seen then flaw_at span DoubleName
    ∷ []
    else []

-- what is wrong with a word in a type's place
abbrev pub word_flaws : Declares → List (List ℕ) → Span → List ℕ → List Flaw
word_flaws declares types span w =
    if is_type declares types w then [] else flaw_at span UnknownName ∷ []

-- the names that came so far, after this one
abbrev pub seen_after : Declares → List ℕ → List (List ℕ) → List (List ℕ)
seen_after declares w seen = if may_repeat declares w then seen else seen ++ w ∷ []

-- whether a list begins with the word `either`
abbrev pub begins_with_either : Forest → Bool
begins_with_either nothing = false
begins_with_either (word span w rest) = bytes_eq w (codes "either")
begins_with_either (group span parts rest) = false

-- what a list in a type's place is
abbrev pub either_fault : Forest → FaultKind
either_fault parts = if begins_with_either parts then LeftOut (codes "either") else BadForm

-- whether a type may come here: the row begins with something else than `-`
abbrev pub begins_type : Forest → Bool
begins_type nothing = false
begins_type (word span w rest) = not (is_dash w)
begins_type (group span parts rest) = true

-- what is wrong with a `-`, where the group has a name before it or not: it has none, or no type
-- follows
abbrev pub dash_flaws : Span → Bool → Forest → List Flaw
dash_flaws span named rest = if named && begins_type rest then [] else flaw_at span BadForm ∷ []

abbrev mutual
  -- everything that is wrong in a typed list, where these names came before it, and where its first
  -- group has a name already or not
  pub names_flaws : Declares → List (List ℕ) → Forest → List (List ℕ) → Bool → List Flaw
  names_flaws declares types nothing seen named = []
  names_flaws declares types (group span parts rest) seen named =
      flaw_at span BadForm ∷ names_flaws declares types rest seen named
  names_flaws declares types (word span w rest) seen named =
      if is_dash w then dash_flaws span named rest ++ type_flaws declares types rest seen
      else name_flaws declares span w seen
      ++ names_flaws declares types rest (seen_after declares w seen) true

  -- the same for what follows a `-`
  pub type_flaws : Declares → List (List ℕ) → Forest → List (List ℕ) → List Flaw
  type_flaws declares types nothing seen = []
  type_flaws declares types (group span parts rest) seen =
      flaw_at span (either_fault parts) ∷ names_flaws declares types rest seen false
  type_flaws declares types (word span w rest) seen =
      if is_dash w then dash_flaws span false rest ++ type_flaws declares types rest seen
      else word_flaws declares types span w ++ names_flaws declares types rest seen false

-- everything that is wrong in a typed list, where these names are declared already
abbrev pub typed_list_flaws : Declares → List (List ℕ) → List (List ℕ) → Forest → List Flaw
typed_list_flaws declares types before list = names_flaws declares types list before false

abbrev pub last_group : List (List ℕ) → List Group
last_group [] = []
last_group (name ∷ names) = record { names = name ∷ names; type_word = codes "object" } ∷ []

abbrev mutual
  -- the groups of a typed list, the first of which has these names already
  pub groups_after : Forest → List (List ℕ) → List Group
  groups_after nothing names = last_group names
  groups_after (group span parts rest) names = groups_after rest names
  groups_after (word span w rest) names =
      if is_dash w then typed_after rest names else groups_after rest (names ++ w ∷ [])

  pub typed_after : Forest → List (List ℕ) → List Group
  typed_after nothing names = []
  typed_after (group span parts rest) names = groups_after rest []
  typed_after (word span w rest) names =
      record { names = names; type_word = w } ∷ groups_after rest []

-- the groups of a typed list
abbrev pub typed_groups : Forest → List Group
typed_groups list = groups_after list []

-- all names of a typed list, in order
abbrev pub names_of : List Group → List (List ℕ)
names_of [] = []
names_of (g ∷ gs) = g.names ++ names_of gs

-- the number of a type word
abbrev pub type_number : List (List ℕ) → List ℕ → ℕ
type_number types w = unwrap_or (number_in types w) 0

-- the number of the type of each name, in order
abbrev pub types_of : List (List ℕ) → List Group → List ℕ
types_of types [] = []
types_of types (g ∷ gs) = map (λ name. type_number types g.type_word) g.names ++ types_of types gs

-- a constant or an object with this type and this name
abbrev pub of_type : ℕ → List ℕ → Named
of_type type_id name = record { name = name; type_id = type_id }

-- the constants or the objects that groups declare, in order
abbrev pub objects_of : List (List ℕ) → List Group → List Named
objects_of types [] = []
objects_of types (g ∷ gs) =
    map (of_type (type_number types g.type_word)) g.names ++ objects_of types gs

-- the names that are declared after these, where those came before
abbrev pub all_seen : Declares → List (List ℕ) → List (List ℕ) → List (List ℕ)
all_seen declares [] seen = seen
all_seen declares (name ∷ names) seen = all_seen declares names (seen_after declares name seen)
