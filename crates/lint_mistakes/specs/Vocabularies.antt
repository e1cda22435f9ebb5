-- What the words of both files mean.
use Rattle.std.specs.Prelude.{ℕ, Bool, ◌==◌, ◌||◌, List, [], ◌∷◌, Option, Some, None, if◌then◌else◌, slice_index}
use Rattle.std.specs.Option.{option_or, unwrap_or}
use Rattle.std.specs.Str.{bytes_eq}
use Rattle.pddl_ast.specs.Known.{number_in}
use Rattle.pddl_ast.specs.declared.trees.Named.{Named}
use Rattle.sexpr_text.specs.Forest.{Forest}

-- the types with their parents, the constants and the objects with their types, and the forms that
-- declare the predicates
pub record VocabularyTree : Type 0 where
  pub types : List (List ℕ)
  pub parents : List ℕ
  pub constants : List Named
  pub objects : List Named
  pub predicates : Forest

-- the number of a type; 0, which is `object`, where there is none of this name
abbrev pub type_number : VocabularyTree → List ℕ → ℕ
type_number words name = unwrap_or (number_in words.types name) 0

-- the type of the first of some constants or objects that has this name
abbrev pub type_among : List Named → List ℕ → Option ℕ
type_among [] name = None
type_among (object ∷ objects) name =
    if bytes_eq object.name name then Some object.type_id else type_among objects name

-- the type of the constant or object of this name
abbrev pub object_type : VocabularyTree → List ℕ → Option ℕ
object_type words name = option_or (type_among words.constants name) (type_among words.objects name)

-- whether a type is the other, or one of its first ancestors is: one for each element of the list
abbrev pub reaches : List ℕ → List ℕ → ℕ → ℕ → Bool
reaches parents [] t u = t == u
reaches parents (step ∷ steps) t u = (t == u) || reaches parents steps (slice_index parents t) u

-- whether a type is the other, or has it among its ancestors, of which there are no more than types
abbrev pub is_kind : VocabularyTree → ℕ → ℕ → Bool
is_kind words t u = reaches words.parents words.parents t u
