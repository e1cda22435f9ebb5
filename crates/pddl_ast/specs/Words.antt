-- What words mean where they stand. A word is the list of its bytes, in lower case.
use Rattle.std.specs.Prelude.{ℕ, Bool, true, false, ◌||◌, not, ◌==◌, if◌then◌else◌, List, codes}
use Rattle.std.specs.Prelude.{slice_index}
use Rattle.std.specs.Str.{bytes_eq}
use Rattle.pddl_ast.specs.declared.keywords.Keyword.{Keyword}
use Rattle.pddl_ast.specs.declared.keywords.Keyword.TheVariants.{And, Or, Not, Imply, Exists}
use Rattle.pddl_ast.specs.declared.keywords.Keyword.TheVariants.{Forall, Equals, When, Oneof}
use Rattle.pddl_ast.specs.declared.keywords.Keyword.TheVariants.{Unknown, Other}

-- what a word means as the first item of a list
unfoldable pub keyword_of : List ℕ → Keyword
keyword_of w =
    if bytes_eq w (codes "and") then And
    else if bytes_eq w (codes "or") then Or
    else if bytes_eq w (codes "not") then Not
    else if bytes_eq w (codes "imply") then Imply
    else if bytes_eq w (codes "exists") then Exists
    else if bytes_eq w (codes "forall") then Forall
    else if bytes_eq w (codes "=") then Equals
    else if bytes_eq w (codes "when") then When
    else if bytes_eq w (codes "oneof") then Oneof
    else if bytes_eq w (codes "unknown") then Unknown
    else Other

-- whether a head is no word with a meaning of its own
abbrev pub is_plain : Keyword → Bool
is_plain Other = true
is_plain _ = false

-- whether a word has a meaning of its own, so that it names no predicate
abbrev pub is_reserved : List ℕ → Bool
is_reserved w = not (is_plain (keyword_of w))

-- `-`, which stands before a type
unfoldable pub is_dash : List ℕ → Bool
is_dash w = bytes_eq w (codes "-")

-- a variable begins with `?`, which is byte 63
abbrev pub is_variable : List ℕ → Bool
is_variable w = slice_index w 0 == 63

-- the heads of conditions and effects that are left out: of numbers, preferences and probabilities
unfoldable pub is_left_out : List ℕ → Bool
is_left_out w =
    bytes_eq w (codes "<") || bytes_eq w (codes ">") || bytes_eq w (codes "<=")
    || bytes_eq w (codes ">=")
    || bytes_eq w (codes "preference") || bytes_eq w (codes "increase")
    || bytes_eq w (codes "decrease")
    || bytes_eq w (codes "assign") || bytes_eq w (codes "scale-up")
    || bytes_eq w (codes "scale-down")
    || bytes_eq w (codes "probabilistic")
