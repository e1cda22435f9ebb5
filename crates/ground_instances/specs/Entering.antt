-- Private: how objects are entered into lists that types share.
use Rattle.std.specs.Prelude.{ℕ, suc, ◌<◌, List, [], ◌∷◌, ◌++◌, All, if◌then◌else◌, map, Vec}
use Rattle.std.specs.declared.alloc.Global.{Global}
use Rattle.pddl_ast.specs.declared.trees.Named.{Named}
use Rattle.pddl_system.specs.Objects.{is_kind_of}
use Rattle.ground_instances.specs.Tables.{objects_at}

-- Private: the list with a number.
abbrev pub list_of : List (Vec ℕ Global) → ℕ → List ℕ
list_of lists t = objects_at (map (λ (v : Vec ℕ Global). v.items) lists) t

-- Private: the lists of the types, where each type has the list with the number at its place.
abbrev pub shared_lists : List ℕ → List (Vec ℕ Global) → List (List ℕ)
shared_lists places lists = map (list_of lists) places

-- Private: the numbers in all lists are below a bound.
abbrev pub AreBelow : ℕ → List (Vec ℕ Global) → Type 0
AreBelow bound lists = (t : ℕ) → All (λ o. o < bound) (list_of lists t)

-- Private: the types that some objects are declared with.
abbrev pub types_of : List Named → List ℕ
types_of = map (λ (n : Named). n.type_id)

-- Private: of some objects, which have these types and of which the first has the number `first`,
-- those of type t.
abbrev pub entered : List ℕ → List ℕ → ℕ → ℕ → List ℕ
entered parents [] first t = []
entered parents (d ∷ ds) first t =
    (if is_kind_of parents d t then first ∷ [] else []) ++ entered parents ds (suc first) t
