-- The objects of a domain and a problem, and how variables stand for them. An object is a number:
-- the domain's constants come first, then the problem's objects.
use Rattle.std.specs.Prelude.{ℕ, suc, ◌==◌, Bool, List, [], ◌∷◌, ◌++◌, map, length, slice_index_or}
use Rattle.std.specs.List.{filter, flat_map, list_any, range_with_len}
use Rattle.pddl_ast.specs.declared.trees.Named.{Named}
use Rattle.pddl_ast.specs.declared.trees.Term.{Term}
use Rattle.pddl_ast.specs.declared.trees.Term.TheVariants.{Variable, Object}
use Rattle.pddl_ast.specs.Fits.{ancestor}
use Rattle.pddl_ast.specs.Trees.{DomainTree, ProblemTree}

abbrev pub all_objects : DomainTree → ProblemTree → List Named
all_objects d p = d.constants ++ p.objects

-- whether type t is type u, or u is an ancestor of it. No type has more ancestors than there are
-- types
abbrev pub is_kind_of : List ℕ → ℕ → ℕ → Bool
is_kind_of parents t u =
    list_any (λ k. ancestor parents k t == u) (range_with_len 0 (suc (length parents)))

-- the type that an object is declared with
abbrev pub type_of : List Named → ℕ → ℕ
type_of objects o = slice_index_or (map (λ (n : Named). n.type_id) objects) o 0

-- the objects of a type, in the order in which they are declared: those that are declared with it
-- or with a type of which it is an ancestor
abbrev pub objects_of_type : List ℕ → List Named → ℕ → List ℕ
objects_of_type parents objects t =
    filter (λ o. is_kind_of parents (type_of objects o) t) (range_with_len 0 (length objects))

-- the bindings of variables of these types: a list of objects, one for each variable. The first
-- variable changes slowest
abbrev pub bindings : (ℕ → List ℕ) → List ℕ → List (List ℕ)
bindings objects [] = [] ∷ []
bindings objects (t ∷ ts) = flat_map (λ o. map (λ rest. o ∷ rest) (bindings objects ts)) (objects t)

-- the object that a term stands for, where the variables in scope have these objects
abbrev pub object_of : List ℕ → Term → ℕ
object_of scope (Variable n) = slice_index_or scope n 0
object_of scope (Object n) = n
