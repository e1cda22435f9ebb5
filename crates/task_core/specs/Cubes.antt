-- Cubes: conjunctions of literals, and the list of cubes that stands for a set of states.
use Rattle.std.specs.Prelude.{ℕ, zero, suc, ◌+◌, Bool, true, false, not, List, [], ◌∷◌, ◌++◌, map}
use Rattle.std.specs.Prelude.{if◌then◌else◌}
use Rattle.std.specs.List.{list_any, list_all}
use Rattle.task_core.specs.Vectors.{Vector, value_of, all_vectors, same_value}
use Rattle.task_core.specs.declared.literals.Lit.{Lit}

abbrev pub literal : ℕ → Bool → Lit
literal f value = record { fluent = record { 0 = f }; positive = value }

abbrev pub Cube : Type 0
Cube = List Lit

-- a cube matches a state that has all its literals
abbrev pub matches : Cube → Vector → Bool
matches cube v = list_all (λ lit. same_value (value_of v lit.fluent.0) lit.positive) cube

-- a set of states, as the test of its members
abbrev pub SetOfVectors : Type 0
SetOfVectors = Vector → Bool

-- the half of a set in which the first fluent has the value, over the rest of the fluents
abbrev pub half : Bool → SetOfVectors → SetOfVectors
half value set = λ v. set (value ∷ v)

-- no vector of n values, every one, and whether the set is the same whatever the first fluent's
-- value
abbrev pub is_empty_set : ℕ → SetOfVectors → Bool
is_empty_set n set = not (list_any set (all_vectors n))

abbrev pub is_whole_set : ℕ → SetOfVectors → Bool
is_whole_set n set = list_all set (all_vectors n)

abbrev pub ignores_first : ℕ → SetOfVectors → Bool
ignores_first n set = list_all (λ v. same_value (set (false ∷ v)) (set (true ∷ v))) (all_vectors n)

-- the cubes of a set over the n fluents from the given one on: none for the empty set; the empty
-- cube for the whole set; where the set doesn't depend on the first fluent, those over the rest;
-- else those of the half where the first fluent is false, each with that literal before it, and
-- then those of the true half
abbrev pub cubes_from : ℕ → ℕ → SetOfVectors → List Cube
cubes_from first zero set = if set [] then [] ∷ [] else []
cubes_from first (suc n) set =
    if is_empty_set (suc n) set then []
    else if is_whole_set (suc n) set then [] ∷ []
    else if ignores_first n set then cubes_from (first + 1) n (half false set)
    else map (λ cube. literal first false ∷ cube) (cubes_from (first + 1) n (half false set))
    ++ map (λ cube. literal first true ∷ cube) (cubes_from (first + 1) n (half true set))

-- the cubes of a set of states over F fluents
abbrev pub cubes_of : ℕ → SetOfVectors → List Cube
cubes_of F set = cubes_from 0 F set
