-- A state of a system with n fluents, as the list of its n truth values, the first fluent's first.
use Rattle.std.specs.Prelude.{ℕ, zero, suc, Bool, true, false, not, ◌&&◌, List, [], ◌∷◌, ◌++◌, map}
use Rattle.std.specs.Prelude.{slice_index_or}

abbrev pub Vector : Type 0
Vector = List Bool

-- the value of fluent f; false past the last one
abbrev pub value_of : Vector → ℕ → Bool
value_of v f = slice_index_or v f false

-- every vector of n values once, in order: false before true, the first fluent the slowest
abbrev pub all_vectors : ℕ → List Vector
all_vectors zero = [] ∷ []
all_vectors (suc n) = map (λ v. false ∷ v) (all_vectors n) ++ map (λ v. true ∷ v) (all_vectors n)

-- whether two truth values are the same
abbrev pub same_value : Bool → Bool → Bool
same_value true b = b
same_value false b = not b

-- whether two vectors are the same
abbrev pub same_vector : Vector → Vector → Bool
same_vector [] [] = true
same_vector [] (y ∷ ys) = false
same_vector (x ∷ xs) [] = false
same_vector (x ∷ xs) (y ∷ ys) = same_value x y && same_vector xs ys
