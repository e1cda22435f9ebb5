-- The ancestors of types. A type is a number, and a list has each type's parent at its number.
use Rattle.std.specs.Prelude.{ℕ, suc, ◌==◌, Bool, List, length, map}
use Rattle.std.specs.List.{list_any, range_with_len}
use Rattle.pddl_ast.specs.Fits.{ancestor}

-- whether a type's chain of parents comes back to it. Where it does, it does so within as many
-- steps as there are types
abbrev pub is_own_ancestor : List ℕ → ℕ → Bool
is_own_ancestor parents t =
    list_any (λ n. ancestor parents (suc n) t == t) (range_with_len 0 (length parents))

-- the ancestor of each type so many steps up
abbrev pub ancestors : List ℕ → ℕ → List ℕ
ancestors parents n = map (ancestor parents n) (range_with_len 0 (length parents))

-- for each number below n, whether it stands in the list
abbrev pub which_of : ℕ → List ℕ → List Bool
which_of n ts = map (λ t. list_any (λ s. s == t) ts) (range_with_len 0 n)
