-- Atoms over objects, and all of them in their order.
use Rattle.std.specs.Prelude.{ℕ, ◌==◌, Bool, ◌&&◌, List, map, replicate}
use Rattle.std.specs.List.{enumerate_from, flat_map, list_any, range_with_len}
use Rattle.std.specs.Str.{bytes_eq}
use Rattle.pddl_ast.specs.declared.trees.Term.{Term}
use Rattle.pddl_ast.specs.declared.trees.Predicate.{Predicate}
use Rattle.pddl_ast.specs.Trees.{AtomTree}
use Rattle.pddl_system.specs.Objects.{bindings, object_of}

-- the atom of a predicate and terms, where the variables in scope stand for these objects
abbrev pub atom_of : List ℕ → ℕ → List Term → AtomTree
atom_of scope predicate terms =
    record { predicate = predicate; objects = map (object_of scope) terms }

-- whether two atoms are the same
abbrev pub same_atom : AtomTree → AtomTree → Bool
same_atom a b = (a.predicate == b.predicate) && bytes_eq a.objects b.objects

-- whether an atom is in a list
abbrev pub is_among : List AtomTree → AtomTree → Bool
is_among atoms a = list_any (same_atom a) atoms

-- the atoms of a predicate over n objects: the first argument changes slowest
abbrev pub atoms_of_predicate : ℕ → ℕ → ℕ → List AtomTree
atoms_of_predicate n predicate arity =
    map (λ objects. record { predicate = predicate; objects = objects })
    (bindings (λ _. range_with_len 0 n) (replicate arity 0))

-- all atoms over n objects, by predicate as declared, and then by their objects
abbrev pub all_atoms : List Predicate → ℕ → List AtomTree
all_atoms predicates n =
    flat_map (λ entry. atoms_of_predicate n entry.0 entry.1.arity) (enumerate_from 0 predicates)
