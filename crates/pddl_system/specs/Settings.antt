-- What a domain and a problem fix before any action is looked at: the objects of each type, which
-- predicates never change, and which atoms are initially true for certain.
use Rattle.std.specs.Prelude.{ℕ, ◌==◌, Bool, false, ◌||◌, not, List}
use Rattle.std.specs.List.{list_any}
use Rattle.pddl_ast.specs.Trees.{EffectTree, EffectTrees, add, delete, both, one_of, only_when}
use Rattle.pddl_ast.specs.Trees.{each, no_effect, effect_then, AtomTree, LiteralTree, SchemaTree}
use Rattle.pddl_ast.specs.Trees.{DomainTree, ProblemTree}
use Rattle.pddl_system.specs.GroundAtoms.{is_among}
use Rattle.pddl_system.specs.Objects.{all_objects, objects_of_type}

-- whether a part of an effect adds or deletes an atom of a predicate. An atom in the condition of a
-- `when` doesn't count
abbrev mutual
  pub changes : ℕ → EffectTree → Bool
  changes predicate (add q terms) = q == predicate
  changes predicate (delete q terms) = q == predicate
  changes predicate (both parts) = some_changes predicate parts
  changes predicate (one_of parts) = some_changes predicate parts
  changes predicate (only_when condition part) = changes predicate part
  changes predicate (each types part) = changes predicate part

  pub some_changes : ℕ → EffectTrees → Bool
  some_changes predicate no_effect = false
  some_changes predicate (effect_then e es) = changes predicate e || some_changes predicate es

-- whether an uncertain entry names an atom of a predicate
abbrev pub entry_names : ℕ → List (List LiteralTree) → Bool
entry_names predicate =
    list_any (list_any (λ (l : LiteralTree). l.atom.predicate == predicate))

-- a predicate is rigid where no effect changes it and no uncertain entry names it
abbrev pub is_rigid_in : DomainTree → ProblemTree → ℕ → Bool
is_rigid_in d p predicate =
    not (list_any (λ (s : SchemaTree). changes predicate s.effect) d.actions
    || list_any (entry_names predicate) p.entries)

pub record Setting : Type 0 where
  -- the objects of a type, in their order
  pub objects : ℕ → List ℕ
  -- whether a predicate is rigid
  pub is_rigid : ℕ → Bool
  -- whether an atom is listed as initially true, outside the uncertain entries
  pub is_fact : AtomTree → Bool

abbrev pub setting : DomainTree → ProblemTree → Setting
setting d p = record {
  objects = objects_of_type d.parents (all_objects d p);
  is_rigid = is_rigid_in d p;
  is_fact = is_among p.facts;
}
