-- A setting as tables, which is what is seen of the type that holds one.
use Rattle.std.specs.Prelude.{ℕ, nat_eq, ◌==◌, Bool, not, List, [], slice_get}
use Rattle.std.specs.List.{list_any}
use Rattle.std.specs.Option.{option_map_or}
use Rattle.pddl_ast.specs.Trees.{AtomTree, LiteralTree}
use Rattle.pddl_system.specs.GroundAtoms.{is_among}
use Rattle.pddl_system.specs.Settings.{Setting}

pub record Tables : Type 0 where
  -- the objects of each type, by the number of the type
  pub objects : List (List ℕ)
  -- the predicates that aren't rigid
  pub changed : List ℕ
  -- the atoms that are initially true for certain
  pub facts : List AtomTree

-- the objects of a type: none where there is no such type
abbrev pub objects_at : List (List ℕ) → ℕ → List ℕ
objects_at lists t = option_map_or (λ (objects : List ℕ). objects) (slice_get lists t) []

-- the setting that tables hold
abbrev pub setting_in : Tables → Setting
setting_in tables = record {
  objects = objects_at tables.objects;
  is_rigid = λ q. not (list_any (nat_eq q) tables.changed);
  is_fact = is_among tables.facts;
}

-- Private: whether some literals name a predicate.
abbrev pub names_predicate : ℕ → List LiteralTree → Bool
names_predicate q = list_any (λ (l : LiteralTree). l.atom.predicate == q)
