-- The fluents: the atoms whose value may differ between states.
use Rattle.std.specs.Prelude.{ℕ, Bool, ◌||◌, List, [], ◌∷◌, ◌++◌, map, length, if◌then◌else◌}
use Rattle.std.specs.List.{filter, flat_map, list_any}
use Rattle.pddl_ast.specs.Trees.{EffectTree, EffectTrees, add, delete, both, one_of, only_when}
use Rattle.pddl_ast.specs.Trees.{each, no_effect, effect_then, AtomTree, LiteralTree, DomainTree}
use Rattle.pddl_ast.specs.Trees.{ProblemTree}
use Rattle.pddl_system.specs.GroundAtoms.{all_atoms, atom_of, is_among}
use Rattle.pddl_system.specs.Instances.{Instance, kept_instances}
use Rattle.pddl_system.specs.Objects.{all_objects, bindings}
use Rattle.pddl_system.specs.Outcomes.{ChangeTree, outcomes_of, possible_changes}
use Rattle.pddl_system.specs.Settings.{Setting, setting}
use Rattle.pddl_system.specs.ThreeValues.{may_hold, value}

abbrev pub atoms_changed : List ChangeTree → List AtomTree
atoms_changed = map (λ (c : ChangeTree). c.atom)

-- the atoms that some outcome of an instance may change
abbrev pub changed_by : Setting → Instance → List AtomTree
changed_by at i = flat_map (λ o. atoms_changed (possible_changes at o)) (outcomes_of at i)

-- the atoms that an uncertain entry names
abbrev pub named_by : List (List LiteralTree) → List AtomTree
named_by = flat_map (map (λ (l : LiteralTree). l.atom))

-- the atoms that an effect adds or deletes under conditions that may hold: a walk over the effect,
-- in which a choice and a list of effects that happen together name what their parts name. For an
-- effect in which every choice has an alternative, these are the atoms that some outcome may change
abbrev mutual
  pub named_by_effect : Setting → EffectTree → List ℕ → List AtomTree
  named_by_effect at (add predicate terms) scope = atom_of scope predicate terms ∷ []
  named_by_effect at (delete predicate terms) scope = atom_of scope predicate terms ∷ []
  named_by_effect at (both parts) scope = named_by_effects at parts scope
  named_by_effect at (one_of parts) scope = named_by_effects at parts scope
  named_by_effect at (only_when formula part) scope =
      if may_hold (value at formula scope) then named_by_effect at part scope else []
  named_by_effect at (each types part) scope =
      flat_map (λ chosen. named_by_effect at part (scope ++ chosen)) (bindings at.objects types)

  pub named_by_effects : Setting → EffectTrees → List ℕ → List AtomTree
  named_by_effects at no_effect scope = []
  named_by_effects at (effect_then e es) scope =
      named_by_effect at e scope ++ named_by_effects at es scope

-- whether some outcome of a kept instance may change the atom, or an uncertain entry names it
abbrev pub is_fluent : DomainTree → ProblemTree → AtomTree → Bool
is_fluent d p a =
    list_any (λ i. is_among (changed_by (setting d p) i) a) (kept_instances d p)
    || list_any (λ entry. is_among (named_by entry) a) p.entries

-- the fluents, by predicate as declared and then by their objects. Their places are their numbers
abbrev pub fluents : DomainTree → ProblemTree → List AtomTree
fluents d p = filter (is_fluent d p) (all_atoms d.predicates (length (all_objects d p)))

-- the atoms that make a fluent, as the effects of kept instances and then the uncertain entries
-- name them, some more than once
abbrev pub named_atoms : DomainTree → ProblemTree → List AtomTree
named_atoms d p =
    flat_map (λ (i : Instance). named_by_effect (setting d p) i.schema.effect i.objects)
    (kept_instances d p)
    ++ flat_map named_by p.entries
