-- Private: what drafts of outcomes stand for, and what of an outcome they have.
use Rattle.std.specs.Prelude.{ℕ, Bool, List, [], map, Option, Some, if◌then◌else◌}
use Rattle.std.specs.List.{flat_map}
use Rattle.ground_instances.specs.Atoms.{atom_tree}
use Rattle.ground_instances.specs.Kept.{instance_of}
use Rattle.pddl_ast.specs.Trees.{AtomTree, DomainTree}
use Rattle.pddl_ast.specs.Values.{formula_value}
use Rattle.pddl_ast.specs.declared.trees.Formula.{Formula}
use Rattle.pddl_system.specs.Instances.{Instance as InstanceTree}
use Rattle.pddl_system.specs.Outcomes.{ChangeTree, Condition, OutcomeTree, outcomes_of}
use Rattle.pddl_system.specs.Outcomes.{possible_changes}
use Rattle.pddl_system.specs.Settings.{Setting}
use Rattle.ground_task.specs.declared.drafts.ActionDraft.{ActionDraft}
use Rattle.ground_task.specs.declared.drafts.ChangeDraft.{ChangeDraft}
use Rattle.ground_task.specs.declared.drafts.Guard.{Guard}
use Rattle.ground_task.specs.declared.drafts.OutcomeDraft.{OutcomeDraft}
use Rattle.ground_task.specs.declared.drafts.PartDraft.{PartDraft}

-- a formula, where the variables in scope stand for these objects
abbrev pub guard_of : Formula → List ℕ → Condition
guard_of formula scope = record { formula = formula_value formula; scope = scope }

abbrev pub guard_tree : Guard → Condition
guard_tree g = guard_of g.formula.now g.scope.items

abbrev pub guard_trees : List Guard → List Condition
guard_trees = map guard_tree

-- which atom is changed, and how
abbrev pub change_tree : ChangeDraft → AtomTree × Bool
change_tree c = (atom_tree c.atom, c.positive)

-- a change under conditions
abbrev pub conditional : List Condition → AtomTree × Bool → ChangeTree
conditional conditions change =
    record { conditions = conditions; atom = change.0; positive = change.1 }

abbrev pub part_tree : PartDraft → List ChangeTree
part_tree p = map (conditional (guard_trees p.guards.items)) (map change_tree p.changes.items)

abbrev pub draft_tree : OutcomeDraft → OutcomeTree
draft_tree o = flat_map part_tree o.parts.items

abbrev pub draft_trees : List OutcomeDraft → List OutcomeTree
draft_trees = map draft_tree

-- the instance of an action that is drafted, and its outcomes
abbrev pub action_tree : DomainTree → ActionDraft → Option InstanceTree × List OutcomeTree
action_tree d a = (instance_of d a.instance.now, draft_trees a.outcomes.items)

-- an instance with its outcomes, of which each has the changes that may come about
abbrev pub drafted : Setting → InstanceTree → Option InstanceTree × List OutcomeTree
drafted at i = (Some i, map (possible_changes at) (outcomes_of at i))

-- the changes of an outcome that may come about where a condition around it may hold: none where
-- it can't
abbrev pub possible_where : Setting → Bool → OutcomeTree → OutcomeTree
possible_where at may outcome = if may then possible_changes at outcome else []

-- the atoms that the changes of a draft name
abbrev pub part_atoms : PartDraft → List AtomTree
part_atoms p = map (λ (c : ChangeDraft). atom_tree c.atom) p.changes.items

abbrev pub draft_atoms : OutcomeDraft → List AtomTree
draft_atoms o = flat_map part_atoms o.parts.items
