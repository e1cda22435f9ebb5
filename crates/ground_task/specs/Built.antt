-- Private: outcomes over fluents, as they are built from drafts.
use Rattle.std.specs.Prelude.{Bool, List, map}
use Rattle.std.specs.List.{position_or_len}
use Rattle.ctl_syntax.specs.Conditions.{CondTree}
use Rattle.task_core.specs.declared.literals.Lit.{Lit}
use Rattle.pddl_ast.specs.Trees.{AtomTree}
use Rattle.pddl_system.specs.GroundAtoms.{same_atom}
use Rattle.pddl_system.specs.Outcomes.{Condition}
use Rattle.pddl_system.specs.Settings.{Setting}
use Rattle.pddl_system.specs.Tasks.{changed_if, condition_of}
use Rattle.ground_task.specs.Drafts.{change_tree, guard_trees}
use Rattle.ground_task.specs.declared.drafts.PartDraft.{PartDraft}

abbrev pub condition_at : Setting → List AtomTree → Condition → CondTree
condition_at at fluents c = condition_of at fluents c.formula c.scope

-- the literal of an atom
abbrev pub literal_made : List AtomTree → AtomTree × Bool → Lit
literal_made fluents change = record {
  fluent = record { 0 = position_or_len (same_atom change.0) fluents };
  positive = change.1;
}

-- the change of an atom under a condition
abbrev pub change_made : List AtomTree → CondTree → AtomTree × Bool → CondTree × Lit
change_made fluents condition change = (condition, literal_made fluents change)

-- the changes of a part
abbrev pub part_made : Setting → List AtomTree → PartDraft → List (CondTree × Lit)
part_made at fluents p =
    map (change_made fluents (changed_if at fluents (guard_trees p.guards.items)))
    (map change_tree p.changes.items)
