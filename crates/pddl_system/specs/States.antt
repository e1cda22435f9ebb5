-- Vectors and states of a domain and a problem. A vector has a truth value for each fluent; every
-- other atom keeps its initial value in each. The states are the vectors in which the domain's
-- invariant holds.
use Rattle.std.specs.Prelude.{ℕ, Bool, true, false, ◌&&◌, if◌then◌else◌, List, [], map, Option}
use Rattle.std.specs.Prelude.{Some, None}
use Rattle.std.specs.List.{list_all, list_any, position}
use Rattle.task_core.specs.Vectors.{Vector, same_value, value_of}
use Rattle.pddl_ast.specs.Trees.{AtomTree, FormulaTree}
use Rattle.pddl_system.specs.GroundAtoms.{same_atom}
use Rattle.pddl_system.specs.Outcomes.{ChangeTree, Condition, OutcomeTree}
use Rattle.pddl_system.specs.Settings.{Setting}
use Rattle.pddl_system.specs.Truth.{is_true}

-- the number of an atom among the fluents
abbrev pub fluent_number : List AtomTree → AtomTree → Option ℕ
fluent_number fluents a = position (same_atom a) fluents

-- the value of an atom that has this number, or of one that is no fluent
abbrev pub value_at : Vector → Bool → Option ℕ → Bool
value_at v initially (Some f) = value_of v f
value_at v initially None = initially

-- the value of an atom in the vector v
abbrev pub atom_holds : Setting → List AtomTree → Vector → AtomTree → Bool
atom_holds at fluents v a = value_at v (at.is_fact a) (fluent_number fluents a)

-- whether a formula holds in the vector v, where the variables in scope stand for these objects
abbrev pub formula_holds : Setting → List AtomTree → Vector → FormulaTree → List ℕ → Bool
formula_holds at fluents v = is_true at.objects (atom_holds at fluents v)

-- whether a vector is a state: the domain's invariant holds in it
abbrev pub is_state : Setting → List AtomTree → FormulaTree → Vector → Bool
is_state at fluents invariant v = formula_holds at fluents v invariant []

-- whether all conditions of a change hold in the vector v
abbrev pub comes_about : Setting → List AtomTree → Vector → ChangeTree → Bool
comes_about at fluents v change =
    list_all (λ (c : Condition). formula_holds at fluents v c.formula c.scope) change.conditions

-- whether a change comes about in the vector v and makes the atom true (positive) or false
abbrev pub makes : Setting → List AtomTree → Vector → Bool → AtomTree → ChangeTree → Bool
makes at fluents v positive a change =
    same_atom a change.atom && same_value change.positive positive
    && comes_about at fluents v change

-- the value of a fluent after an outcome in the vector v, whose conditions are all read in v: true
-- where a change makes it true, else false where one makes it false, else as in v
abbrev pub value_after : Setting → List AtomTree → Vector → OutcomeTree → AtomTree → Bool
value_after at fluents v outcome a =
    if list_any (makes at fluents v true a) outcome then true
    else if list_any (makes at fluents v false a) outcome then false
    else atom_holds at fluents v a

-- the vector after an outcome in the vector v, whether it is a state or not
abbrev pub state_after : Setting → List AtomTree → Vector → OutcomeTree → Vector
state_after at fluents v outcome = map (value_after at fluents v outcome) fluents
