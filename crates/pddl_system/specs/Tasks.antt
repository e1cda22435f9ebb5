-- The task that a domain and a problem spell: plain trees, in which a `Vec` is the list of its
-- items. It is one function of the two trees, and its system is theirs.
use Rattle.std.specs.Prelude.{ℕ, ◌==◌, Bool, if◌then◌else◌, List, [], ◌∷◌, ◌++◌, map, Option}
use Rattle.std.specs.List.{position_or_len}
use Rattle.std.specs.Option.{option_map, option_map_or}
use Rattle.ctl_syntax.specs.Conditions.{CondTree, CondTrees, yes_always, no_never, is_fluent_true}
use Rattle.ctl_syntax.specs.Conditions.{not_so, all_of, any_of, no_condition, condition_then}
use Rattle.ctl_syntax.specs.Conditions.{condition_row}
use Rattle.task_core.specs.Initial.{Entry}
use Rattle.task_core.specs.Names.{Name}
use Rattle.task_core.specs.Vectors.{Vector}
use Rattle.task_core.specs.declared.literals.Lit.{Lit}
use Rattle.pddl_ast.specs.Trees.{FormulaTree, FormulaTrees, atom, equal, all, any, negation}
use Rattle.pddl_ast.specs.Trees.{implication, exists, forall, no_formula, formula_then, AtomTree}
use Rattle.pddl_ast.specs.Trees.{DomainTree, ProblemTree}
use Rattle.pddl_system.specs.Fluents.{fluents}
use Rattle.pddl_system.specs.GroundAtoms.{atom_of, same_atom}
use Rattle.pddl_system.specs.Instances.{Instance, kept_instances}
use Rattle.pddl_system.specs.Objects.{bindings, object_of}
use Rattle.pddl_system.specs.Outcomes.{ChangeTree, Condition, OutcomeTree, outcomes_of}
use Rattle.pddl_system.specs.Outcomes.{possible_changes}
use Rattle.pddl_system.specs.Settings.{Setting, setting}
use Rattle.pddl_system.specs.States.{fluent_number}
use Rattle.pddl_system.specs.Systems.{entry_over, facts_of, fluent_names, instance_name}

-- an action of a task: its name, when it can be executed, and its outcomes, each a list of changes
-- under a condition
pub record ActionTree : Type 0 where
  pub name : Name
  pub exec : CondTree
  pub outcomes : List (List (CondTree × Lit))

pub record TaskTree : Type 0 where
  pub fluents : List Name
  pub actions : List ActionTree
  pub facts : Vector
  pub entries : List Entry
  pub goal : Option CondTree
  pub invariant : CondTree

-- the condition of an atom: that its fluent is true, or its initial value, where it is no fluent
abbrev pub constant : Bool → CondTree
constant b = if b then yes_always else no_never

abbrev pub atom_condition : Setting → List AtomTree → AtomTree → CondTree
atom_condition at fluents a =
    option_map_or is_fluent_true (fluent_number fluents a) (constant (at.is_fact a))

-- the condition of a formula where the variables in scope stand for these objects. An implication
-- is that the first part doesn't hold, or the second does; a quantifier is taken for each binding,
-- in order
abbrev mutual
  pub condition_of : Setting → List AtomTree → FormulaTree → List ℕ → CondTree
  condition_of at fluents (atom predicate terms) scope =
      atom_condition at fluents (atom_of scope predicate terms)
  condition_of at fluents (equal left right) scope =
      constant (object_of scope left == object_of scope right)
  condition_of at fluents (all parts) scope = all_of (conditions_of at fluents parts scope)
  condition_of at fluents (any parts) scope = any_of (conditions_of at fluents parts scope)
  condition_of at fluents (negation part) scope = not_so (condition_of at fluents part scope)
  condition_of at fluents (implication left right) scope = any_of (condition_row
      (not_so (condition_of at fluents left scope) ∷ condition_of at fluents right scope ∷ []))
  condition_of at fluents (exists types part) scope = any_of (condition_row
      (map (λ chosen. condition_of at fluents part (scope ++ chosen)) (bindings at.objects types)))
  condition_of at fluents (forall types part) scope = all_of (condition_row
      (map (λ chosen. condition_of at fluents part (scope ++ chosen)) (bindings at.objects types)))

  pub conditions_of : Setting → List AtomTree → FormulaTrees → List ℕ → CondTrees
  conditions_of at fluents no_formula scope = no_condition
  conditions_of at fluents (formula_then f fs) scope =
      condition_then (condition_of at fluents f scope) (conditions_of at fluents fs scope)

-- the condition of a change: `Yes` where it has none, else the `All` of its conditions
abbrev pub changed_if : Setting → List AtomTree → List Condition → CondTree
changed_if at fluents [] = yes_always
changed_if at fluents (c ∷ cs) = all_of (condition_row
    (map (λ (c : Condition). condition_of at fluents c.formula c.scope) (c ∷ cs)))

abbrev pub change_of : Setting → List AtomTree → ChangeTree → CondTree × Lit
change_of at fluents change = (
  changed_if at fluents change.conditions,
  record {
    fluent = record { 0 = position_or_len (same_atom change.atom) fluents };
    positive = change.positive;
  },
)

-- the changes of an outcome, without those that are known not to come about
abbrev pub outcome_of : Setting → List AtomTree → OutcomeTree → List (CondTree × Lit)
outcome_of at fluents outcome = map (change_of at fluents) (possible_changes at outcome)

abbrev pub action_of : DomainTree → ProblemTree → Instance → ActionTree
action_of d p i = let at = setting d p in record {
  name = instance_name d p i;
  exec = condition_of at (fluents d p) i.schema.precondition i.objects;
  outcomes = map (outcome_of at (fluents d p)) (outcomes_of at i);
}

-- the task of a domain and a problem
abbrev pub task_of : DomainTree → ProblemTree → TaskTree
task_of d p = record {
  fluents = fluent_names d p;
  actions = map (action_of d p) (kept_instances d p);
  facts = facts_of (setting d p) (fluents d p);
  entries = map (entry_over (fluents d p)) p.entries;
  goal = option_map (λ goal. condition_of (setting d p) (fluents d p) goal []) p.goal;
  invariant = condition_of (setting d p) (fluents d p) d.invariant [];
}
