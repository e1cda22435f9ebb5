-- Worked examples of the definitions.
use Rattle.std.proofs.Common.{◌≡◌, ℕ, Bool, true, false, List, [], ◌∷◌, map, Some, None, refl, ◌==◌}
use Rattle.std.specs.Prelude.{codes}
use Rattle.sexpr_text.specs.declared.forms.Place.{Place}
use Rattle.task_core.specs.Cubes.{literal}
use Rattle.pddl_ast.specs.declared.trees.Term.TheVariants.{Variable, Object}
use Rattle.pddl_ast.specs.declared.trees.UnaryOperator.TheVariants.{Ex, Af, Eg}
use Rattle.pddl_ast.specs.declared.trees.BinaryOperator.TheVariants.{Au}
use Rattle.ctl_syntax.specs.Goals as goals
use Rattle.pddl_system.specs.CtlGoals.{ctl_goal_of, grounded_goal}
use Rattle.pddl_ast.specs.Trees.{TemporalTree, unary, binary, state_formula, goal_negation, goal_implication, all_goals, temporal_row, FormulaTree, atom, all, any, negation, implication, exists, forall, formula_row, EffectTree, add, delete, both, one_of, only_when, each, effect_row, AtomTree, LiteralTree, SchemaTree, DomainTree, ProblemTree}
use Rattle.pddl_system.specs.Fluents.{fluents, named_by_effect}
use Rattle.pddl_system.specs.GroundAtoms.{same_atom}
use Rattle.pddl_system.specs.Instances.{Instance, kept_instances}
use Rattle.pddl_system.specs.Objects.{bindings, objects_of_type}
use Rattle.pddl_system.specs.Outcomes.{ChangeTree, outcomes}
use Rattle.pddl_system.specs.Settings.{Setting, setting}
use Rattle.pddl_system.specs.Sizes.{ctl_size, effect_size, temporal_size, first_passed, formula_size, outcome_count}
use Rattle.pddl_system.specs.States.{state_after}
use Rattle.pddl_system.specs.Systems.{action_names, fluent_names, system}
use Rattle.ctl_syntax.specs.Conditions.{all_of, any_of, condition_row, is_fluent_true, yes_always}
use Rattle.pddl_system.specs.Tasks.{ActionTree, task_of}
use Rattle.pddl_system.specs.ThreeValues.{value}
use Rattle.pddl_system.specs.Truth.{is_true}

abbrev atom_tree : ℕ → List ℕ → AtomTree
atom_tree predicate objects = record { predicate = predicate; objects = objects }

-- predicate p of variable k
abbrev of_variable : ℕ → ℕ → FormulaTree
of_variable p k = atom p (Variable k ∷ [])

-- two objects of every type, or none
abbrev two_objects : ℕ → List ℕ
two_objects _ = 0 ∷ 1 ∷ []

abbrev nobody : ℕ → List ℕ
nobody _ = []

-- predicate 0 holds of object 0 alone
abbrev first_alone : AtomTree → Bool
first_alone = same_atom (atom_tree 0 (0 ∷ []))

-- a variable that hides another of its name has the next number: (forall (?x) (exists (?x) (p
-- ?x))), where the hidden one would have the number 0
hidden_variable : is_true two_objects first_alone (forall (0 ∷ []) (exists (0 ∷ []) (of_variable 0 1))) [] ≡ true
hidden_variable = refl

not_the_hidden_one : is_true two_objects first_alone (forall (0 ∷ []) (exists (0 ∷ []) (of_variable 0 0))) [] ≡ false
not_the_hidden_one = refl

-- over no object `forall` holds, and `exists` doesn't; a `forall` effect has one outcome without a
-- change
for_all_of_none : is_true nobody first_alone (forall (0 ∷ []) (of_variable 0 0)) [] ≡ true
for_all_of_none = refl

none_exists : is_true nobody first_alone (exists (0 ∷ []) (of_variable 0 0)) [] ≡ false
none_exists = refl

no_change : outcomes nobody (each (0 ∷ []) (add 0 (Variable 0 ∷ []))) [] ≡ [] ∷ []
no_change = refl

-- two parameters may be one object; the first changes slowest
equal_objects : bindings two_objects (0 ∷ 0 ∷ []) ≡ (0 ∷ 0 ∷ []) ∷ (0 ∷ 1 ∷ []) ∷ (1 ∷ 0 ∷ []) ∷ (1 ∷ 1 ∷ []) ∷ []
equal_objects = refl

-- types 0 (object), 1 and 2 below it, 3 below 1; objects of the types 3, 2, 1
objects_by_type : map (objects_of_type (0 ∷ 0 ∷ 0 ∷ 1 ∷ []) (record { name = codes "a"; type_id = 3 } ∷ record { name = codes "b"; type_id = 2 } ∷ record { name = codes "c"; type_id = 1 } ∷ [])) (0 ∷ 1 ∷ 2 ∷ 3 ∷ [])
    ≡ (0 ∷ 1 ∷ 2 ∷ []) ∷ (0 ∷ 2 ∷ []) ∷ (1 ∷ []) ∷ (0 ∷ []) ∷ []
objects_by_type = refl

-- (forall (?x) (when (q ?x) (oneof (p ?x) (and)))): of each object by itself, the choice of the
-- first slowest
abbrev each_may : EffectTree
each_may = each (0 ∷ []) (only_when (of_variable 1 0) (one_of (effect_row (add 0 (Variable 0 ∷ []) ∷ both (effect_row []) ∷ []))))

abbrev adds_under : ℕ → ChangeTree
adds_under o = record {
  conditions = record { formula = of_variable 1 0; scope = o ∷ [] } ∷ [];
  atom = atom_tree 0 (o ∷ []);
  positive = true;
}

each_chooses : outcomes two_objects each_may [] ≡ (adds_under 0 ∷ adds_under 1 ∷ []) ∷ (adds_under 0 ∷ []) ∷ (adds_under 1 ∷ []) ∷ [] ∷ []
each_chooses = refl

four_outcomes : outcome_count two_objects each_may ≡ 4
four_outcomes = refl

-- a `forall` counts its body for each binding; a `when`, its formula; a choice, its alternatives
its_size : effect_size two_objects each_may ≡ 11
its_size = refl

sizes : map (formula_size two_objects) (all (formula_row []) ∷ negation (of_variable 0 0) ∷ forall (0 ∷ []) (negation (of_variable 0 0)) ∷ []) ≡ 1 ∷ 2 ∷ 5 ∷ []
sizes = refl

-- where predicate 1 is rigid and holds of object 0 alone, the effect names the atom of object 0
-- alone
abbrev rigid_condition : Setting
rigid_condition = record { objects = two_objects; is_rigid = λ q. 1 == q; is_fact = same_atom (atom_tree 1 (0 ∷ [])) }

names_one : named_by_effect rigid_condition each_may [] ≡ atom_tree 0 (0 ∷ []) ∷ []
names_one = refl

-- what the known parts decide is known
known_by_parts : map (λ f. value rigid_condition f (1 ∷ [])) (of_variable 0 0 ∷ of_variable 1 0 ∷ all (formula_row (of_variable 0 0 ∷ of_variable 1 0 ∷ [])) ∷ any (formula_row (of_variable 0 0 ∷ of_variable 1 0 ∷ [])) ∷ implication (of_variable 1 0) (of_variable 0 0) ∷ [])
    ≡ None ∷ Some false ∷ Some false ∷ None ∷ Some true ∷ []
known_by_parts = refl

-- an outcome that deletes and adds one atom makes it true; its conditions are read before
abbrev change : ℕ → Bool → ChangeTree
change p positive = record { conditions = []; atom = atom_tree p []; positive = positive }

abbrev if_first : ChangeTree
if_first = record { conditions = record { formula = atom 0 []; scope = [] } ∷ []; atom = atom_tree 1 []; positive = true }

abbrev all_change : Setting
all_change = record { objects = two_objects; is_rigid = λ _. false; is_fact = λ _. false }

add_wins : state_after all_change (atom_tree 0 [] ∷ []) (true ∷ []) (change 0 true ∷ change 0 false ∷ []) ≡ true ∷ []
add_wins = refl

old_state : state_after all_change (atom_tree 0 [] ∷ atom_tree 1 [] ∷ []) (false ∷ false ∷ []) (change 0 true ∷ if_first ∷ []) ≡ true ∷ false ∷ []
old_state = refl

module _ (place : Place) where
  -- one predicate without terms, and no action: entries alone make it a fluent
  abbrev still : DomainTree
  still = record {
    name = codes "still";
    type_names = codes "object" ∷ [];
    parents = 0 ∷ [];
    constants = [];
    predicates = record { name = codes "p"; arity = 0 } ∷ [];
    actions = [];
    invariant = all (formula_row []);
  }

  abbrev entries_of_still : List AtomTree → List (List (List LiteralTree)) → ProblemTree
  entries_of_still facts entries = record { name = codes "s"; objects = []; facts = facts; entries = entries; goal = None; ctl = None; place = place; ctl_place = place }

  abbrev p_is : Bool → List LiteralTree
  p_is positive = record { atom = atom_tree 0 []; positive = positive } ∷ []

  -- a later entry overrides an earlier one, and a fact
  later_wins : (system still (entries_of_still [] ((p_is true ∷ p_is false ∷ []) ∷ (p_is false ∷ []) ∷ []))).initial ≡ (false ∷ []) ∷ []
  later_wins = refl

  entry_wins : (system still (entries_of_still (atom_tree 0 [] ∷ []) ((p_is false ∷ []) ∷ []))).initial ≡ (false ∷ []) ∷ []
  entry_wins = refl

  no_fluent : fluents still (entries_of_still (atom_tree 0 [] ∷ []) []) ≡ []
  no_fluent = refl

  -- slip: going from where one is to a place that is next to it may fail
  abbrev go : SchemaTree
  go = record {
    name = codes "go";
    parameters = 0 ∷ 0 ∷ [];
    precondition = all (formula_row (of_variable 0 0 ∷ atom 1 (Variable 0 ∷ Variable 1 ∷ []) ∷ []));
    effect = one_of (effect_row (both (effect_row (delete 0 (Variable 0 ∷ []) ∷ add 0 (Variable 1 ∷ []) ∷ [])) ∷ both (effect_row []) ∷ []));
  }

  abbrev slip : DomainTree
  slip = record {
    name = codes "slip";
    type_names = codes "object" ∷ [];
    parents = 0 ∷ [];
    constants = [];
    predicates = record { name = codes "at"; arity = 1 } ∷ record { name = codes "next"; arity = 2 } ∷ [];
    actions = go ∷ [];
    invariant = all (formula_row []);
  }

  -- from a to b, which is next to it
  abbrev a_to_b : ProblemTree
  a_to_b = record {
    name = codes "s1";
    objects = record { name = codes "a"; type_id = 0 } ∷ record { name = codes "b"; type_id = 0 } ∷ [];
    facts = atom_tree 0 (0 ∷ []) ∷ atom_tree 1 (0 ∷ 1 ∷ []) ∷ [];
    entries = [];
    goal = Some (atom 0 (Object 1 ∷ []));
    ctl = Some (binary Au (unary Ex (state_formula (atom 1 (Object 0 ∷ Object 1 ∷ [])))) (state_formula (atom 0 (Object 1 ∷ []))));
    place = place;
    ctl_place = place;
  }

  -- of its four instances three are known to be impossible, since `next` never changes
  slip_kept : map (λ (i : Instance). i.objects) (kept_instances slip a_to_b) ≡ (0 ∷ 1 ∷ []) ∷ []
  slip_kept = refl

  slip_values : map (value (setting slip a_to_b) go.precondition) ((0 ∷ 0 ∷ []) ∷ (0 ∷ 1 ∷ []) ∷ []) ≡ Some false ∷ None ∷ []
  slip_values = refl

  slip_fluents : fluents slip a_to_b ≡ atom_tree 0 (0 ∷ []) ∷ atom_tree 0 (1 ∷ []) ∷ []
  slip_fluents = refl

  slip_names : fluent_names slip a_to_b ≡ (codes "at" ∷ codes "a" ∷ []) ∷ (codes "at" ∷ codes "b" ∷ []) ∷ []
  slip_names = refl

  slip_actions : action_names slip a_to_b ≡ (codes "go" ∷ codes "a" ∷ codes "b" ∷ []) ∷ []
  slip_actions = refl

  slip_initial : (system slip a_to_b).initial ≡ (true ∷ false ∷ []) ∷ []
  slip_initial = refl

  slip_goal : (system slip a_to_b).goal ≡ Some ((false ∷ true ∷ []) ∷ (true ∷ true ∷ []) ∷ [])
  slip_goal = refl

  -- going gets there, or changes nothing; from elsewhere it can't be done
  slip_next : (system slip a_to_b).next (true ∷ false ∷ []) 0 ≡ (false ∷ true ∷ []) ∷ (true ∷ false ∷ []) ∷ []
  slip_next = refl

  slip_stuck : (system slip a_to_b).next (false ∷ true ∷ []) 0 ≡ []
  slip_stuck = refl

  -- in the task what never changes is a constant
  slip_condition : map (λ (x : ActionTree). x.exec) (task_of slip a_to_b).actions ≡ all_of (condition_row (is_fluent_true 0 ∷ yes_always ∷ [])) ∷ []
  slip_condition = refl

  slip_changes : map (λ (x : ActionTree). x.outcomes) (task_of slip a_to_b).actions ≡ (((yes_always, literal 0 false) ∷ (yes_always, literal 1 true) ∷ []) ∷ [] ∷ []) ∷ []
  slip_changes = refl

  slip_goal_condition : (task_of slip a_to_b).goal ≡ Some (is_fluent_true 1)
  slip_goal_condition = refl

  slip_within : first_passed slip a_to_b ≡ None
  slip_within = refl

  -- no invariant is the condition that always holds
  slip_invariant : (task_of slip a_to_b).invariant ≡ all_of (condition_row [])
  slip_invariant = refl

  -- the same domain with an invariant
  abbrev guarded : FormulaTree → DomainTree
  guarded invariant = record slip { invariant = invariant }

  -- `(not (and (at a) (at b)))`: one is at one place at most, so one of the goal's vectors is no state
  abbrev one_place : DomainTree
  one_place = guarded (negation (all (formula_row (atom 0 (Object 0 ∷ []) ∷ atom 0 (Object 1 ∷ []) ∷ []))))

  one_place_goal : (system one_place a_to_b).goal ≡ Some ((false ∷ true ∷ []) ∷ [])
  one_place_goal = refl

  -- `(at a)`: going can only fail, since its first outcome leads to no state
  abbrev staying : DomainTree
  staying = guarded (atom 0 (Object 0 ∷ []))

  staying_next : (system staying a_to_b).next (true ∷ false ∷ []) 0 ≡ (true ∷ false ∷ []) ∷ []
  staying_next = refl

  staying_after : map ((system staying a_to_b).after (true ∷ false ∷ []) 0) (0 ∷ 1 ∷ 2 ∷ []) ≡ None ∷ Some (true ∷ false ∷ []) ∷ None ∷ []
  staying_after = refl

  staying_condition : (task_of staying a_to_b).invariant ≡ is_fluent_true 0
  staying_condition = refl

  -- `(at b)`: the one initial vector is no state, and nothing can be done in it
  abbrev begun_elsewhere : DomainTree
  begun_elsewhere = guarded (atom 0 (Object 1 ∷ []))

  no_initial_state : (system begun_elsewhere a_to_b).initial ≡ []
  no_initial_state = refl

  nothing_outside : (system begun_elsewhere a_to_b).next (true ∷ false ∷ []) 0 ≡ []
  nothing_outside = refl

  -- the invariant's size counts by itself: `(forall (?x) (at ?x))`
  guarded_size : formula_size two_objects (guarded (forall (0 ∷ []) (of_variable 0 0))).invariant ≡ 3
  guarded_size = refl

  -- the goal in computation tree logic: `(au (ex (next a b)) (at b))`, whose first formula never
  -- changes
  slip_ctl : ctl_goal_of slip a_to_b ≡ Some (goals.au (goals.ex (goals.plain yes_always)) (goals.plain (is_fluent_true 1)))
  slip_ctl = refl

  slip_ctl_size : ctl_size two_objects a_to_b.ctl ≡ 4
  slip_ctl_size = refl

  -- `(imply (af (at b)) (and (exists (?x) (at ?x)) (not (eg (at a)))))`
  abbrev settles : TemporalTree
  settles =
      goal_implication (unary Af (state_formula (atom 0 (Object 1 ∷ []))))
      (all_goals (temporal_row (state_formula (exists (0 ∷ []) (of_variable 0 0)) ∷ goal_negation (unary Eg (state_formula (atom 0 (Object 0 ∷ [])))) ∷ [])))

  slip_settles : grounded_goal (setting slip a_to_b) (fluents slip a_to_b) settles
      ≡ goals.implication (goals.af (goals.plain (is_fluent_true 1)))
      (goals.all (goals.goal_row (goals.plain (any_of (condition_row (is_fluent_true 0 ∷ is_fluent_true 1 ∷ []))) ∷ goals.negation (goals.eg (goals.plain (is_fluent_true 0))) ∷ [])))
  slip_settles = refl

  settles_size : temporal_size two_objects settles ≡ 10
  settles_size = refl
