-- The plain trees that the types of `trees` stand for.
use Rattle.std.specs.Prelude.{map}
use Rattle.std.specs.Option.{option_map}
use Rattle.pddl_ast.specs.Trees.{FormulaTree, atom, equal, all, any, negation, implication, exists}
use Rattle.pddl_ast.specs.Trees.{forall, formula_row, EffectTree, add, delete, both, one_of}
use Rattle.pddl_ast.specs.Trees.{only_when, each, effect_row, SchemaTree, DomainTree, AtomTree}
use Rattle.pddl_ast.specs.Trees.{LiteralTree, ProblemTree, TemporalTree, state_formula}
use Rattle.pddl_ast.specs.Trees.{goal_negation, all_goals, any_goal, goal_implication, unary}
use Rattle.pddl_ast.specs.Trees.{binary, temporal_row}
use Rattle.pddl_ast.specs.declared.trees.Formula.{Formula}
use Rattle.pddl_ast.specs.declared.trees.Formula.TheOpen.{Formula-F, Atom, Equal, All, Any, Not}
use Rattle.pddl_ast.specs.declared.trees.Formula.TheOpen.{Imply, Exists, Forall}
use Rattle.pddl_ast.specs.declared.trees.Formula.TheFolds.{fold-Formula}
use Rattle.pddl_ast.specs.declared.trees.Effect.{Effect}
use Rattle.pddl_ast.specs.declared.trees.Effect.TheOpen.{Effect-F, Add, Delete, Both, OneOf, When}
use Rattle.pddl_ast.specs.declared.trees.Effect.TheOpen.{Each}
use Rattle.pddl_ast.specs.declared.trees.Effect.TheFolds.{fold-Effect}
use Rattle.pddl_ast.specs.declared.trees.Temporal.{Temporal}
use Rattle.pddl_ast.specs.declared.trees.Temporal.TheOpen as OpenGoal
use Rattle.pddl_ast.specs.declared.trees.Temporal.TheOpen.{Temporal-F}
use Rattle.pddl_ast.specs.declared.trees.Temporal.TheFolds.{fold-Temporal}
use Rattle.pddl_ast.specs.declared.trees.Schema.{Schema}
use Rattle.pddl_ast.specs.declared.trees.Domain.{Domain}
use Rattle.pddl_ast.specs.declared.trees.GroundAtom.{GroundAtom}
use Rattle.pddl_ast.specs.declared.trees.InitialLiteral.{InitialLiteral}
use Rattle.pddl_ast.specs.declared.trees.Problem.{Problem}

-- one layer of a formula, with the trees of its parts in their place
abbrev pub formula_step : Formula-F FormulaTree → FormulaTree
formula_step (Atom predicate terms) = atom predicate terms.items
formula_step (Equal left right) = equal left right
formula_step (All parts) = all (formula_row parts.items)
formula_step (Any parts) = any (formula_row parts.items)
formula_step (Not part) = negation part.value
formula_step (Imply left right) = implication left.value right.value
formula_step (Exists types part) = exists types.items part.value
formula_step (Forall types part) = forall types.items part.value

abbrev pub formula_value : Formula → FormulaTree
formula_value = fold-Formula FormulaTree formula_step

-- one layer of a goal in computation tree logic, with the trees of its parts in their place
abbrev pub temporal_step : Temporal-F TemporalTree → TemporalTree
temporal_step (OpenGoal.Plain formula) = state_formula (formula_value formula)
temporal_step (OpenGoal.Not part) = goal_negation part.value
temporal_step (OpenGoal.All parts) = all_goals (temporal_row parts.items)
temporal_step (OpenGoal.Any parts) = any_goal (temporal_row parts.items)
temporal_step (OpenGoal.Imply left right) = goal_implication left.value right.value
temporal_step (OpenGoal.Unary operator part) = unary operator part.value
temporal_step (OpenGoal.Binary operator left right) = binary operator left.value right.value

abbrev pub temporal_value : Temporal → TemporalTree
temporal_value = fold-Temporal TemporalTree temporal_step

-- one layer of an effect, with the trees of its parts in their place
abbrev pub effect_step : Effect-F EffectTree → EffectTree
effect_step (Add predicate terms) = add predicate terms.items
effect_step (Delete predicate terms) = delete predicate terms.items
effect_step (Both parts) = both (effect_row parts.items)
effect_step (OneOf parts) = one_of (effect_row parts.items)
effect_step (When condition part) = only_when (formula_value condition) part.value
effect_step (Each types part) = each types.items part.value

abbrev pub effect_value : Effect → EffectTree
effect_value = fold-Effect EffectTree effect_step

abbrev pub schema_value : Schema → SchemaTree
schema_value s =
    record {
      name = s.name;
      parameters = s.parameters.items;
      precondition = formula_value
          s.precondition;
      effect = effect_value s.effect;
    }

abbrev pub domain_value : Domain → DomainTree
domain_value d =
    record {
      name = d.name;
      type_names = d.type_names.items;
      parents = d.parents.items;
      constants = d.constants.items;
      predicates = d.predicates.items;
      actions = map schema_value
          d.actions.items;
      invariant = formula_value d.invariant;
    }

abbrev pub atom_value : GroundAtom → AtomTree
atom_value a = record { predicate = a.predicate; objects = a.objects.items }

abbrev pub literal_value : InitialLiteral → LiteralTree
literal_value l = record { atom = atom_value l.atom; positive = l.positive }

abbrev pub problem_value : Problem → ProblemTree
problem_value p = record {
  name = p.name;
  objects = p.objects.items;
  facts = map atom_value p.facts.items;
  entries =
      map (λ entry. map (λ alternative. map literal_value alternative.items) entry.items)
      p.entries.items;
  goal = option_map formula_value p.goal;
  ctl = option_map temporal_value p.ctl;
  place = p.place;
  ctl_place = p.ctl_place;
}
