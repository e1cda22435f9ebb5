-- What holds of every domain and every problem that is read: numbers are in range, each atom has as
-- many terms as its predicate takes, variables are in scope, every choice has an alternative, names
-- differ, and no tree is more than 200 deep.
use Rattle.std.specs.Prelude.{ℕ, zero, suc, ◌≡◌, ◌<◌, ◌≤◌, ◌+◌, ◌++◌, true, false, List, [], ◌∷◌}
use Rattle.std.specs.Prelude.{All, Some, length, map, slice_get, slice_index, IfSome}
use Rattle.std.specs.List.{list_any}
use Rattle.std.specs.Str.{bytes_eq}
use Rattle.pddl_ast.specs.declared.trees.Term.{Term}
use Rattle.pddl_ast.specs.declared.trees.Term.TheVariants.{Variable, Object}
use Rattle.pddl_ast.specs.declared.trees.Named.{Named}
use Rattle.pddl_ast.specs.declared.trees.Predicate.{Predicate}
use Rattle.pddl_ast.specs.Words.{is_dash, is_reserved}
use Rattle.sexpr_text.specs.Parts.{is_name}
use Rattle.pddl_ast.specs.Known.{Known}
use Rattle.pddl_ast.specs.Trees.{FormulaTree, FormulaTrees, atom, equal, all, any, negation}
use Rattle.pddl_ast.specs.Trees.{implication, exists, forall, no_formula, formula_then, EffectTree}
use Rattle.pddl_ast.specs.Trees.{EffectTrees, add, delete, both, one_of, only_when, each, no_effect}
use Rattle.pddl_ast.specs.Trees.{effect_then, SchemaTree, DomainTree, AtomTree, LiteralTree}
use Rattle.pddl_ast.specs.Trees.{ProblemTree, TemporalTree, TemporalTrees, state_formula}
use Rattle.pddl_ast.specs.Trees.{goal_negation, all_goals, any_goal, goal_implication, unary}
use Rattle.pddl_ast.specs.Trees.{binary, no_temporal, temporal_then}
use Rattle.pddl_ast.specs.Depth.{formula_depth, effect_depth, temporal_depth}

-- how deep a tree may be
abbrev pub deepest : ℕ
deepest = 200

-- what is known where trees are read: there is a type, and each predicate has a number of terms
pub record IsKnown (known : Known) : Type 0 where
  pub some_type : 0 < length known.types
  pub arities : length known.arities ≡ length known.predicates

-- a term over this many objects and variables
abbrev pub FitsTerm : ℕ → ℕ → Term → Type 0
FitsTerm objects variables (Variable n) = n < variables
FitsTerm objects variables (Object n) = n < objects

-- a predicate that is known, with as many terms as it takes
abbrev pub FitsAtom : Known → ℕ → ℕ → List Term → Type 0
FitsAtom known variables predicate terms =
    (slice_get known.arities predicate ≡ Some (length terms))
    × All (FitsTerm (length known.objects) variables) terms

abbrev pub AreTypes : Known → List ℕ → Type 0
AreTypes known types = All (λ t. t < length known.types) types

abbrev mutual
  -- a formula over what is known, with this many variables in scope
  pub FitsFormula : Known → FormulaTree → ℕ → Type 0
  FitsFormula known (atom predicate terms) variables = FitsAtom known variables predicate terms
  FitsFormula known (equal left right) variables =
      FitsTerm (length known.objects) variables left
      × FitsTerm (length known.objects) variables right
  FitsFormula known (all parts) variables = FitsFormulas known parts variables
  FitsFormula known (any parts) variables = FitsFormulas known parts variables
  FitsFormula known (negation part) variables = FitsFormula known part variables
  FitsFormula known (implication left right) variables =
      FitsFormula known left variables × FitsFormula known right variables
  FitsFormula known (exists types part) variables =
      AreTypes known types × FitsFormula known part (variables + length types)
  FitsFormula known (forall types part) variables =
      AreTypes known types × FitsFormula known part (variables + length types)

  pub FitsFormulas : Known → FormulaTrees → ℕ → Type 0
  FitsFormulas known no_formula variables = Unit {0}
  FitsFormulas known (formula_then f fs) variables =
      FitsFormula known f variables × FitsFormulas known fs variables

abbrev mutual
  -- a goal in computation tree logic over what is known: each formula in it is one
  pub FitsTemporal : Known → TemporalTree → ℕ → Type 0
  FitsTemporal known (state_formula formula) variables = FitsFormula known formula variables
  FitsTemporal known (goal_negation part) variables = FitsTemporal known part variables
  FitsTemporal known (all_goals parts) variables = FitsTemporals known parts variables
  FitsTemporal known (any_goal parts) variables = FitsTemporals known parts variables
  FitsTemporal known (goal_implication left right) variables =
      FitsTemporal known left variables × FitsTemporal known right variables
  FitsTemporal known (unary operator part) variables = FitsTemporal known part variables
  FitsTemporal known (binary operator left right) variables =
      FitsTemporal known left variables × FitsTemporal known right variables

  pub FitsTemporals : Known → TemporalTrees → ℕ → Type 0
  FitsTemporals known no_temporal variables = Unit {0}
  FitsTemporals known (temporal_then g gs) variables =
      FitsTemporal known g variables × FitsTemporals known gs variables

abbrev pub HasEffect : EffectTrees → Type 0
HasEffect no_effect = ⊥
HasEffect (effect_then e es) = Unit {0}

abbrev mutual
  -- an effect over what is known, with this many variables in scope. Each choice has an alternative
  pub FitsEffect : Known → EffectTree → ℕ → Type 0
  FitsEffect known (add predicate terms) variables = FitsAtom known variables predicate terms
  FitsEffect known (delete predicate terms) variables = FitsAtom known variables predicate terms
  FitsEffect known (both parts) variables = FitsEffects known parts variables
  FitsEffect known (one_of parts) variables = HasEffect parts × FitsEffects known parts variables
  FitsEffect known (only_when condition part) variables =
      FitsFormula known condition variables × FitsEffect known part variables
  FitsEffect known (each types part) variables =
      AreTypes known types × FitsEffect known part (variables + length types)

  pub FitsEffects : Known → EffectTrees → ℕ → Type 0
  FitsEffects known no_effect variables = Unit {0}
  FitsEffects known (effect_then e es) variables =
      FitsEffect known e variables × FitsEffects known es variables

-- no name comes twice
abbrev pub AreDistinct : List (List ℕ) → Type 0
AreDistinct [] = Unit {0}
AreDistinct (name ∷ names) = (list_any (bytes_eq name) names ≡ false) × AreDistinct names

abbrev pub names_of_objects : List Named → List (List ℕ)
names_of_objects = map (λ (n : Named). n.name)

abbrev pub names_of_predicates : List Predicate → List (List ℕ)
names_of_predicates = map (λ (p : Predicate). p.name)

-- what is known in a domain, and in a problem with these objects
abbrev pub known_with : DomainTree → List Named → Known
known_with d objects = record {
  types = d.type_names;
  predicates = names_of_predicates d.predicates;
  arities = map (λ (p : Predicate). p.arity) d.predicates;
  objects = names_of_objects (d.constants ++ objects);
}

abbrev pub known_in : DomainTree → Known
known_in d = known_with d []

-- constants or objects with names and with types that are known
abbrev pub AreObjects : Known → List Named → Type 0
AreObjects known = All (λ (n : Named). (is_name n.name ≡ true) × (n.type_id < length known.types))

-- the type after this many steps from a type to its parent
abbrev pub ancestor : List ℕ → ℕ → ℕ → ℕ
ancestor parents zero t = t
ancestor parents (suc k) t = ancestor parents k (slice_index parents t)

pub record FitsSchema (known : Known) (s : SchemaTree) : Type 0 where
  pub name : is_name s.name ≡ true
  pub parameters : AreTypes known s.parameters
  pub precondition : FitsFormula known s.precondition (length s.parameters)
  pub effect : FitsEffect known s.effect (length s.parameters)
  pub precondition_depth : formula_depth s.precondition ≤ deepest
  pub effect_depth : effect_depth s.effect ≤ deepest

-- a domain as its reader gives it. The chain of parents of every type comes to `object`, which is
-- type 0 and its own parent. A type's name may be any word but `-`. The invariant has no free
-- variables
pub record FitsDomain (d : DomainTree) : Type 0 where
  pub name : is_name d.name ≡ true
  pub type_words : All (λ w. is_dash w ≡ false) d.type_names
  pub types_differ : AreDistinct d.type_names
  pub some_type : 0 < length d.type_names
  pub one_parent : length d.parents ≡ length d.type_names
  pub parents : AreTypes (known_in d) d.parents
  pub rooted : (t : ℕ) → t < length d.type_names → ancestor d.parents (length d.type_names) t ≡ 0
  pub constants : AreObjects (known_in d) d.constants
  pub constants_differ : AreDistinct (names_of_objects d.constants)
  pub predicate_names : All
      (λ (p : Predicate). (is_name p.name ≡ true) × (is_reserved p.name ≡ false)) d.predicates
  pub predicates_differ : AreDistinct (known_in d).predicates
  pub actions : All (FitsSchema (known_in d)) d.actions
  pub actions_differ : AreDistinct (map (λ (s : SchemaTree). s.name) d.actions)
  pub invariant : FitsFormula (known_in d) d.invariant 0
  pub invariant_depth : formula_depth d.invariant ≤ deepest

-- an atom over constants and objects
abbrev pub FitsGroundAtom : Known → AtomTree → Type 0
FitsGroundAtom known a =
    (slice_get known.arities a.predicate ≡ Some (length a.objects))
    × All (λ n. n < length known.objects) a.objects

abbrev pub FitsLiterals : Known → List LiteralTree → Type 0
FitsLiterals known = All (λ (l : LiteralTree). FitsGroundAtom known l.atom)

abbrev pub FitsEntry : Known → List (List LiteralTree) → Type 0
FitsEntry known alternatives = (0 < length alternatives) × All (FitsLiterals known) alternatives

-- a problem as its reader gives it for a domain. Each uncertain entry has an alternative
pub record FitsProblem (d : DomainTree) (p : ProblemTree) : Type 0 where
  pub name : is_name p.name ≡ true
  pub objects : AreObjects (known_in d) p.objects
  pub objects_differ : AreDistinct (known_with d p.objects).objects
  pub facts : All (FitsGroundAtom (known_with d p.objects)) p.facts
  pub entries : All (FitsEntry (known_with d p.objects)) p.entries
  pub goal : IfSome p.goal (λ goal. FitsFormula (known_with d p.objects) goal 0)
  pub goal_depth : IfSome p.goal (λ goal. formula_depth goal ≤ deepest)
  pub ctl : IfSome p.ctl (λ goal. FitsTemporal (known_with d p.objects) goal 0)
  pub ctl_depth : IfSome p.ctl (λ goal. temporal_depth goal ≤ deepest)
