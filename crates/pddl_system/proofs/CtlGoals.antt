-- Grounded goals in computation tree logic: they are true where the goals of the text are, name
-- fluents alone, and have conditions no deeper than the goals.
use Rattle.std.proofs.Common.{◌≡◌, ◌↔◌, ◌⊎◌, ℕ, ◌+◌, ◌≤◌, true, List, [], length, Option, Some, None, refl, sym, ◌∙◌, ap, subst, arith}
use Rattle.std.specs.Prelude.{max, IfSome}
use Rattle.std.specs.Option.{option_map, option_map_or}
use Rattle.std.proofs.Math.Nat.{le-max_left, le-max_right}
use Rattle.ctl_syntax.specs.Goals.{CtlTree, CtlTrees, EachPlain, EachPlainOf, map_plain, map_plain_of, plain, negation, all, any, implication, ax, ex, af, ef, ag, eg, au, eu, aw, ew, no_goal, goal_then}
use Rattle.ctl_syntax.specs.Paths.{SomeNext, EveryPathMeets, SomePathMeets, EveryPathKeeps, SomePathKeeps}
use Rattle.ctl_syntax.specs.Truth.{Anything, Nothing, Satisfies, SatisfiesAll, SatisfiesAny}
use Rattle.ctl_syntax.specs.Values.{IsAtMostDeep, NamesBelow}
use Rattle.ctl_syntax.proofs.Carried.{carried}
use Rattle.ctl_syntax.proofs.Parts.{each_mapped, each_weaker}
use Rattle.task_core.specs.ContextPlans.{Configuration, Follows}
use Rattle.task_core.specs.Conditions.{holds, depth, ids_below}
use Rattle.task_core.specs.Vectors.{Vector, value_of}
use Rattle.task_core.specs.declared.conditions.Cond.{Cond}
use Rattle.pddl_ast.specs.Depth.{formula_depth, temporal_depth, temporals_depth}
use Rattle.pddl_ast.specs.Fits.{FitsProblem, deepest}
use Rattle.pddl_ast.specs.Trees.{AtomTree, DomainTree, FormulaTree, ProblemTree, TemporalTree, TemporalTrees, state_formula, goal_negation, all_goals, any_goal, goal_implication, unary, binary, no_temporal, temporal_then}
use Rattle.pddl_ast.specs.declared.trees.UnaryOperator.{UnaryOperator}
use Rattle.pddl_ast.specs.declared.trees.UnaryOperator.TheVariants.{Ax, Ex, Af, Ef, Ag, Eg}
use Rattle.pddl_ast.specs.declared.trees.BinaryOperator.{BinaryOperator}
use Rattle.pddl_ast.specs.declared.trees.BinaryOperator.TheVariants.{Au, Eu, Aw, Ew}
use Rattle.pddl_system.specs.CtlGoals.{binary_goal, ctl_goal_of, ctl_tree, ctl_trees, grounded_goal, unary_goal}
use Rattle.pddl_system.specs.Fluents.{fluents}
use Rattle.pddl_system.specs.Laws.{GroundedGoalsAreShallow, GroundedGoalsAreTrue, GroundedGoalsNameFluents}
use Rattle.pddl_system.specs.Settings.{Setting, setting}
use Rattle.pddl_system.specs.States.{formula_holds}
use Rattle.ctl_syntax.specs.Conditions.{CondTree, condition_value}
use Rattle.pddl_system.specs.Tasks.{condition_of}
use Rattle.ctl_syntax.proofs.ConditionTrees.{below_is, depth_is, tree_below, tree_depth, holds_is, tree_holds}
use Rattle.pddl_system.proofs.TreeBounds.{formula_below, formula_no_deeper}
use Rattle.pddl_system.proofs.TreeTruth.{formula_same}

-- a goal whose propositions are replaced says what the goal says of the new ones
module _ {P R X : Type 0} (Step : X → X → Type 0) (Has : R → X → Type 0) (f : P → R) where
  abbrev Old : CtlTree P → X → Type 0
  Old = Satisfies Step (λ p. Has (f p))

  abbrev New : CtlTree P → X → Type 0
  New g = Satisfies Step Has (map_plain f g)

  mutual
    pub replaced : (g : CtlTree P) → New g ≡ Old g
    replaced (plain p) = refl
    replaced (negation g) = λ i x. replaced g i x → ⊥
    replaced (all gs) = replaced_all gs
    replaced (any gs) = replaced_any gs
    replaced (implication g h) = λ i x. replaced g i x → replaced h i x
    replaced (ax g) = λ i x. (y : X) → Step x y → replaced g i y
    replaced (ex g) = ap (SomeNext Step) (replaced g)
    replaced (af g) = ap (EveryPathMeets Step Anything) (replaced g)
    replaced (ef g) = ap (SomePathMeets Step Anything) (replaced g)
    replaced (ag g) = ap (λ G. EveryPathKeeps Step G Nothing) (replaced g)
    replaced (eg g) = ap (λ G. SomePathKeeps Step G Nothing) (replaced g)
    replaced (au g h) = λ i. EveryPathMeets Step (replaced g i) (replaced h i)
    replaced (eu g h) = λ i. SomePathMeets Step (replaced g i) (replaced h i)
    replaced (aw g h) = λ i. EveryPathKeeps Step (replaced g i) (replaced h i)
    replaced (ew g h) = λ i. SomePathKeeps Step (replaced g i) (replaced h i)

    replaced_all : (gs : CtlTrees P) → SatisfiesAll Step Has (map_plain_of f gs) ≡ SatisfiesAll Step (λ p. Has (f p)) gs
    replaced_all no_goal = refl
    replaced_all (goal_then g gs) = λ i x. replaced g i x × replaced_all gs i x

    replaced_any : (gs : CtlTrees P) → SatisfiesAny Step Has (map_plain_of f gs) ≡ SatisfiesAny Step (λ p. Has (f p)) gs
    replaced_any no_goal = refl
    replaced_any (goal_then g gs) = λ i x. replaced g i x ⊎ replaced_any gs i x

-- each proposition has what every one has
mutual
  each_any : {P : Type 0} (g : CtlTree P) → EachPlain (λ _. Unit {0}) g
  each_any (plain p) = tt
  each_any (negation g) = each_any g
  each_any (all gs) = each_any_of gs
  each_any (any gs) = each_any_of gs
  each_any (implication g h) = (each_any g, each_any h)
  each_any (ax g) = each_any g
  each_any (ex g) = each_any g
  each_any (af g) = each_any g
  each_any (ef g) = each_any g
  each_any (ag g) = each_any g
  each_any (eg g) = each_any g
  each_any (au g h) = (each_any g, each_any h)
  each_any (eu g h) = (each_any g, each_any h)
  each_any (aw g h) = (each_any g, each_any h)
  each_any (ew g h) = (each_any g, each_any h)

  each_any_of : {P : Type 0} (gs : CtlTrees P) → EachPlainOf (λ _. Unit {0}) gs
  each_any_of no_goal = tt
  each_any_of (goal_then g gs) = (each_any g, each_any_of gs)

-- where propositions mean the same, goals do
module _ {P X : Type 0} (Step : X → X → Type 0) (Has With : P → X → Type 0) (same : (p : P) (x : X) → Has p x ↔ With p x) where
  pub same_truth : (g : CtlTree P) (x : X) → Satisfies Step Has g x ↔ Satisfies Step With g x
  same_truth g x =
      carried Step Step (λ y. y) (λ _. Unit {0}) (λ y z w s. tt) (λ y z w s. s) (λ y z w s. record { node = z; follows = s; is = refl })
      Has With (λ _. Unit {0}) (λ p y k w. same p y) g (each_any g) x tt

-- over any nodes that have states
module _ {X : Type 0} (Step : X → X → Type 0) (state : X → Vector) (d : DomainTree) (p : ProblemTree) where
  abbrev at : Setting
  at = setting d p

  abbrev fl : List AtomTree
  fl = fluents d p

  abbrev condition : FormulaTree → CondTree
  condition f = condition_of at fl f []

  abbrev CondHolds : Cond → X → Type 0
  CondHolds c x = holds c (value_of (state x)) ≡ true

  abbrev TreeHolds : CondTree → X → Type 0
  TreeHolds tree x = tree_holds tree (value_of (state x)) ≡ true

  abbrev FormulaHolds : FormulaTree → X → Type 0
  FormulaHolds f x = formula_holds at fl (state x) f [] ≡ true

  of_condition : (c : Cond) (x : X) → CondHolds c x ↔ TreeHolds (condition_value c) x
  of_condition c x = (λ h. sym (holds_is c (value_of (state x))) ∙ h, λ h. holds_is c (value_of (state x)) ∙ h)

  of_formula : (f : FormulaTree) (x : X) → TreeHolds (condition f) x ↔ FormulaHolds f x
  of_formula f x = (λ h. sym (formula_same at fl (state x) f []) ∙ h, λ h. formula_same at fl (state x) f [] ∙ h)

  pub keeps_truth : (goal : TemporalTree) (grounded : CtlTree Cond) (x : X) → map_plain condition_value grounded ≡ grounded_goal at fl goal
      → Satisfies Step CondHolds grounded x ↔ Satisfies Step FormulaHolds (ctl_tree goal) x
  keeps_truth goal grounded x is =
      let first = same_truth Step CondHolds (λ c. TreeHolds (condition_value c)) of_condition grounded x in
      let last = same_truth Step (λ f. TreeHolds (condition f)) FormulaHolds of_formula (ctl_tree goal) x in
      let mid : Satisfies Step (λ c. TreeHolds (condition_value c)) grounded ≡ Satisfies Step (λ f. TreeHolds (condition f)) (ctl_tree goal) =
      sym (replaced Step TreeHolds condition_value grounded) ∙ ap (Satisfies Step TreeHolds) is ∙ replaced Step TreeHolds condition (ctl_tree goal) in (
        λ s. last.0 (subst (λ G. G x) mid (first.0 s)),
        λ s. first.1 (subst (λ G. G x) (sym mid) (last.1 s)),
      )

pub grounded_goals_are_true : GroundedGoalsAreTrue
grounded_goals_are_true d p goal grounded sys plan x is = keeps_truth (Follows sys plan) (λ (y : Configuration). y.state) d p goal grounded x is

-- what holds of the replacement of each formula that is less than m deep holds of each proposition
-- of a goal that is
module _ {R : Type 0} (Q : R → Type 0) (f : FormulaTree → R) (m : ℕ) (each : (formula : FormulaTree) → 1 + formula_depth formula ≤ m → Q (f formula)) where
  each_unary : (operator : UnaryOperator) (g : CtlTree FormulaTree) → EachPlain Q (map_plain f g) → EachPlain Q (map_plain f (unary_goal operator g))
  each_unary Ax g q = q
  each_unary Ex g q = q
  each_unary Af g q = q
  each_unary Ef g q = q
  each_unary Ag g q = q
  each_unary Eg g q = q

  each_binary : (operator : BinaryOperator) (g h : CtlTree FormulaTree) → EachPlain Q (map_plain f g) → EachPlain Q (map_plain f h) → EachPlain Q (map_plain f (binary_goal operator g h))
  each_binary Au g h q r = (q, r)
  each_binary Eu g h q r = (q, r)
  each_binary Aw g h q r = (q, r)
  each_binary Ew g h q r = (q, r)

  left_no_deeper : (a b : ℕ) → 1 + max a b ≤ m → a ≤ m
  left_no_deeper a b h = let left = le-max_left a b in omega arith

  right_no_deeper : (a b : ℕ) → 1 + max a b ≤ m → b ≤ m
  right_no_deeper a b h = let right = le-max_right a b in omega arith

  first_no_deeper : (a b : ℕ) → max a b ≤ m → a ≤ m
  first_no_deeper a b h = let left = le-max_left a b in omega arith

  rest_no_deeper : (a b : ℕ) → max a b ≤ m → b ≤ m
  rest_no_deeper a b h = let right = le-max_right a b in omega arith

  mutual
    pub each_formula : (goal : TemporalTree) → temporal_depth goal ≤ m → EachPlain Q (map_plain f (ctl_tree goal))
    each_formula (state_formula formula) h = each formula h
    each_formula (goal_negation part) h = each_formula part (omega arith)
    each_formula (all_goals parts) h = each_formulas parts (omega arith)
    each_formula (any_goal parts) h = each_formulas parts (omega arith)
    each_formula (goal_implication left right) h = (
      each_formula left (left_no_deeper (temporal_depth left) (temporal_depth right) h),
      each_formula right (right_no_deeper (temporal_depth left) (temporal_depth right) h),
    )
    each_formula (unary operator part) h = each_unary operator (ctl_tree part) (each_formula part (omega arith))
    each_formula (binary operator left right) h =
        each_binary operator (ctl_tree left) (ctl_tree right)
        (each_formula left (left_no_deeper (temporal_depth left) (temporal_depth right) h))
        (each_formula right (right_no_deeper (temporal_depth left) (temporal_depth right) h))

    each_formulas : (goals : TemporalTrees) → temporals_depth goals ≤ m → EachPlainOf Q (map_plain_of f (ctl_trees goals))
    each_formulas no_temporal h = tt
    each_formulas (temporal_then g gs) h = (
      each_formula g (first_no_deeper (temporal_depth g) (temporals_depth gs) h),
      each_formulas gs (rest_no_deeper (temporal_depth g) (temporals_depth gs) h),
    )

-- what holds of each proposition of the grounded goal, by the conditions which they stand for
module _ (d : DomainTree) (p : ProblemTree) where
  each_condition : (Q : CondTree → Type 0) (m : ℕ) → ((f : FormulaTree) → 1 + formula_depth f ≤ m → Q (condition_of (setting d p) (fluents d p) f []))
      → (goal : Option TemporalTree) → IfSome goal (λ g. temporal_depth g ≤ m)
      → (grounded : CtlTree Cond) → Some (map_plain condition_value grounded) ≡ option_map (grounded_goal (setting d p) (fluents d p)) goal
      → EachPlain (λ c. Q (condition_value c)) grounded
  each_condition Q m each None h grounded is = absurd (cc)
  each_condition Q m each (Some goal) h grounded is =
      let same : grounded_goal (setting d p) (fluents d p) goal ≡ map_plain condition_value grounded = cc in
      each_mapped condition_value Q grounded
      (subst (EachPlain Q) same (each_formula Q (λ f. condition_of (setting d p) (fluents d p) f []) m each goal h))

  own_depth : (goal : Option TemporalTree) → IfSome goal (λ g. temporal_depth g ≤ option_map_or temporal_depth goal 0)
  own_depth None = tt
  own_depth (Some g) = omega arith

  abbrev many : ℕ
  many = length (fluents d p)

  names_fluents : (grounded : CtlTree Cond) → Some (map_plain condition_value grounded) ≡ ctl_goal_of d p → NamesBelow many grounded
  names_fluents grounded is =
      each_weaker (λ c. tree_below many (condition_value c) ≡ true) (λ c. ids_below many c ≡ true) (λ c h. below_is many c ∙ h) grounded
      (each_condition (λ t. tree_below many t ≡ true) (option_map_or temporal_depth p.ctl 0) (λ f h. formula_below (setting d p) (fluents d p) f []) p.ctl (own_depth p.ctl) grounded is)

  formula_is_shallow : (f : FormulaTree) → 1 + formula_depth f ≤ deepest → tree_depth (condition_of (setting d p) (fluents d p) f []) ≤ 199
  formula_is_shallow f h = let deep = formula_no_deeper (setting d p) (fluents d p) f [] in omega arith

  are_shallow : FitsProblem d p → (grounded : CtlTree Cond) → Some (map_plain condition_value grounded) ≡ ctl_goal_of d p → IsAtMostDeep 199 grounded
  are_shallow fits grounded is =
      each_weaker (λ c. tree_depth (condition_value c) ≤ 199) (λ c. depth c ≤ 199) (λ c h. subst (λ m. m ≤ 199) (sym (depth_is c)) h) grounded
      (each_condition (λ t. tree_depth t ≤ 199) deepest formula_is_shallow p.ctl fits.ctl_depth grounded is)

pub grounded_goals_name_fluents : GroundedGoalsNameFluents
grounded_goals_name_fluents d p grounded is = names_fluents d p grounded is

pub grounded_goals_are_shallow : GroundedGoalsAreShallow
grounded_goals_are_shallow d p grounded fits is = are_shallow d p fits grounded is
