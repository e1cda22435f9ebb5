-- The parts of a goal that plans with contexts are looked for: with other propositions in their
-- places, and as conditions.
use Rattle.std.proofs.Common.{◌≡◌, ◌↔◌, ◌≤◌, List, [], ◌∷◌, map, length, Option, Some, None, refl, sym, subst, ap, ◌∙◌, arith, true}
use Rattle.std.specs.Prelude.{⊤}
use Rattle.std.specs.Option.{option_map, option_map_or, option_or}
use Rattle.list_laws.proofs.Elements.{map-map}
use Rattle.ctl_syntax.specs.Conditions.{CondTree, all_of, condition_row, condition_value, states_of}
use Rattle.ctl_syntax.specs.ContextGoals.{PlainGoal, plain_goal, map_goal, plain_patrol, plain_until}
use Rattle.ctl_syntax.specs.GoalValues.{GoalTree, goal_conditions, tree_of_goal, patrol_goal, until_chain}
use Rattle.ctl_syntax.specs.Goals.{CtlTree, CtlTrees, af, ag, all, goal_then, no_goal, plain}
use Rattle.ctl_syntax.specs.Patrols.{patrol_of, visits_of}
use Rattle.ctl_syntax.specs.Truth.{Satisfies}
use Rattle.ctl_syntax.specs.UntilChains.{GuardedStage, PlainStage, PlainUntil, map_stage, until_of}
use Rattle.ctl_syntax.specs.declared.context_goals.ContextGoal.{ContextGoal}
use Rattle.ctl_syntax.specs.declared.context_goals.ContextGoal.TheVariants.{Patrol, Until}
use Rattle.ctl_syntax.proofs.GoalConditions.{true_alike}
use Rattle.pddl_ast.specs.Trees.{DomainTree, FormulaTree, ProblemTree}
use Rattle.task_core.specs.ContextPlans.{Configuration, ContextPlan, Follows}
use Rattle.task_core.specs.Systems.{System}
use Rattle.task_core.specs.declared.conditions.Cond.{Cond}
use Rattle.plan_command.specs.GoalConditions.{grounded_parts, grounded_formula, sets_of_goal}
use Rattle.plan_command.specs.GoalSets.{HasSets}

pub map_same : {X Y : Type 0} (f g : X → Y) (xs : List X) → ((x : X) → f x ≡ g x) → map f xs ≡ map g xs
map_same f g [] same = refl
map_same f g (x ∷ xs) same = ap (λ y. y ∷ map f xs) (same x) ∙ ap (λ l. g x ∷ l) (map_same f g xs same)

-- the conjunction of some trees
abbrev conjunction : List CondTree → CondTree
conjunction trees = all_of (condition_row trees)

-- the tree of a goal, with the tree of each proposition
module _ {X : Type 0} (h : X → CondTree) where
  abbrev tree_with : PlainGoal X → GoalTree
  tree_with (plain_until c) = until_chain (record {
    stages = map (λ (s : PlainStage X). record { guard = option_map_or h s.guard (conjunction []); target = conjunction (map h s.targets) }) c.stages;
    keep = option_map_or h c.keep (conjunction []);
  })
  tree_with (plain_patrol xs) = patrol_goal (map h xs)

abbrev itself : CondTree → CondTree
itself t = t

map_itself : (ts : List CondTree) → map itself ts ≡ ts
map_itself [] = refl
map_itself (t ∷ ts) = ap (λ l. t ∷ l) (map_itself ts)

module _ {X : Type 0} (h : X → CondTree) where
  given : (o : Option X) → option_map_or h o (conjunction []) ≡ option_map_or itself (option_map h o) (conjunction [])
  given None = refl
  given (Some x) = refl

  stage_trees : (xs : List X) → conjunction (map h xs) ≡ conjunction (map itself (map h xs))
  stage_trees xs = ap conjunction (sym (map_itself (map h xs)))

  abbrev guarded_tree : PlainStage X → GuardedStage CondTree
  guarded_tree s = record { guard = option_map_or h s.guard (conjunction []); target = conjunction (map h s.targets) }

  abbrev guarded_image : PlainStage X → GuardedStage CondTree
  guarded_image s = record { guard = option_map_or itself (option_map h s.guard) (conjunction []); target = conjunction (map itself (map h s.targets)) }

  guarded_same : (s : PlainStage X) → guarded_tree s ≡ guarded_image s
  guarded_same s =
      let guard = given s.guard in
      let target = stage_trees s.targets in
      λ i. record { guard = guard i; target = target i }

  pub tree_of_mapped : (g : PlainGoal X) → tree_with h g ≡ tree_with itself (map_goal h g)
  tree_of_mapped (plain_until c) =
      let stages = map_same guarded_tree guarded_image c.stages guarded_same
      ∙ sym (map-map (λ (s : PlainStage CondTree). record { guard = option_map_or itself s.guard (conjunction []); target = conjunction (map itself s.targets) }) (map_stage h) c.stages) in
      let keep = given c.keep in
      λ i. until_chain (record { stages = stages i; keep = keep i })
  tree_of_mapped (plain_patrol xs) = ap (λ (ts : List CondTree). patrol_goal ts) (sym (map_itself (map h xs)))

conditions_tree : (g : PlainGoal Cond) → goal_conditions g ≡ tree_with condition_value g
conditions_tree (plain_until c) = refl
conditions_tree (plain_patrol xs) = refl

grounded_tree : (d : DomainTree) (p : ProblemTree) (g : PlainGoal FormulaTree) → grounded_parts d p g ≡ tree_with (grounded_formula d p) g
grounded_tree d p (plain_until c) = refl
grounded_tree d p (plain_patrol xs) = refl

-- one image, one tree
pub same_tree : (d : DomainTree) (p : ProblemTree) (conds : PlainGoal Cond) (parts : PlainGoal FormulaTree)
    → map_goal condition_value conds ≡ map_goal (grounded_formula d p) parts → goal_conditions conds ≡ grounded_parts d p parts
same_tree d p conds parts same =
    conditions_tree conds
    ∙ (tree_of_mapped condition_value conds
    ∙ (ap (λ (g : PlainGoal CondTree). tree_with itself g) same
    ∙ (sym (tree_of_mapped (grounded_formula d p) parts)
    ∙ sym (grounded_tree d p parts))))

-- the goal is true where its sets are met
abbrev pub IsAlikeGoal : CtlTree Cond → ContextGoal → Type 0
IsAlikeGoal goal found =
    (sys : System) (plan : ContextPlan) (x : Configuration)
    → Satisfies (Follows sys plan) (λ (cond : Cond) (y : Configuration). states_of cond y.state ≡ true) goal x ↔ HasSets sys plan (sets_of_goal found) x

pub goal_alike : (goal : CtlTree Cond) (found : ContextGoal) → Some (tree_of_goal found) ≡ option_map goal_conditions (plain_goal goal) → IsAlikeGoal goal found
goal_alike goal (Until chain) is = λ sys plan x. true_alike goal (Until chain) is sys plan x
goal_alike goal (Patrol visits) is = λ sys plan x. true_alike goal (Patrol visits) is sys plan x

-- a patrol goal has a visit
abbrev pub HasVisit : {P : Type 0} → PlainGoal P → Type 0
HasVisit (plain_until chain) = ⊤
HasVisit (plain_patrol visits) = 1 ≤ length visits

module _ {P : Type 0} where
  abbrev AreSome : Option (List P) → Type 0
  AreSome None = ⊤
  AreSome (Some ps) = 1 ≤ length ps

  longer : (p : P) (o : Option (List P)) → AreSome (option_map (λ ps. p ∷ ps) o)
  longer p None = tt
  longer p (Some ps) = omega arith

  some_visits : (gs : CtlTrees P) → AreSome (visits_of gs)
  some_visits (goal_then (af (plain p)) no_goal) = omega arith
  some_visits (goal_then (af (plain p)) gs) = longer p (visits_of gs)
  some_visits gs = tt

  some_patrol : (g : CtlTree P) → AreSome (patrol_of g)
  some_patrol (ag (af (plain p))) = omega arith
  some_patrol (ag (all gs)) = some_visits gs
  some_patrol g = tt

  visit_among : (parts : PlainGoal P) (u : Option (PlainUntil P)) (v : Option (List P)) → AreSome v → option_or (option_map plain_until u) (option_map plain_patrol v) ≡ Some parts → HasVisit parts
  visit_among (plain_until c) u v some is = tt
  visit_among (plain_patrol ps) (Some c) v some is = absurd (let inner : plain_until c ≡ plain_patrol ps = cc in cc inner)
  visit_among (plain_patrol ps) None None some is = absurd (cc is)
  visit_among (plain_patrol ps) None (Some qs) some is =
      let inner : plain_patrol qs ≡ plain_patrol ps = cc in
      let same : qs ≡ ps = cc in
      subst (λ (xs : List P). 1 ≤ length xs) same some

  pub has_visit : (g : CtlTree P) (parts : PlainGoal P) → plain_goal g ≡ Some parts → HasVisit parts
  has_visit g parts is = visit_among parts (until_of g) (patrol_of g) (some_patrol g) is
