-- A rule whose action can be executed in each vector that it matches asks for the action's precondition.
use Rattle.std.proofs.Common.{◌≡◌, ℕ, zero, suc, ◌<◌, ◌&&◌, ◌^◌, ltb, Bool, true, false, cond, [], ◌∷◌, length, Option, Some, None, slice_get, refl, sym, ap, ◌∙◌, arith}
use Rattle.std.specs.List.{filter, list_all}
use Rattle.std.specs.Option.{option_map_or}
use Rattle.std.proofs.lemmas.Bool.{and_parts}
use Rattle.std.proofs.lemmas.List.Elements.{All-contains}
use Rattle.list_laws.proofs.Elements.{list_all-agree, list_all-at, contains_at}
use Rattle.task_core.specs.Actions.{action_within, outcome_within}
use Rattle.task_core.specs.Conditions.{holds, ids_below}
use Rattle.task_core.specs.Cubes.{Cube, matches}
use Rattle.task_core.specs.Systems.{Exec}
use Rattle.task_core.specs.Tasks.{fluent_count, in_space, is_allowed, states_after, system_of}
use Rattle.task_core.specs.Vectors.{Vector, same_value, value_of}
use Rattle.task_core.specs.declared.actions.GroundAction.{GroundAction}
use Rattle.task_core.specs.declared.literals.Lit.{Lit}
use Rattle.task_core.specs.declared.tasks.Task.{Task}
use Rattle.task_core.proofs.Agreement.{holds_agree}
use Rattle.plan_rules.specs.Plans.{IsCubeOf}
use Rattle.plan_rules.specs.Rules.{ContextRule}
use Rattle.controller_rules.specs.Guards.{IsGuardedRule, precondition_in}

-- the first n values of a vector
abbrev first_values : ℕ → Vector → Vector
first_values zero v = []
first_values (suc n) [] = false ∷ first_values n []
first_values (suc n) (x ∷ v) = x ∷ first_values n v

first_length : (n : ℕ) (v : Vector) → length (first_values n v) ≡ n
first_length zero v = refl
first_length (suc n) [] = ap suc (first_length n [])
first_length (suc n) (x ∷ v) = ap suc (first_length n v)

first_same : (n : ℕ) (v : Vector) (f : ℕ) → f < n → value_of (first_values n v) f ≡ value_of v f
first_same zero v f below = absurd (omega arith)
first_same (suc n) [] zero below = refl
first_same (suc n) (x ∷ v) zero below = refl
first_same (suc n) [] (suc f) below = first_same n [] f (omega arith)
first_same (suc n) (x ∷ v) (suc f) below = first_same n v f (omega arith)

-- what can be executed is allowed
executed_allowed : (task : Task) (v : Vector) (a : ℕ) → Exec (system_of task) v a → is_allowed task v a ≡ true
executed_allowed task v a exec = go (is_allowed task v a) refl
  where
    go : (b : Bool) → is_allowed task v a ≡ b → is_allowed task v a ≡ true
    go true e = e
    go false e = absurd (exec (ap (λ (b : Bool). cond b (filter (in_space task) (states_after task v a)) []) e))

-- the precondition of an action names the task's fluents alone
exec_within : (n : ℕ) (action : GroundAction) → action_within n action ≡ true → ids_below n action.exec ≡ true
exec_within n action within =
    let outcomes = action.outcomes.items in
    let some = and_parts ((ids_below n action.exec && list_all (outcome_within n) outcomes) && ltb 0 (length outcomes)) (ltb (length outcomes) (2 ^ 32)) within in
    let all = and_parts (ids_below n action.exec && list_all (outcome_within n) outcomes) (ltb 0 (length outcomes)) some.0 in
    (and_parts (ids_below n action.exec) (list_all (outcome_within n) outcomes) all.0).0

module _ (task : Task) (v w : Vector) (same : (f : ℕ) → f < fluent_count task → value_of v f ≡ value_of w f) where
  same_precondition : (a : ℕ) → precondition_in task v a ≡ precondition_in task w a
  same_precondition a = go (slice_get task.actions.items a) refl
    where
      go : (o : Option GroundAction) → slice_get task.actions.items a ≡ o
          → option_map_or (λ (action : GroundAction). holds action.exec (value_of v)) o false ≡ option_map_or (λ (action : GroundAction). holds action.exec (value_of w)) o false
      go None e = refl
      go (Some action) e =
          let n = fluent_count task in
          let within = list_all-at (action_within n) task.actions.items action task.actions_within (contains_at task.actions.items a action e) in
          holds_agree action.exec n (value_of v) (value_of w) (exec_within n action within) same

  same_match : (cube : Cube) → IsCubeOf (fluent_count task) cube → matches cube v ≡ matches cube w
  same_match cube of = list_all-agree (λ (lit : Lit). same_value (value_of v lit.fluent.0) lit.positive) (λ (lit : Lit). same_value (value_of w lit.fluent.0) lit.positive) cube
      (λ lit c. ap (λ (x : Bool). same_value x lit.positive) (same lit.fluent.0 (All-contains (λ (lit : Lit). lit.fluent.0 < fluent_count task) cube lit of c)))

pub guarded_rule : (task : Task) (rule : ContextRule) → IsCubeOf (fluent_count task) rule.cube
    → ((v : Vector) → length v ≡ fluent_count task → matches rule.cube v ≡ true → Exec (system_of task) v rule.action) → IsGuardedRule task rule
guarded_rule task rule of executes v m =
    let n = fluent_count task in
    let w = first_values n v in
    let same = λ (f : ℕ) (below : f < n). first_same n v f below in
    let exec = executes w (first_length n v) (same_match task w v same rule.cube of ∙ m) in
    sym (same_precondition task w v same rule.action) ∙ (and_parts (in_space task w) (precondition_in task w rule.action) (executed_allowed task w rule.action exec)).1
