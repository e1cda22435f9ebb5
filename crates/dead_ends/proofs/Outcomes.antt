-- The state to which an outcome leads.
use Rattle.std.proofs.Common.{◌≡◌, ◌<◌, ◌≤◌, ◌&&◌, ℕ, zero, suc, true, false, if◌then◌else◌, List, [], ◌∷◌, None, Option, Some, length, inl, inr, refl, subst, sym, ap, ◌∙◌, arith}
use Rattle.std.specs.List.{list_any}
use Rattle.std.specs.Option.{option_and_then, option_map_or}
use Rattle.std.specs.Prelude.{slice_get}
use Rattle.std.proofs.lemmas.Option.{slice_get_cases}
use Rattle.std.proofs.lemmas.Bool.{or_parts}
use Rattle.task_core.specs.Tasks.{action_count, if_state, in_space, is_allowed, is_executable, outcomes_at, state_after, states_after}
use Rattle.task_core.specs.Vectors.{Vector}
use Rattle.task_core.specs.declared.actions.GroundAction.{GroundAction}
use Rattle.task_core.specs.declared.tasks.Task.{Task}

-- an action with an outcome is one of the task's
pub listed_below : (task : Task) (a o : ℕ) → o < length (outcomes_at task a) → a < action_count task
listed_below task a o h = elim (slice_get_cases task.actions.items a).1 [
  | inl found ↦ found.1
  | inr past ↦
      let none : length (outcomes_at task a) ≡ 0 = subst (λ (r : Option GroundAction). length (option_map_or (λ (action : GroundAction). action.outcomes.items) r []) ≡ 0) (sym past.1) refl in
      absurd (omega (arith, h, none))
]

-- past the last action there are none
pub none_listed : (task : Task) (a : ℕ) → action_count task ≤ a → length (outcomes_at task a) ≡ 0
none_listed task a past = elim (slice_get_cases task.actions.items a).1 [
  | inl found ↦ absurd (let below = found.1 in omega (arith, below, past))
  | inr beyond ↦ subst (λ (r : Option GroundAction). length (option_map_or (λ (action : GroundAction). action.outcomes.items) r []) ≡ 0) (sym beyond.1) refl
]

-- an outcome of an action that can be executed leads to its vector, if that is a state; else to none
pub leads_inside : (task : Task) (v w : Vector) (a o : ℕ) → state_after task v a o ≡ if_state task w → in_space task w ≡ true → Some w ≡ state_after task v a o
leads_inside task v w a o leads inside = sym (leads ∙ ap (λ b. if b then Some w else None) inside)

pub leads_nowhere : (task : Task) (v w : Vector) (a o : ℕ) → state_after task v a o ≡ if_state task w → in_space task w ≡ false → None ≡ state_after task v a o
leads_nowhere task v w a o leads outside = sym (leads ∙ ap (λ b. if b then Some w else None) outside)

get_next : (task : Task) (v : Vector) (vs : List Vector) (o : ℕ) → option_and_then (if_state task) (slice_get (v ∷ vs) (suc o)) ≡ option_and_then (if_state task) (slice_get vs o)
get_next task v vs o = ap (option_and_then (if_state task)) refl

none_of : (task : Task) (vs : List Vector) (o : ℕ) → list_any (in_space task) vs ≡ false → option_and_then (if_state task) (slice_get vs o) ≡ None
none_of task [] o e = refl
none_of task (v ∷ vs) zero e =
    ap (λ b. if b then Some v else None) (or_parts (in_space task v) (list_any (in_space task) vs) e).0
none_of task (v ∷ vs) (suc o) e =
    get_next task v vs o ∙ none_of task vs o (or_parts (in_space task v) (list_any (in_space task) vs) e).1

-- where an action can't be executed, no outcome of it leads to a state
pub none_after : (task : Task) (v : Vector) (a o : ℕ) → is_executable task v a ≡ false → state_after task v a o ≡ None
none_after task v a o e =
    elim (is_allowed task v a) as (λ b. (b && list_any (in_space task) (states_after task v a)) ≡ false
    → (if b then option_and_then (if_state task) (slice_get (states_after task v a) o) else None) ≡ None) [
      | true ↦ λ h. none_of task (states_after task v a) o h
      | false ↦ λ _. refl
    ] e
