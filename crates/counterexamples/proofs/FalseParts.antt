-- The parts of a condition that are false in a state.
use Rattle.std.proofs.Common.{◌≡◌, ℕ, ◌<◌, ◌↔◌, Bor, List, Result, Ok, Err, IfOk, Some, false, length, map, refl, slice_get, sym, subst}
use Rattle.std.specs.Prelude.{Vec}
use Rattle.std.specs.declared.alloc.Global.{Global}
use Rattle.std.specs.List.{All}
use Rattle.std.proofs.lemmas.List.{length-map}
use Rattle.std.proofs.lemmas.List.Elements.{All-map}
use Rattle.counterexamples.specs.Parts.{IsFalsePart}
use Rattle.task_core.specs.Conditions.{holds_in}
use Rattle.task_core.specs.States.{vector}
use Rattle.task_core.specs.Tasks.{fluent_count}
use Rattle.task_core.specs.declared.actions.GroundAction.{GroundAction}
use Rattle.task_core.specs.declared.conditions.Cond.{Cond}
use Rattle.task_core.specs.declared.states.State.{State}
use Rattle.task_core.specs.declared.tasks.Task.{Task}
use Rattle.counterexamples.specs.Findings.{AreFalseParts, HasFalseGoal, HasFalsePrecondition}

parts_of : (n : ℕ) (cond : Cond) (state : State) (parts : List (Bor Cond)) → All (λ part. IsFalsePart cond state part.now) parts → ((holds_in cond state ≡ false) ↔ (0 < length parts))
    → AreFalseParts n cond (vector n state) (map (λ part. part.now) parts)
parts_of n cond state parts each some = record {
  state = state;
  is = refl;
  each = All-map (IsFalsePart cond state) (λ part. part.now) parts each;
  some = subst (λ k. (holds_in cond state ≡ false) ↔ (0 < k)) (sym (length-map parts (λ part. part.now))) some;
}

pub found_goal : {E : Type 0} (r : Result (Vec (Bor Cond) Global) E) (task : Task) (goal : Cond) (state : State) → task.goal ≡ Some goal
    → IfOk r (λ parts. All (λ part. IsFalsePart goal state part.now) parts.items) → IfOk r (λ parts. (holds_in goal state ≡ false) ↔ (0 < length parts.items))
    → IfOk r (λ parts. HasFalseGoal task (vector (fluent_count task) state) (map (λ part. part.now) parts.items))
found_goal (Ok parts) task goal state is each some = record { goal = goal; is = is; are = parts_of (fluent_count task) goal state parts.items each some }
found_goal (Err e) task goal state is each some = each

pub found_precondition : {E : Type 0} (r : Result (Vec (Bor Cond) Global) E) (task : Task) (action : ℕ) (ground : GroundAction) (state : State) → slice_get task.actions.items action ≡ Some ground
    → IfOk r (λ parts. All (λ part. IsFalsePart ground.exec state part.now) parts.items) → IfOk r (λ parts. (holds_in ground.exec state ≡ false) ↔ (0 < length parts.items))
    → IfOk r (λ parts. HasFalsePrecondition task (vector (fluent_count task) state) action (map (λ part. part.now) parts.items))
found_precondition (Ok parts) task action ground state is each some = record { ground = ground; listed = is; are = parts_of (fluent_count task) ground.exec state parts.items each some }
found_precondition (Err e) task action ground state is each some = each
