-- A limit that is tight for the sets of a task is tight for the nodes that are enough.
use Rattle.std.proofs.Common.{◌≡◌, ◌≤◌, ◌+◌, ◌*◌, ◌^◌, ℕ, [], subst, arith}
use Rattle.std.proofs.Math.Nat.{mul-le-mul_right}
use Rattle.dd_sets.specs.Laws.{TightIsMonotone}
use Rattle.dd_sets.specs.LiveSets.{LiveSets, live_count}
use Rattle.dd_sets.specs.Rooms.{IsTightFor, Tight, nodes_of_slots}
use Rattle.encode_task.specs.Bounds.{working_slots}
use Rattle.task_core.specs.Systems.{most_outcomes}
use Rattle.task_core.specs.Tasks.{action_count, fluent_count, system_of}
use Rattle.task_core.specs.declared.tasks.Task.{Task}
use Rattle.task_sets.specs.NodeRoom.{IsTightLimit, enough}

-- so many slots have no more nodes than are enough, where there are no more slots
few_slots : (slots most P Q : ℕ) → slots ≤ most → slots * P + Q ≤ 2 * Q + most * P
few_slots slots most P Q few =
    let e : slots * P ≤ most * P = mul-le-mul_right P few in
    omega arith

-- a bound on the slots by the number of actions, an action's slots and the stages
slots_of_actions : (n A M : ℕ) → A * (M + 1) + 220 ≤ A * (M + n + 6) + 8 * n + 256
slots_of_actions n A M =
    let e : A * (M + 1) ≤ A * (M + n + 6) = grind arith in
    omega arith

tight_for_slots : TightIsMonotone → (t : Task) (n limit slots : ℕ)
    → slots ≤ action_count t * (most_outcomes (system_of t) * (fluent_count t + 1) + n + 6) + 8 * n + 256
    → Tight limit (fluent_count t) (nodes_of_slots slots (fluent_count t)) → IsTightLimit n limit (system_of t)
tight_for_slots monotone t n limit slots few tight =
    let F = fluent_count t in
    let A = action_count t in
    monotone limit F (nodes_of_slots slots F) (enough n (system_of t)) (few_slots slots (A * (most_outcomes (system_of t) * (F + 1) + n + 6) + 8 * n + 256) (2 ^ F) (4 ^ F) few) tight

-- while the sets of the task are made
pub tight_for_sets : TightIsMonotone → (t : Task) (n limit : ℕ)
    → Tight limit (fluent_count t) (nodes_of_slots (working_slots t) (fluent_count t)) → IsTightLimit n limit (system_of t)
tight_for_sets monotone t n limit tight =
    tight_for_slots monotone t n limit (working_slots t) (slots_of_actions n (action_count t) (most_outcomes (system_of t) * (fluent_count t + 1))) tight

-- of the sets that are live
pub tight_for_live : TightIsMonotone → (t : Task) (n : ℕ) (sets : LiveSets) (limit more : ℕ) → sets.vars ≡ fluent_count t → sets.limit ≡ limit → sets.order ≡ []
    → live_count sets + more ≤ action_count t * (most_outcomes (system_of t) * (fluent_count t + 1) + n + 6) + 8 * n + 256
    → IsTightFor more sets → IsTightLimit n limit (system_of t)
tight_for_live monotone t n sets limit more of_vars of_limit of_order few tight =
    let slots = live_count sets + more in
    tight_for_slots monotone t n limit slots few
    (subst (λ (l : ℕ). Tight l (fluent_count t) (nodes_of_slots slots (fluent_count t))) of_limit
    (subst (λ (v : ℕ). Tight sets.limit v (nodes_of_slots slots v)) of_vars (tight of_order)))
