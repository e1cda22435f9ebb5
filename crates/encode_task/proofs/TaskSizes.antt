-- The sets that are kept for a task, and how many nodes they have.
use Rattle.std.proofs.Common.{◌≡◌, ℕ, zero, suc, ◌<◌, ◌≤◌, true, false, not, ⊎_elim, List, [], ◌∷◌, ◌++◌, Contains, Option, Some, None, is_some, refl, sym, subst, ◌∙◌, arith}
use Rattle.std.specs.List.{flat_map, list_any}
use Rattle.std.proofs.lemmas.Bool.{both_ways, false≢true, or_cases}
use Rattle.std.proofs.lemmas.List.Elements.{Contains-append_left, Contains-append_right}
use Rattle.list_laws.proofs.Elements.{Contains-flat_map}
use Rattle.dd_nodes.specs.Subfunctions.{Function, nodes}
use Rattle.dd_ops.specs.Operations.{variable}
use Rattle.dd_sets.specs.LiveSets.{LiveSets, IsLive, is_live, listed_set, live_sets, set_of}
use Rattle.dd_sets.specs.declared.slots.SetId.{SetId}
use Rattle.dd_sets.proofs.CountLemmas.{nodes_fewer}
use Rattle.dd_sets.proofs.LiveLemmas.{added, in_live}
use Rattle.task_core.specs.Actions.{after_value}
use Rattle.task_core.specs.Tasks.{fluent_count}
use Rattle.task_core.specs.declared.actions.GroundAction.{GroundAction}
use Rattle.task_core.specs.declared.actions.Outcome.{Outcome}
use Rattle.task_core.specs.declared.conditions.Cond.{Cond}
use Rattle.task_core.specs.declared.literals.FluentId.{FluentId}
use Rattle.task_core.specs.declared.tasks.Task.{Task}
use Rattle.encode_task.specs.Counts.{IsLeftAlone, action_leaves, leaves, some_leaves}
use Rattle.encode_task.specs.KeptRooms.{AddsSets}
use Rattle.encode_task.specs.KeptSets.{AreKept, kept_nodes, kept_sets, next_sets, sets_of_action, sets_of_goal}
use Rattle.encode_task.specs.Slots.{ActionSlots}
use Rattle.encode_task.specs.Tables.{ActionMade, AllPaired, OutcomeMade}
use Rattle.encode_task.specs.TaskSets.{initial_set, space_set}
use Rattle.encode_task.proofs.KeptLemmas.{next_in, nexts_of_action}

-- the sets of a task
actions_sets : Task → List Function
actions_sets task = flat_map (sets_of_action (fluent_count task) task.invariant) task.actions.items

pub space_kept : (task : Task) → Contains (kept_sets task) (space_set task)
space_kept task = (zero, omega arith, refl)

pub initial_kept : (task : Task) → Contains (kept_sets task) (initial_set task)
initial_kept task = (suc zero, omega arith, refl)

pub goal_kept : (task : Task) (set : Function) → Contains (sets_of_goal task task.goal) set → Contains (kept_sets task) set
unfolding actions_sets
goal_kept task set has =
    added (space_set task) (initial_set task ∷ sets_of_goal task task.goal ++ actions_sets task)
    (added (initial_set task) (sets_of_goal task task.goal ++ actions_sets task) (Contains-append_left (sets_of_goal task task.goal) (actions_sets task) set has))

pub actions_kept : (task : Task) (n : ℕ) (actions : List GroundAction) (set : Function) → n ≡ fluent_count task → actions ≡ task.actions.items → Contains (flat_map (sets_of_action n task.invariant) actions) set → Contains (kept_sets task) set
unfolding actions_sets
actions_kept task n actions set vars same has =
    added (space_set task) (initial_set task ∷ sets_of_goal task task.goal ++ actions_sets task)
    (added (initial_set task) (sets_of_goal task task.goal ++ actions_sets task) (Contains-append_right (sets_of_goal task task.goal) (actions_sets task) set
    (subst (λ l. Contains (flat_map (sets_of_action (fluent_count task) task.invariant) l) set) same (subst (λ v. Contains (flat_map (sets_of_action v task.invariant) actions) set) vars has))))

-- a fluent that some outcome leaves alone has its own value as its next value
unlisted : (changed : List (FluentId × SetId)) (f : ℕ) → leaves f changed ≡ true → listed_set changed f ≡ None
unlisted changed f left = by_slot (listed_set changed f) left
  where
    by_slot : (slot : Option SetId) → not (is_some slot) ≡ true → slot ≡ None
    by_slot None is = refl
    by_slot (Some slot) is = absurd (false≢true is)

alone_outcome : (sets : LiveSets) (f : ℕ) (slots : List (List (FluentId × SetId))) (outcomes : List Outcome) → AllPaired (OutcomeMade sets) slots outcomes → list_any (leaves f) slots ≡ true
    → (o : Outcome) × Contains outcomes o × (variable f ≡ (λ values. after_value o values f))
alone_outcome sets f [] [] made left = absurd (false≢true left)
alone_outcome sets f [] (o ∷ outcomes) made left = absurd made
alone_outcome sets f (x ∷ slots) [] made left = absurd made
alone_outcome sets f (x ∷ slots) (o ∷ outcomes) made left = ⊎_elim
    (λ (here : leaves f x ≡ true). (o, (zero, omega arith, refl), (λ i values. sym (made.0.unlisted f (unlisted x f here) values) i)))
    (λ (there : list_any (leaves f) slots ≡ true). let rest = alone_outcome sets f slots outcomes made.1 there in (rest.0, (suc rest.1.0, omega (arith, rest.1.1), rest.1.2), rest.2))
    (or_cases (leaves f x) (list_any (leaves f) slots) left)

alone_action : (invariant : Cond) (sets : LiveSets) (f : ℕ) (slots : List ActionSlots) (actions : List GroundAction) → AllPaired (ActionMade invariant sets) slots actions → some_leaves slots f ≡ true
    → (action : GroundAction) × Contains actions action × (o : Outcome) × Contains action.outcomes.items o × (variable f ≡ (λ values. after_value o values f))
alone_action invariant sets f [] [] made left = absurd (false≢true left)
alone_action invariant sets f [] (y ∷ actions) made left = absurd made
alone_action invariant sets f (x ∷ slots) [] made left = absurd made
alone_action invariant sets f (x ∷ slots) (y ∷ actions) made left = ⊎_elim
    (λ (here : action_leaves f x ≡ true). let found = alone_outcome sets f x.outcomes y.outcomes.items made.0.outcomes here in (y, (zero, omega arith, refl), found.0, found.1, found.2))
    (λ (there : some_leaves slots f ≡ true). let rest = alone_action invariant sets f slots actions made.1 there in (rest.0, (suc rest.1.0, omega (arith, rest.1.1), rest.1.2), rest.2, rest.3, rest.4))
    (or_cases (action_leaves f x) (some_leaves slots f) left)

pub alone_kept : (task : Task) (sets : LiveSets) (slots : List ActionSlots) (n : ℕ) (set : Function) → n ≡ fluent_count task → AllPaired (ActionMade task.invariant sets) slots task.actions.items → IsLeftAlone n slots set → Contains (kept_sets task) set
alone_kept task sets slots n set vars made alone =
    let found = alone_action task.invariant sets alone.0 slots task.actions.items made alone.2 in
    let within : alone.0 < fluent_count task = omega (arith, alone.1) in
    actions_kept task (fluent_count task) task.actions.items set refl refl
    (Contains-flat_map (sets_of_action (fluent_count task) task.invariant) task.actions.items found.0 set found.1
    (nexts_of_action (fluent_count task) task.invariant found.0 found.0.outcomes.items set refl
    (Contains-flat_map (next_sets (fluent_count task)) found.0.outcomes.items found.2 set found.3
    (subst (λ (f : Function). Contains (next_sets (fluent_count task) found.2) f) (sym (alone.3 ∙ found.4)) (next_in (fluent_count task) found.2 alone.0 within)))))

-- the live sets are among those of the task
pub kept_bound : (task : Task) (sets : LiveSets) → AreKept task sets → nodes (fluent_count task) (live_sets sets) ≤ kept_nodes task
kept_bound task sets kept =
    nodes_fewer (fluent_count task) (live_sets sets) (kept_sets task) (λ f has. let found = in_live sets f has in subst (λ (set : Function). Contains (kept_sets task) set) found.2 (kept found.0 found.1))

pub all_kept : (task : Task) (before after : LiveSets) → ((slot : ℕ) → is_live before slot ≡ false) → AddsSets (Contains (kept_sets task)) before after → AreKept task after
all_kept task before after none adds slot live = ⊎_elim
    (λ (was : IsLive before slot). absurd (both_ways (is_live before slot) (none slot) was))
    (λ (is : Contains (kept_sets task) (set_of after slot)). is)
    (adds slot live)
