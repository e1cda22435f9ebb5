-- The set of the initial states of a task is empty exactly where it has none.
use Rattle.std.proofs.Common.{◌≡◌, ◌↔◌, Bool, true, false, IsTrue, List, [], ◌∷◌, Contains, length, refl, sym, ap, subst, ◌∙◌, arith}
use Rattle.std.proofs.lemmas.Bool.{true≢false}
use Rattle.dd_nodes.specs.Subfunctions.{Function}
use Rattle.dd_sets.specs.LiveSets.{LiveSets, nothing, set_of}
use Rattle.dd_sets.specs.declared.slots.SetId.{SetId}
use Rattle.encode_task.specs.Made.{Holds}
use Rattle.encode_task.specs.TaskSets.{first_values, initial_set, set_of_states}
use Rattle.encode_task.proofs.ShownLemmas.{first_are}
use Rattle.task_core.proofs.Vectors.{list_any_contains, same_vector_refl}
use Rattle.task_core.specs.Tasks.{fluent_count, initial_states}
use Rattle.task_core.specs.Vectors.{Vector, same_vector, value_of}
use Rattle.task_core.specs.declared.tasks.Task.{Task}

-- the set of the initial states is empty exactly where there is none
none_listed : (task : Task) → ((s : Vector) → Contains (initial_states task) s → length s ≡ fluent_count task) → initial_set task ≡ nothing → (states : List Vector) → initial_states task ≡ states → states ≡ []
none_listed task long empty [] same = refl
none_listed task long empty (s ∷ rest) same =
    let n = fluent_count task in
    let listed : Contains (initial_states task) s = subst (λ (vs : List Vector). Contains vs s) (sym same) (0, omega arith, refl) in
    let here : same_vector (first_values n (value_of s)) s ≡ true =
    ap (λ (v : Vector). same_vector v s) (first_are n (value_of s) s (long s listed) (λ u within. refl)) ∙ same_vector_refl s in
    let there : same_vector (first_values n (value_of s)) s ≡ false =
    list_any_contains (same_vector (first_values n (value_of s))) (initial_states task) s (ap (λ (f : Function). f (value_of s)) empty) listed in
    absurd (true≢false (sym here ∙ there))

pub empty_where_none : (task : Task) (sets : LiveSets) (slot : SetId) (b : Bool) → ((s : Vector) → Contains (initial_states task) s → length s ≡ fluent_count task)
    → Holds sets slot (initial_set task) → (IsTrue b ↔ (set_of sets slot.0 ≡ nothing)) → IsTrue b ↔ (initial_states task ≡ [])
empty_where_none task sets slot b long holds is =
    (λ empty. none_listed task long (sym holds.holds ∙ is.0 empty) (initial_states task) refl, λ none. is.1 (holds.holds ∙ ap (set_of_states (fluent_count task)) none))
