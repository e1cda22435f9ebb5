-- A task with the same entries has as many initial vectors.
use Rattle.std.proofs.Common.{◌≡◌, ℕ, ◌<◌, ◌≤◌, List, length, take, ap, ◌∙◌, subst}
use Rattle.task_core.specs.Initial.{Entry, after_entries, entries_of}
use Rattle.task_core.specs.States.{vector}
use Rattle.task_core.specs.Tasks.{fluent_count, states_after_entries}
use Rattle.task_core.specs.Vectors.{Vector}
use Rattle.task_core.specs.declared.states.State.{State}
use Rattle.task_core.specs.declared.tasks.Task.{Task}
use Rattle.task_core.specs.Initials.{HasTooManyInitial}

pub too_many_too : (task other : Task) (limit : ℕ) → fluent_count task ≡ fluent_count other → task.init.facts ≡ other.init.facts → entries_of task.init ≡ entries_of other.init
    → HasTooManyInitial task limit → HasTooManyInitial other limit
too_many_too task other limit count facts entries h =
    let k : ℕ = h.entries in
    let states : states_after_entries task k ≡ states_after_entries other k =
    ap (λ n. after_entries n (vector n task.init.facts) (take k (entries_of task.init))) count
    ∙ ap (λ (s : State). after_entries (fluent_count other) (vector (fluent_count other) s) (take k (entries_of task.init))) facts
    ∙ ap (λ (es : List Entry). after_entries (fluent_count other) (vector (fluent_count other) other.init.facts) (take k es)) entries in
    let P : List Entry → Type 0 = λ es. k ≤ length es in
    let Q : List Vector → Type 0 = λ vs. limit < length vs in
    record { entries = k; first = subst P entries h.first; more = subst Q states h.more }
