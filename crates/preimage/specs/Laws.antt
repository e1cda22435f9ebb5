-- What the preimages are in the system of the task.
use Rattle.std.specs.Prelude.{◌≡◌, ℕ, ◌&&◌}
use Rattle.std.specs.List.{list_all, list_any}
use Rattle.dd_nodes.specs.Subfunctions.{DependsOnly, Function}
use Rattle.task_core.specs.Tasks.{fluent_count, is_executable, next_states}
use Rattle.task_core.specs.Vectors.{Vector, value_of}
use Rattle.task_core.specs.declared.tasks.Task.{Task}
use Rattle.preimage.specs.Preimages.{weak_preimage, strong_preimage}

-- a state is in the weak preimage where the action leads from it to some state of the set
abbrev pub WeakLeadsToSome : Type 0
WeakLeadsToSome =
    (task : Task) (a : ℕ) (set : Function) (v : Vector) → DependsOnly 0 (fluent_count task) set
    → weak_preimage task a set (value_of v)
    ≡ list_any (λ t. set (value_of t)) (next_states task v a)

-- and in the strong one where the action can be executed and leads to states of the set alone
abbrev pub StrongLeadsToAll : Type 0
StrongLeadsToAll =
    (task : Task) (a : ℕ) (set : Function) (v : Vector) → DependsOnly 0 (fluent_count task) set
    → strong_preimage task a set (value_of v)
    ≡ (is_executable task v a && list_all (λ t. set (value_of t)) (next_states task v a))
