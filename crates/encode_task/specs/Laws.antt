-- What layers above cite.
use Rattle.std.specs.Prelude.{◌≤◌}
use Rattle.dd_nodes.specs.Subfunctions.{nodes}
use Rattle.task_core.specs.Tasks.{fluent_count}
use Rattle.task_core.specs.declared.tasks.Task.{Task}
use Rattle.dd_sets.specs.Calls.{KeepsSets}
use Rattle.dd_sets.specs.LiveSets.{LiveSets, live_sets}
use Rattle.encode_task.specs.KeptSets.{AreKept, kept_nodes}
use Rattle.encode_task.specs.Made.{IsReady, MadeOf}
use Rattle.encode_task.specs.Slots.{Encoded}

-- the sets stay those of the task, and ready, while each live slot stays live and keeps its set
abbrev pub KeptSetsStayMade : Type 0
KeptSetsStayMade =
    (task : Task) (enc : Encoded) (after : LiveSets) → KeepsSets enc.sets after
    → MadeOf task enc → MadeOf task (record enc { sets = after })

abbrev pub KeptSetsStayReady : Type 0
KeptSetsStayReady =
    (enc : Encoded) (after : LiveSets) → KeepsSets enc.sets after
    → IsReady enc → IsReady (record enc { sets = after })

-- where each live slot holds a set of a task, the live sets have no more nodes than the sets of the
-- task
abbrev pub KeptSetsBoundNodes : Type 0
KeptSetsBoundNodes =
    (task : Task) (sets : LiveSets) → AreKept task sets
    → nodes (fluent_count task) (live_sets sets) ≤ kept_nodes task
