-- When a table of nodes is full for a search over the sets of a task: while these are made, or in the
-- search, which is made only where there is an initial state.
use Rattle.std.specs.Prelude.{◌≡◌, ◌≢◌, ℕ, ◌+◌, ◌*◌, ◌<◌, ◌≤◌, ◌⊎◌, []}
use Rattle.command_base.specs.Grounded.{IsTaskOf}
use Rattle.dd_sets.specs.LiveSets.{IsSets, live_count}
use Rattle.dd_sets.specs.Rooms.{IsAtLimit, Tight, nodes_of_slots}
use Rattle.encode_task.specs.Bounds.{kept_slots, working_slots}
use Rattle.encode_task.specs.KeptSets.{AreKept, kept_nodes}
use Rattle.encode_task.specs.Made.{MadeOf}
use Rattle.encode_task.specs.Slots.{Encoded}
use Rattle.encode_task.specs.WorkingSets.{AreSmall, IsMadeByEncode}
use Rattle.pddl_ast.specs.Trees.{DomainTree, ProblemTree}
use Rattle.task_core.specs.Tasks.{fluent_count, initial_states}
use Rattle.task_core.specs.declared.tasks.Task.{Task}

-- so many nodes are fewer than are enough to make the sets of a task, by two numbers: one by the slots
-- that are live meanwhile, and one by the nodes of the sets, where each that is made has at most w,
-- the constants included
pub record IsTightToEncode (nodes : ℕ) (task : Task) : Type 0 where
  pub by_sizes : Tight nodes (fluent_count task)
      (nodes_of_slots (working_slots task) (fluent_count task))
  pub by_sets : (w : ℕ) → fluent_count task + 2 ≤ w
      → AreSmall (fluent_count task) w (IsMadeByEncode task)
      → nodes < kept_nodes task + 220 * w + 13 * (w * w)

-- the sets of a task stand in a table for so many nodes, over the fluents in their own order, and no
-- other set is live
pub record AreEncoded (nodes : ℕ) (task : Task) (enc : Encoded) : Type 0 where
  pub made : MadeOf task enc
  pub limit : enc.sets.limit ≡ nodes
  pub order : enc.sets.order ≡ []
  pub few : live_count enc.sets ≤ kept_slots task
  pub are_kept : AreKept task enc.sets

-- such a table holds as many nodes as it may
pub record IsFilled (nodes : ℕ) (task : Task) : Type 0 where
  pub enc : Encoded
  pub encoded : AreEncoded nodes task enc
  pub sound : IsSets enc.sets
  pub at_limit : IsAtLimit enc.sets

-- a search was made over the sets of a task, since there is an initial state, and found no room:
-- LacksRoom says so of the table before and after it
pub record IsFullSearch (nodes : ℕ) (task : Task) (LacksRoom : Encoded → Encoded → Type 0)
    : Type 0 where
  pub some : initial_states task ≢ []
  pub before : Encoded
  pub after : Encoded
  pub encoded : AreEncoded nodes task before
  pub sound : IsSets after.sets
  pub lacks_room : LacksRoom before after

-- the try over the fluents in their own order found the table full
abbrev pub IsFullTry : ℕ → Task → (Encoded → Encoded → Type 0) → Type 0
IsFullTry nodes task LacksRoom =
    IsTightToEncode nodes task ⊎ IsFullSearch nodes task LacksRoom

-- so does what is left of that once the search is over
abbrev pub IsFull : ℕ → Task → Type 0
IsFull nodes task = IsTightToEncode nodes task ⊎ IsFilled nodes task

-- the same of the task that a domain and a problem spell
abbrev pub IsTightToEncodeBoth : ℕ → DomainTree → ProblemTree → Type 0
IsTightToEncodeBoth nodes domain problem =
    (task : Task) × IsTaskOf domain problem task × IsTightToEncode nodes task

abbrev pub IsFullForBoth : ℕ → DomainTree → ProblemTree → Type 0
IsFullForBoth nodes domain problem =
    (task : Task) × IsTaskOf domain problem task × IsFull nodes task
