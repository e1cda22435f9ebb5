-- The sets that belong to a set of states of a search, of which the nodes bound what the search needs:
-- its preimages outcome by outcome, and what is made of it and them. Each call on the preimages counts
-- the sets that it makes against these.
use Rattle.std.specs.Prelude.{ℕ, zero, suc, ◌+◌, ◌<◌, ◌≤◌, false, not, ◌&&◌, ◌||◌, length, take}
use Rattle.std.specs.List.{list_all, list_any}
use Rattle.dd_nodes.specs.Subfunctions.{Function, IsSubfunction}
use Rattle.dd_ops.specs.Operations.{and_of, or_of}
use Rattle.dd_sets.specs.Rooms.{Small}
use Rattle.encode_task.specs.TaskSets.{exec_set, lands_set, led_into, space_set}
use Rattle.encode_task.specs.WorkingSets.{ImagesAreSmall}
use Rattle.task_core.specs.Actions.{after_value}
use Rattle.task_core.specs.Tasks.{action_count, fluent_count, outcomes_at}
use Rattle.task_core.specs.declared.tasks.Task.{Task}

-- where action a can be executed and some one of its first j outcomes leads to a state in a set; and
-- where it can be executed and each of its first j outcomes that leads to a state leads into the set
abbrev pub first_some : Task → ℕ → ℕ → Function → Function
first_some task a j set values =
    exec_set task a values
    && list_any (λ o. space_set task (after_value o values) && set (after_value o values))
    (take j (outcomes_at task a))

abbrev pub first_every : Task → ℕ → ℕ → Function → Function
first_every task a j set values =
    exec_set task a values
    && list_all (λ o. not (space_set task (after_value o values)) || set (after_value o values))
    (take j (outcomes_at task a))

-- the hits of an action at a set, by either: where all its outcomes are looked at
abbrev pub hits_at : (Task → ℕ → ℕ → Function → Function) → Task → Function → ℕ → Function
hits_at first task set a = first task a (length (outcomes_at task a)) set

-- what is in one of the first j of some sets
abbrev pub some_below : (ℕ → Function) → ℕ → Function
some_below sets zero values = false
some_below sets (suc j) values = some_below sets j values || sets j values

-- the working sets that belong to one set of states with the hits of the actions at it: the set; the
-- hits; where some, or every, one of an action's first outcomes leads into the set; the set joined
-- with the hits of the first actions, and its part in these; and what an outcome leads into a
-- subfunction of the set
pub data IsMadeByRound (task : Task) (first : Task → ℕ → ℕ → Function → Function)
    (hits : ℕ → Function) (set : Function) : Function → Type 0 where
  itself : IsMadeByRound task first hits set set
  hit : (a : ℕ) → a < action_count task → IsMadeByRound task first hits set (hits a)
  first_led : (a : ℕ) → a < action_count task → (j : ℕ)
      → IsMadeByRound task first hits set (first task a j set)
  joined : (j : ℕ) → j ≤ action_count task
      → IsMadeByRound task first hits set (or_of set (some_below hits j))
  part : (j : ℕ) → j ≤ action_count task
      → IsMadeByRound task first hits set (and_of set (some_below hits j))
  led : (a : ℕ) → a < action_count task → (o : ℕ) → o < length (outcomes_at task a)
      → (g : Function) → IsSubfunction (fluent_count task) set g
      → IsMadeByRound task first hits set (led_into task a o g)

-- those of all the sets of states of a search, where the hits are those of the actions
abbrev pub IsMadeByRounds : Task → (Task → ℕ → ℕ → Function → Function) → (Function → Type 0)
    → Function → Type 0
IsMadeByRounds task first rounds f =
    (set : Function) × rounds set × IsMadeByRound task first (hits_at first task set) set f

-- the sets that a preimage of a set under action a makes are small, by a width
pub record PreimageFits (width : ℕ) (task : Task) (a : ℕ)
    (first : Task → ℕ → ℕ → Function → Function) (set : Function) : Type 0 where
  pub wide : fluent_count task + 2 ≤ width
  pub given : Small (fluent_count task) width set
  pub exec : Small (fluent_count task) width (exec_set task a)
  pub lands : (o : ℕ) → o < length (outcomes_at task a)
      → Small (fluent_count task) width (lands_set task a o)
  pub firsts : (j : ℕ) → Small (fluent_count task) width (first task a j set)
  pub led : (o : ℕ) → o < length (outcomes_at task a) → ImagesAreSmall width task a o set
