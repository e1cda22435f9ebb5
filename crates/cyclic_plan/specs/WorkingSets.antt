-- The working sets of a search for a strong cyclic plan, of which the nodes bound what it needs.
use Rattle.std.specs.Prelude.{◌≡◌, ℕ, ◌+◌, ◌<◌, ◌≤◌, true}
use Rattle.dd_nodes.specs.Subfunctions.{Function}
use Rattle.dd_ops.specs.Operations.{and_of}
use Rattle.dd_sets.specs.Rooms.{Small}
use Rattle.encode_task.specs.TaskSets.{initial_set, space_set, states_in}
use Rattle.encode_task.specs.WorkingSets.{IsMadeByEncode}
use Rattle.preimage.specs.WorkingSets.{IsMadeByRound, IsMadeByRounds, hits_at}
use Rattle.slot_board.specs.Board.{first_of}
use Rattle.slot_board.specs.declared.board.Outcomes.{Outcomes}
use Rattle.task_core.specs.Tasks.{action_count, fluent_count, system_of}
use Rattle.task_core.specs.declared.classes.Class.TheVariants.{Weak}
use Rattle.task_core.specs.declared.tasks.Task.{Task}
use Rattle.plan_theory.specs.LargestSets.{IsLargestSet, covers}
use Rattle.plan_theory.specs.LayerPlans.{takers}
use Rattle.plan_theory.specs.PairRounds.{kept, progress, round}
use Rattle.plan_theory.specs.Pairs.{Pairs, restricted}

-- the pairs of round r: those of states that are left by the rounds before it, outside the goal, that
-- don't lead out of what is left
abbrev pub pairs_in : Task → ℕ → Pairs
pairs_in task r = let sys = system_of task in kept sys (round sys r)

-- the states that have a pair of round r with action a
abbrev pub pair_set : Task → ℕ → ℕ → Function
pair_set task r a = states_in task (λ v. pairs_in task r v a)

-- the states near the goal: those from which it is reached in at most k steps by pairs of round r
abbrev pub near_set : Task → ℕ → ℕ → Function
near_set task r k = states_in task (progress (system_of task) (pairs_in task r) k)

-- the hits of an action at these: only the states that have a pair of the round with it
abbrev pub pair_hits : Outcomes → Task → ℕ → ℕ → ℕ → Function
pair_hits outcomes task r k a =
    and_of (hits_at (first_of outcomes) task (near_set task r k) a) (pair_set task r a)

-- the initial states, and all states
pub data IsTaskRound (task : Task) : Function → Type 0 where
  initial_round : IsTaskRound task (initial_set task)
  space_round : IsTaskRound task (space_set task)

-- the sets that are made of the task; those that belong to the initial states, to all states, and to
-- the states near the goal; the states that have a pair of a round with an action; and where there is
-- a plan, those within k steps of the goal to which it gives the action. Past the steps that the plan
-- takes these stay the same
pub data IsWorkingSet (task : Task) : Function → Type 0 where
  by_task : (set : Function) → IsMadeByEncode task set → IsWorkingSet task set
  by_rounds : (outcomes : Outcomes) (set : Function)
      → IsMadeByRounds task (first_of outcomes) (IsTaskRound task) set → IsWorkingSet task set
  by_near : (outcomes : Outcomes) (r k : ℕ) (set : Function)
      → IsMadeByRound task (first_of outcomes) (pair_hits outcomes task r k) (near_set task r k) set
      → IsWorkingSet task set
  paired : (r a : ℕ) → a < action_count task → IsWorkingSet task (pair_set task r a)
  taken : (pairs : Pairs) → IsLargestSet (system_of task) pairs
      → covers (system_of task) pairs ≡ true → (k a : ℕ) → a < action_count task
      → IsWorkingSet task (states_in task (takers Weak (restricted (system_of task) pairs) k a))

-- each working set is small by a width, which is more than the fluents by two at least
pub record BoundsCyclicSets (width : ℕ) (task : Task) : Type 0 where
  pub wide : fluent_count task + 2 ≤ width
  pub each : (set : Function) → IsWorkingSet task set
      → Small (fluent_count task) width set
