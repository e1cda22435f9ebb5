-- The working sets of a verdict on a table, of which the nodes bound what it needs.
use Rattle.std.specs.Prelude.{◌≡◌, ℕ, ◌+◌, ◌<◌, ◌≤◌, List, ◌∷◌, ◌++◌, length, take}
use Rattle.dd_nodes.specs.Subfunctions.{Function, IsSubfunction}
use Rattle.dd_ops.specs.Operations.{and_of, minus_of, variable}
use Rattle.dd_sets.specs.LiveSets.{everything}
use Rattle.dd_sets.specs.Rooms.{Small}
use Rattle.encode_task.specs.TaskSets.{cube_set, exec_set, goal_states_set, initial_set, lands_set, led_into, space_set}
use Rattle.slot_board.specs.Board.{first_of}
use Rattle.slot_board.specs.declared.board.Outcomes.{Outcomes}
use Rattle.task_core.specs.Tasks.{action_count, fluent_count, outcomes_at}
use Rattle.task_core.specs.declared.tasks.Task.{Task}
use Rattle.plan_rules.specs.Rules.{PlanRule}
use Rattle.judge_sets.specs.Fixpoints.{IsBegin, IsGrown, IsShrunk, here_of, hits_of, lost_of, rest_of}
use Rattle.judge_sets.specs.TableSets.{differ_set, end_set, followed_by, matched_set, step_set, taken_set}

-- the sets that are made of the task
pub data IsTaskSet (task : Task) : Function → Type 0 where
  fluent : (f : ℕ) → f < fluent_count task → IsTaskSet task (variable f)
  states : IsTaskSet task (space_set task)
  initial : IsTaskSet task (initial_set task)
  goal : IsTaskSet task (goal_states_set task)
  exec : (a : ℕ) → a < action_count task → IsTaskSet task (exec_set task a)
  lands : (a : ℕ) → a < action_count task → (o : ℕ) → o < length (outcomes_at task a)
      → IsTaskSet task (lands_set task a o)

-- the sets that are made of a rule behind others: where its first literals hold, where it counts and
-- the states of these, where others count in its place, and those of them with another action
pub data IsRuleSet (task : Task) (before : List PlanRule) (rule : PlanRule) : Function → Type 0 where
  first_literals : (j : ℕ) → IsRuleSet task before rule (cube_set (take j rule.cube))
  counts : IsRuleSet task before rule (minus_of (cube_set rule.cube) (matched_set before))
  counts_in_states : IsRuleSet task before rule
      (and_of (minus_of (cube_set rule.cube) (matched_set before)) (space_set task))
  other_counts : IsRuleSet task before rule (and_of (cube_set rule.cube) (matched_set before))
  differs : IsRuleSet task before rule
      (minus_of (and_of (cube_set rule.cube) (matched_set before)) (taken_set before rule.action))

-- the sets that are made of the table: where the first rules match, where they differ, where they
-- take an action; where the rules are at their end, where an action is taken and can be executed, or
-- can't, and where no rule of the first actions can't be followed
pub data IsTableSet (task : Task) (rules : List PlanRule) : Function → Type 0 where
  matched : (j : ℕ) → IsTableSet task rules (matched_set (take j rules))
  differ : (j : ℕ) → IsTableSet task rules (differ_set (take j rules))
  taken : (j a : ℕ) → a < action_count task → IsTableSet task rules (taken_set (take j rules) a)
  ends : IsTableSet task rules (end_set task rules)
  steps : (a : ℕ) → a < action_count task → IsTableSet task rules (step_set task rules a)
  fails : (a : ℕ) → a < action_count task
      → IsTableSet task rules (minus_of (taken_set rules a) (exec_set task a))
  followed : (n : ℕ) → IsTableSet task rules (followed_by task rules n)
  agreeing : IsTableSet task rules (minus_of everything (differ_set rules))

-- the sets that are gone back from: where at least one outcome is to lead into them, or every one
pub data IsRoundSet (task : Task) (rules : List PlanRule) : Outcomes → Function → Type 0 where
  grows : (outcomes : Outcomes) (set : Function) → IsGrown outcomes task rules set
      → IsRoundSet task rules outcomes set
  shrinks : (from set : Function) → IsBegin task rules from → IsShrunk task rules from set
      → IsRoundSet task rules Outcomes.Every set

-- the sets that belong to one that is gone back from by an action: its preimages outcome by outcome,
-- and what is made of these and the steps of the action
pub data IsMadeBack (task : Task) (rules : List PlanRule) (outcomes : Outcomes) (set : Function) (a : ℕ)
    : Function → Type 0 where
  first_led : (j : ℕ) → IsMadeBack task rules outcomes set a (first_of outcomes task a j set)
  led : (o : ℕ) → o < length (outcomes_at task a) → (part : Function)
      → IsSubfunction (fluent_count task) set part
      → IsMadeBack task rules outcomes set a (led_into task a o part)
  rest : IsMadeBack task rules outcomes set a (rest_of task rules set a)
  hits : IsMadeBack task rules outcomes set a (hits_of outcomes task rules set a)
  here : IsMadeBack task rules outcomes set a (here_of task rules set a)
  lost : IsMadeBack task rules outcomes set a (lost_of task rules set a)

-- the working sets
pub data IsWorkingSet (task : Task) (rules : List PlanRule) : Function → Type 0 where
  by_task : (set : Function) → IsTaskSet task set → IsWorkingSet task rules set
  by_rule : (before : List PlanRule) (rule : PlanRule) (after : List PlanRule) (set : Function)
      → rules ≡ before ++ rule ∷ after → IsRuleSet task before rule set
      → IsWorkingSet task rules set
  by_table : (set : Function) → IsTableSet task rules set → IsWorkingSet task rules set
  round : (outcomes : Outcomes) (set : Function) → IsRoundSet task rules outcomes set
      → IsWorkingSet task rules set
  by_round : (outcomes : Outcomes) (round : Function) (a : ℕ) (set : Function)
      → IsRoundSet task rules outcomes round → a < action_count task
      → IsMadeBack task rules outcomes round a set → IsWorkingSet task rules set

-- each working set is small by a width, which is more than the fluents by two at least
pub record BoundsTableSets (width : ℕ) (task : Task) (rules : List PlanRule) : Type 0 where
  pub wide : fluent_count task + 2 ≤ width
  pub each : (set : Function) → IsWorkingSet task rules set → Small (fluent_count task) width set
