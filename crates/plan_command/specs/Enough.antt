-- How many nodes are enough for the sets of a planning problem, and when a limit may be too small.
-- There are two numbers that are enough: one by the sizes of the problem alone, and one by the sizes
-- of the sets that a search makes. A table may be too small where it is for both.
use Rattle.std.specs.Prelude.{ℕ, ◌+◌, ◌*◌, ◌<◌, []}
use Rattle.ctl_syntax.specs.declared.context_goals.ContextGoal.{ContextGoal}
use Rattle.ctl_syntax.specs.declared.context_goals.ContextGoal.TheVariants.{Patrol, Until}
use Rattle.cyclic_plan.specs.WorkingSets.{BoundsCyclicSets}
use Rattle.dd_sets.specs.Frames.{Owns}
use Rattle.dd_sets.specs.Rooms.{NoRoom}
use Rattle.encode_task.specs.KeptSets.{kept_nodes}
use Rattle.encode_task.specs.Made.{MadeOf}
use Rattle.encode_task.specs.Slots.{Encoded}
use Rattle.context_plan.specs.PatrolWorkingSets.{BoundsPatrolSets}
use Rattle.context_plan.specs.WorkingSets.{BoundsUntilSets}
use Rattle.pddl_ast.specs.Trees.{DomainTree, ProblemTree}
use Rattle.reach_plan.specs.WorkingSets.{BoundsReachSets}
use Rattle.task_core.specs.Tasks.{action_count, system_of}
use Rattle.task_core.specs.declared.classes.Class.{Class}
use Rattle.task_core.specs.declared.classes.Class.TheVariants.{Weak, Strong, Cyclic}
use Rattle.task_core.specs.declared.tasks.Task.{Task}
use Rattle.pddl_system.specs.Systems.{system}
use Rattle.plan_command.specs.ContextGoals.{stage_count}
use Rattle.plan_command.specs.GoalConditions.{IsGoalOf}
use Rattle.command_base.specs.Grounded.{IsTaskOf}
use Rattle.command_base.specs.Words.{PlanKind, of_class, with_contexts}
use Rattle.task_sets.specs.FullTables.{IsFull, IsFullForBoth}
use Rattle.task_sets.specs.NodeRoom.{IsTightLimit}
use Rattle.ctl_syntax.specs.GoalSizes.{count_of}

-- nodes that are enough where each set that the search makes has at most w of them, the constants
-- included, however many fluents there are: those of the sets that are kept for the task, of the
-- sets that are live besides, and of one operation. An operation on two sets makes at most w * w
-- (Bryant 1986), and at most 16 live sets are what one has just made
abbrev pub enough_by_sets : ℕ → Task → ℕ → ℕ
enough_by_sets stages task w =
    kept_nodes task
    + (action_count task * (stages + 3) + 8 * stages + 236) * w
    + 17 * (w * w)

-- w bounds the sets that a search for a plan of the class makes
abbrev pub BoundsSets : Class → Task → ℕ → Type 0
BoundsSets Weak task w = BoundsReachSets w Weak task
BoundsSets Strong task w = BoundsReachSets w Strong task
BoundsSets Cyclic task w = BoundsCyclicSets w task

-- they are fewer than are enough by each bound on the sets that a search makes
abbrev pub IsTightBySets : ℕ → ℕ → Task → (ℕ → Type 0) → Type 0
IsTightBySets stages nodes task Bounds =
    (w : ℕ) → Bounds w → nodes < enough_by_sets stages task w

-- Private: they are fewer than are enough for a task by both numbers, and a table for so many was full
pub record IsTightTask (stages nodes : ℕ) (task : Task) (Bounds : ℕ → Type 0) : Type 0 where
  pub by_sizes : IsTightLimit stages nodes (system_of task)
  pub by_sets : IsTightBySets stages nodes task Bounds
  pub full : IsFull nodes task

-- Private: a search over the sets of a task found no room, by each bound on the sets that it makes,
-- with at most so many of its own; and it left the sets of the task in their slots, and no others
pub record LacksRoom (most : ℕ) (task : Task) (Bounds : ℕ → Type 0) (before after : Encoded)
    : Type 0 where
  pub no_room : (w : ℕ) → Bounds w → NoRoom w most 16 before.sets after.sets
  pub made : MadeOf task after
  pub slots : Owns before.sets after.sets []

-- w bounds the sets that a search for a plan with contexts makes, for an until-chain or a patrol goal
abbrev pub BoundsGoalSets : ContextGoal → Task → ℕ → Type 0
BoundsGoalSets (Until chain) task w = BoundsUntilSets w task chain
BoundsGoalSets (Patrol visits) task w = BoundsPatrolSets w task visits.items

-- Private: a search for a plan of a class, or for a plan with contexts for a goal, found no room
abbrev pub LacksClassRoom : Class → Task → Encoded → Encoded → Type 0
LacksClassRoom class task = LacksRoom (3 * action_count task + 32) task (BoundsSets class task)

abbrev pub LacksGoalRoom : ContextGoal → Task → Encoded → Encoded → Type 0
LacksGoalRoom goal task =
    LacksRoom (action_count task * (count_of goal + 3) + 8 * count_of goal + 236) task
    (BoundsGoalSets goal task)

-- Private: for a plan of a class, or for a plan with contexts for a goal
abbrev pub IsTightForClass : Class → ℕ → Task → Type 0
IsTightForClass class nodes task = IsTightTask 0 nodes task (BoundsSets class task)

abbrev pub IsTightForGoal : ContextGoal → ℕ → Task → Type 0
IsTightForGoal goal nodes task =
    IsTightTask (count_of goal) nodes task (BoundsGoalSets goal task)

-- they are fewer than are enough by the sets of a search for a plan of the kind for the task that the
-- domain and the problem spell, and for its goal
abbrev pub IsTightForKind : PlanKind → ℕ → DomainTree → ProblemTree → Type 0
IsTightForKind (of_class class) nodes domain problem =
    (task : Task) × IsTaskOf domain problem task
    × IsTightBySets 0 nodes task (BoundsSets class task)
IsTightForKind with_contexts nodes domain problem =
    (task : Task) × (goal : ContextGoal) × IsTaskOf domain problem task
    × IsGoalOf domain problem goal
    × IsTightBySets (count_of goal) nodes task (BoundsGoalSets goal task)

-- the stages or visits of the goal; a goal by reachability has none
abbrev pub stages_for : PlanKind → ProblemTree → ℕ
stages_for (of_class class) problem = 0
stages_for with_contexts problem = stage_count problem

-- a table for so many nodes may be too small for a plan of the kind: they are fewer than are enough
-- by both numbers. And one over the fluents in their own order was full: it had no room for the sets
-- of the task, or it holds them, and as many nodes as it may
pub record IsTightPlan (kind : PlanKind) (nodes : ℕ) (domain : DomainTree)
    (problem : ProblemTree) : Type 0 where
  pub by_sizes : IsTightLimit (stages_for kind problem) nodes (system domain problem)
  pub by_sets : IsTightForKind kind nodes domain problem
  pub full : IsFullForBoth nodes domain problem
