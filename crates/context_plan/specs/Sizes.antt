-- Private: that what the parts of a search make is small, or rough, by the width of its start.
use Rattle.std.specs.Prelude.{◌≡◌, ℕ, ◌<◌, ◌≤◌, ◌||◌, ◌&&◌, not, true, Contains}
use Rattle.std.specs.List.{list_any, range_with_len}
use Rattle.plan_theory.specs.GuardedSets.{anywhere}
use Rattle.plan_theory.specs.UntilChains.{UntilSets, covers_until}
use Rattle.plan_theory.specs.Layers.{must_lead}
use Rattle.plan_theory.specs.LayerPlans.{is_action}
use Rattle.plan_theory.specs.StageSets.{near as near_within, stage_action}
use Rattle.dd_nodes.specs.Subfunctions.{Function}
use Rattle.dd_sets.specs.Rooms.{Rough}
use Rattle.encode_task.specs.TaskSets.{exec_set, initial_set, space_set}
use Rattle.preimage.specs.WorkingSets.{PreimageFits, first_every}
use Rattle.slot_board.specs.Board as board
use Rattle.task_core.specs.Cubes.{SetOfVectors}
use Rattle.task_core.specs.Tasks.{action_count, fluent_count}
use Rattle.task_core.specs.declared.conditions.Cond.{Cond}
use Rattle.ctl_syntax.specs.Conditions.{states_of}
use Rattle.ctl_syntax.specs.declared.context_goals.UntilChain.{UntilChain}
use Rattle.ctl_syntax.specs.declared.context_goals.UntilStage.{UntilStage}
use Rattle.context_plan.specs.Chains.{until_sets}
use Rattle.context_plan.specs.Rounds.{first_lead, from_stage, hits_by, turn_by, turning_at, turns}
use Rattle.context_plan.specs.Scenes.{Start, board_of, guarded, sys_in, sys_of}
use Rattle.context_plan.specs.WorkingSets.{function_of, guard_in, kept_states, met_in}
use Rattle.context_plan.specs.WorkingSets.{taken_at_end, taken_within}
use Rattle.context_plan.specs.declared.rounds.Way.{Way}
use Rattle.context_plan.specs.declared.rounds.Way.TheVariants.{Growing, Shrinking}

-- states are a small set, or a rough one
abbrev pub IsSmall : Start → SetOfVectors → Type 0
IsSmall start set = board.IsSmall (board_of start) (function_of (fluent_count start.task) set)

abbrev pub IsRough : Start → SetOfVectors → Type 0
IsRough start set =
    Rough (fluent_count start.task) start.width (function_of (fluent_count start.task) set)

-- where an action can be executed is small
abbrev pub ExecFits : Start → ℕ → Type 0
ExecFits start a = board.IsSmall (board_of start) (exec_set start.task a)

-- what a preimage of some states makes is small
abbrev pub LeadFits : Start → ℕ → SetOfVectors → Type 0
LeadFits start a set = PreimageFits start.width start.task a first_every
    (function_of (fluent_count start.task) set)

-- what one action adds to a round is small: where it leads into the first states, and the next ones
-- with it
pub record HitFits (way : Way) (start : Start) (near next : SetOfVectors) (a : ℕ) : Type 0 where
  pub lead : LeadFits start a near
  pub hits : IsSmall start (λ v. must_lead (sys_in start) near v a)
  pub joined : IsSmall start (λ v. next v
      || hits_by way near (λ u. must_lead (sys_in start) near u a) v)

-- what a round on some states makes is small, whichever way it goes
pub record RoundFits (start : Start) (set : SetOfVectors) : Type 0 where
  pub itself : IsSmall start set
  pub lead : (a : ℕ) → a < action_count start.task → LeadFits start a set
  pub hits : (a : ℕ) → a < action_count start.task
      → IsSmall start (λ v. must_lead (sys_in start) set v a)
  pub turned : (way : Way) (n : ℕ) → n ≤ action_count start.task
      → IsSmall start (turn_by way (sys_in start) set n)

-- what all rounds from some states on make is small
abbrev pub TurnsFit : Way → Start → SetOfVectors → Type 0
TurnsFit way start set = (k : ℕ) → RoundFits start (turns way (sys_in start) set k)

-- what is made to find where a condition can be kept is small
pub record EndFits (start : Start) (cond : Cond) : Type 0 where
  pub condition : board.ConditionFits (board_of start) cond
  pub space : board.IsSmall (board_of start) (space_set start.task)
  pub rounds : TurnsFit Shrinking (guarded start anywhere)
      (kept_states (sys_of start) (states_of cond))

-- what is made of the conditions of a stage is small
pub record ConditionsFit (start : Start) (stage : UntilStage) : Type 0 where
  pub guard : board.ConditionFits (board_of start) stage.guard
  pub target : board.ConditionFits (board_of start) stage.target

-- what is made to find where a stage is met, and from where, is small
pub record StageFits (start : Start) (stage : UntilStage) (won : SetOfVectors) : Type 0 where
  pub conditions : ConditionsFit start stage
  pub rounds : TurnsFit Growing (guarded start (states_of stage.guard))
      (λ v. states_of stage.target v && won v)

-- what is made to share some states out among the actions that lead into others is small, and what is
-- left of them is rough
pub record ShareFits (start : Start) (near rest : SetOfVectors) (before : ℕ → SetOfVectors)
    : Type 0 where
  pub lead : (a : ℕ) → a < action_count start.task → LeadFits start a near
  pub first : (a : ℕ) → a < action_count start.task
      → IsSmall start (first_lead (sys_in start) near rest a)
  pub taken : (a : ℕ) → a < action_count start.task
      → IsSmall start (λ v. before a v || first_lead (sys_in start) near rest a v)
  pub left : (n : ℕ) → n ≤ action_count start.task → IsRough start (λ v. rest v
      && not (list_any (must_lead (sys_in start) near v) (range_with_len 0 n)))

-- what a round makes in which the new states take their actions is small
pub record ClimbFits (start : Start) (near : SetOfVectors) (before : ℕ → SetOfVectors)
    : Type 0 where
  pub round : RoundFits start near
  pub taken : (a : ℕ) → a < action_count start.task → IsSmall start (λ v. before a v
      || first_lead (sys_in start) near (λ u. not (near u)) a v)

-- what all such rounds towards a stage make is small
pub record ClimbsFit (start : Start) (met : SetOfVectors) (before : ℕ → SetOfVectors)
    : Type 0 where
  pub rounds : TurnsFit Growing start met
  pub taken : (k a : ℕ) → a < action_count start.task → IsSmall start (λ v. before a v
      || (near_within (sys_in start) met k v
      && is_action a (stage_action (sys_in start) met v)))

-- what a search for an until-chain's sets makes is small
pub record UntilFits (start : Start) (chain : UntilSets) : Type 0 where
  pub initial : board.IsSmall (board_of start) (initial_set start.task)
  pub space : board.IsSmall (board_of start) (space_set start.task)
  pub kept : TurnsFit Shrinking (guarded start anywhere) (kept_states (sys_of start) chain.keep)
  pub near : (i : ℕ) → i < start.stages
      → TurnsFit Growing (guarded start (guard_in chain i)) (met_in (sys_of start) chain i)
  pub taken : (i k a : ℕ) → covers_until (sys_of start) chain ≡ true → i < start.stages
      → a < action_count start.task
      → IsSmall start (taken_within (sys_of start) chain i k a)
  pub last : (a : ℕ) → covers_until (sys_of start) chain ≡ true → a < action_count start.task
      → IsSmall start (taken_at_end (sys_of start) chain a)
  pub turning : (c j : ℕ) → c ≤ j → j ≤ start.stages
      → IsSmall start (turning_at (sys_of start) chain c j)
  pub later : (c j : ℕ) → c ≤ j → j ≤ start.stages
      → IsSmall start (from_stage (sys_of start) chain c j)

-- and so is what it makes for the until-chain's conditions
pub record SearchFits (start : Start) (chain : UntilChain) : Type 0 where
  pub sets : UntilFits start (until_sets chain)
  pub keep : board.ConditionFits (board_of start) chain.keep
  pub stages : (stage : UntilStage) → Contains chain.stages.items stage
      → ConditionsFit start stage

-- every set is small
abbrev pub EverySetIsSmall : Start → Type 0
EverySetIsSmall start = (set : Function) → board.IsSmall (board_of start) set
