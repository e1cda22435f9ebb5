-- What speaks for a verdict on a plan: a shortest run, and what is the matter at its end.
use Rattle.std.specs.Prelude.{◌≡◌, ◌<◌, ◌↔◌, ◌+◌, ℕ, Bool, List, [], None, Option, Some, drop, false}
use Rattle.std.specs.Prelude.{if◌then◌else◌, length, nat_lt, slice_get, take, true}
use Rattle.std.specs.List.{All}
use Rattle.std.specs.Option.{option_map}
use Rattle.counterexamples.specs.Parts.{IsFalsePart}
use Rattle.goal_witness.specs.Lines.{PlainLine}
use Rattle.counterexamples.specs.Aims.{IsAimAt}
use Rattle.counterexamples.specs.declared.aims.Aim.{Aim}
use Rattle.counterexamples.specs.declared.aims.Aim.TheVariants.{Round}
use Rattle.plan_rules.specs.Denoted.{denoted_contexts}
use Rattle.plan_rules.specs.Rules.{ContextRule, PlainPlan, PlanRule, automaton, table}
use Rattle.plan_witness.specs.Ends.{IsEndInside, IsEndOutside, IsEndless, IsLostAt, IsLostStart}
use Rattle.plan_witness.specs.Lassos.{ComesBack, IsShortestRound}
use Rattle.plan_witness.specs.Runs.{IsCounting, IsShortestRun, PlainRun, PlainStep, end_of}
use Rattle.task_core.specs.Conditions.{holds_in}
use Rattle.task_core.specs.ContextPlans.{Configuration}
use Rattle.task_core.specs.Cubes.{matches}
use Rattle.task_core.specs.States.{vector}
use Rattle.task_core.specs.Systems.{Exec, System}
use Rattle.task_core.specs.Tasks.{fluent_count, initial_states, system_of}
use Rattle.task_core.specs.Vectors.{Vector}
use Rattle.task_core.specs.declared.actions.GroundAction.{GroundAction}
use Rattle.task_core.specs.declared.conditions.Cond.{Cond}
use Rattle.task_core.specs.declared.states.State.{State}
use Rattle.task_core.specs.declared.tasks.Task.{Task}

-- what is the matter at the end of a run
pub data Ending : Type 0 where
  -- the plan ends there, in the goal
  in_goal : Ending
  -- the plan ends there, outside the goal, of which these parts are false
  outside_goal : List Cond → Ending
  -- the rule of this number counts there, and its action can't be executed: these parts of its
  -- precondition are false
  not_executable : (rule action : ℕ) → List Cond → Ending
  -- the context has no rule there
  without_rule : Ending
  -- the rule of this number counts there, and has no next context for this outcome of its action
  without_next : (rule action outcome : ℕ) → Ending
  -- some run from there comes back
  comes_back : Ending
  -- no run from there ends in the goal
  never_in_goal : Ending
  -- no run from there ends
  never_ending : Ending
  -- a goal is false along the run, part by part: the one that stands for the problem's where actions may
  -- be tried again, or else the problem's
  goal_missed : (fair : Bool) → List PlainLine → Ending

-- the parts of a condition that are false in a state: each is asked for and false there, and there are
-- some exactly if the condition is false
pub record AreFalseParts (n : ℕ) (cond : Cond) (v : Vector) (parts : List Cond) : Type 0 where
  pub state : State
  pub is : vector n state ≡ v
  pub each : All (IsFalsePart cond state) parts
  pub some : (holds_in cond state ≡ false) ↔ (0 < length parts)

-- the rule of this number, with this action, is one of a table that matches a state
pub record CountsInTable (rules : List PlanRule) (v : Vector) (number action : ℕ) : Type 0 where
  pub rule : PlanRule
  pub numbered : slice_get rules number ≡ Some rule
  pub matched : matches rule.cube v ≡ true
  pub acts : rule.action ≡ action

-- it is the first rule of the context of x that matches the state of x
pub record CountsInContext (rules : List ContextRule) (x : Configuration) (number action : ℕ) : Type 0 where
  pub rule : ContextRule
  pub counts : IsCounting rules x number rule
  pub acts : rule.action ≡ action

-- it counts at x
abbrev pub CountsAt : PlainPlan → Configuration → ℕ → ℕ → Type 0
CountsAt (table class rules) x number action = CountsInTable rules x.state number action
CountsAt (automaton contexts rules) x number action = CountsInContext rules x number action

-- the parts of the goal that are false in a state
pub record HasFalseGoal (task : Task) (v : Vector) (parts : List Cond) : Type 0 where
  pub goal : Cond
  pub is : task.goal ≡ Some goal
  pub are : AreFalseParts (fluent_count task) goal v parts

-- the parts of an action's precondition that are false in a state
pub record HasFalsePrecondition (task : Task) (v : Vector) (action : ℕ) (parts : List Cond) : Type 0 where
  pub ground : GroundAction
  pub listed : slice_get task.actions.items action ≡ Some ground
  pub are : AreFalseParts (fluent_count task) ground.exec v parts

-- the rule counts at x, and its action can't be executed there; the parts of its precondition that are
-- false there
pub record IsNotExecutableAt (task : Task) (plan : PlainPlan) (x : Configuration) (rule action : ℕ)
    (parts : List Cond) : Type 0 where
  pub counts : CountsAt plan x rule action
  pub refused : Exec (system_of task) x.state action → ⊥
  pub precondition : HasFalsePrecondition task x.state action parts

-- the context of x has no rule there
abbrev pub HasNoRuleAt : PlainPlan → Configuration → Type 0
HasNoRuleAt (table class rules) x = ⊥
HasNoRuleAt (automaton contexts rules) x =
    (denoted_contexts rules).act x.state x.context ≡ None

-- the rule of this number counts at x, with this action, and has no next context for the state to which
-- this outcome leads
pub record LosesAt (sys : System) (rules : List ContextRule) (x : Configuration)
    (number action outcome : ℕ) : Type 0 where
  pub rule : ContextRule
  pub counts : IsCounting rules x number rule
  pub acts : rule.action ≡ action
  pub lost : IsLostAt sys rule x.state outcome

-- the same of a plan: a table always goes on
abbrev pub IsWithoutNextAt : System → PlainPlan → Configuration → ℕ → ℕ → ℕ → Type 0
IsWithoutNextAt sys (table class rules) x number action outcome = ⊥
IsWithoutNextAt sys (automaton contexts rules) x number action outcome =
    LosesAt sys rules x number action outcome

-- what is said of the end of a run is so at x. That a goal is false along a run is said of no place
abbrev pub IsEndingAt : Task → PlainPlan → Configuration → Ending → Type 0
IsEndingAt task plan x in_goal = IsEndInside (system_of task) plan x
IsEndingAt task plan x (outside_goal parts) =
    IsEndOutside (system_of task) plan x × HasFalseGoal task x.state parts
IsEndingAt task plan x (not_executable rule action parts) =
    IsNotExecutableAt task plan x rule action parts
IsEndingAt task plan x without_rule = HasNoRuleAt plan x
IsEndingAt task plan x (without_next rule action outcome) =
    IsWithoutNextAt (system_of task) plan x rule action outcome
IsEndingAt task plan x comes_back = ComesBack (system_of task) plan x
IsEndingAt task plan x never_in_goal = IsLostStart (system_of task) plan x
IsEndingAt task plan x never_ending = IsEndless (system_of task) plan x
IsEndingAt task plan x (goal_missed fair lines) = ⊥

-- a run, the number of the initial state in which it begins, counted from 0, and what is the matter
-- after its first `stem` steps. These are all steps, or those that are left lead back to where the run
-- was before them
pub record PlainFound : Type 0 where
  pub number : ℕ
  pub run : PlainRun
  pub stem : ℕ
  pub ending : Ending

-- the first steps, and those back
abbrev pub stem_of : PlainFound → PlainRun
stem_of found = record { start = found.run.start; steps = take found.stem found.run.steps }

abbrev pub back_of : PlainFound → List PlainStep
back_of found = drop found.stem found.run.steps

-- the number of the step, counted from 0, from which on the run leads back to where it was before that
-- step
abbrev pub cycle_from : PlainFound → Option ℕ
cycle_from found = if nat_lt found.stem (length found.run.steps) then Some found.stem else None

-- the number of that step, counted from 1
abbrev pub again_from : PlainFound → Option ℕ
again_from found = option_map (λ place. place + 1) (cycle_from found)

-- where a run is to come back there is a shortest run back, and else none
pub record IsBackFor (aim : Aim) (sys : System) (plan : PlainPlan) (x : Configuration)
    (back : List PlainStep) : Type 0 where
  pub round : aim ≡ Round → IsShortestRound sys plan x back
  pub nothing : (aim ≡ Round → ⊥) → back ≡ []

-- the run is a shortest one to the aim, and goes on as it is to; and what is said of it is so
pub record IsFound (aim : Aim) (task : Task) (plan : PlainPlan) (found : PlainFound) : Type 0 where
  pub numbered : slice_get (initial_states task) found.number ≡ Some found.run.start.state
  pub shortest : IsShortestRun (system_of task) plan (IsAimAt aim (system_of task) plan)
      (stem_of found)
  pub back : IsBackFor aim (system_of task) plan (end_of found.run.start (stem_of found).steps)
      (back_of found)
  pub ending : IsEndingAt task plan (end_of found.run.start (stem_of found).steps) found.ending

-- which goals are false where along a run that shows that a goal is missed
abbrev pub lines_in : Ending → List PlainLine
lines_in in_goal = []
lines_in (outside_goal parts) = []
lines_in (not_executable rule action parts) = []
lines_in without_rule = []
lines_in (without_next rule action outcome) = []
lines_in comes_back = []
lines_in never_in_goal = []
lines_in never_ending = []
lines_in (goal_missed fair lines) = lines
