-- The run that a record has over a plan and a task: the steps that a replay of the record makes, up to the
-- first that it doesn't, and why it stops there. The steps and the end are those of the trace, as
-- `run_replay` defines it; to these come the rules that count, the contexts, and what is false at the end.
use Rattle.std.specs.Prelude.{◌≡◌, ℕ, List, [], ◌∷◌, None, Option, Some, map, ⊤}
use Rattle.task_core.specs.ContextPlans.{first_context}
use Rattle.task_core.specs.Tasks.{system_of}
use Rattle.task_core.specs.Vectors.{Vector}
use Rattle.task_core.specs.declared.conditions.Cond.{Cond}
use Rattle.task_core.specs.declared.tasks.Task.{Task}
use Rattle.plan_rules.specs.Denoted.{next_context}
use Rattle.plan_rules.specs.Rules.{ContextRule, PlainPlan}
use Rattle.rule_lookup.specs.RunRules.{run_rules}
use Rattle.counterexamples.specs.Findings.{HasFalseGoal, HasFalsePrecondition}
use Rattle.run_replay.specs.Traces.{Capped, Ended, Ending, Stray, Terminal, TraceStep, Unexecutable}
use Rattle.run_replay.specs.Traces.{run_plan, trace_of}
use Rattle.trace.specs.Rules.{CountsThere}

-- a step: the number of the rule that counts in the plan's text, counted from 0, the step of the trace, and
-- the context to which it leads, where there is one
pub record RuledStep : Type 0 where
  pub rule : ℕ
  pub step : TraceStep
  pub context : Option ℕ

-- why a run stops
pub data Stop : Type 0 where
  -- the plan ends there: no rule matches. These parts of the goal by reachability are false, if the task has
  -- one
  plan_ends : Option (List Cond) → Stop
  -- the record has no outcome left, though the rule of this number counts there, with this action
  record_ends : (rule action : ℕ) → Stop
  -- no run makes more steps
  most_made : Stop
  -- the rule of this number counts there, with this action, and the record's outcome is none of the so many
  -- that the action has, or leads to no state
  no_outcome : (rule action word outcomes : ℕ) → Stop
  -- the rule of this number counts there, and its action can't be executed: these parts of its precondition
  -- are false
  not_executable : (rule action : ℕ) → List Cond → Stop

-- a run: its steps, and why it stops
pub record PlainRecorded : Type 0 where
  pub steps : List RuledStep
  pub stop : Stop

-- the rule of the step counts in the state s and the context c, and says in which context it goes on
pub record IsRuledStep (rules : List ContextRule) (s : Vector) (c : Option ℕ) (made : RuledStep)
    : Type 0 where
  pub counts : CountsThere rules s c made.rule made.step.action
  pub onward : made.context ≡ next_context counts.rule.next made.step.after

-- so it is for each step of some that are made one after another from there
abbrev pub AreRuledSteps : List ContextRule → Vector → Option ℕ → List RuledStep → Type 0
AreRuledSteps rules s c [] = ⊤
AreRuledSteps rules s c (made ∷ steps) =
    IsRuledStep rules s c made × AreRuledSteps rules made.step.after made.context steps

-- the state and the context to which they lead
abbrev pub end_state : Vector → List RuledStep → Vector
end_state s [] = s
end_state s (made ∷ steps) = end_state made.step.after steps

abbrev pub end_context : Option ℕ → List RuledStep → Option ℕ
end_context c [] = c
end_context c (made ∷ steps) = end_context made.context steps

-- a run whose trace has this end stops so in the state s and the context c
abbrev pub IsStop : Task → List ContextRule → Vector → Option ℕ → Ending → Stop → Type 0
IsStop task rules s c ending (plan_ends None) = (ending ≡ Terminal) × (task.goal ≡ None)
IsStop task rules s c ending (plan_ends (Some parts)) =
    (ending ≡ Terminal) × HasFalseGoal task s parts
IsStop task rules s c ending (record_ends rule action) =
    (ending ≡ Ended) × CountsThere rules s c rule action
IsStop task rules s c ending most_made = ending ≡ Capped
IsStop task rules s c ending (no_outcome rule action word outcomes) =
    (number : ℕ) × (ending ≡ Stray number word outcomes) × CountsThere rules s c rule action
IsStop task rules s c ending (not_executable rule action parts) =
    (number : ℕ) × (ending ≡ Unexecutable number) × CountsThere rules s c rule action
    × HasFalsePrecondition task s action parts

-- the run is that of a record with these outcome numbers, from the state `first`: its steps are those of the
-- trace of the plan, each by the rule that counts, and it stops where the trace ends
pub record IsRecordedRun (task : Task) (plan : PlainPlan) (first : Vector) (words : List ℕ)
    (run : PlainRecorded) : Type 0 where
  pub ending : Ending
  pub left : List ℕ
  pub traced : trace_of (system_of task) (run_plan plan) first words
      ≡ record { steps = map (λ (made : RuledStep). made.step) run.steps; ending = ending; left = left }
  pub ruled : AreRuledSteps (run_rules plan) first (Some first_context) run.steps
  pub stops : IsStop task (run_rules plan) (end_state first run.steps)
      (end_context (Some first_context) run.steps) ending run.stop
