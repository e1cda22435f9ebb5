-- Private: one turn of a run, as the code holds it.
use Rattle.std.specs.Prelude.{◌≡◌, ◌<◌, ℕ, List, [], ◌∷◌, None, Option, Some, map, ⊤}
use Rattle.task_core.specs.ContextPlans.{first_context}
use Rattle.task_core.specs.States.{vector}
use Rattle.task_core.specs.Tasks.{action_count, fluent_count, system_of}
use Rattle.task_core.specs.Vectors.{Vector}
use Rattle.task_core.specs.declared.states.State.{State}
use Rattle.task_core.specs.declared.tasks.Task.{Task}
use Rattle.plan_rules.specs.Denoted.{denoted_contexts}
use Rattle.plan_rules.specs.Rules.{ContextRule}
use Rattle.run_replay.specs.Runs.{IsStepOf, step_value, steps_value}
use Rattle.run_replay.specs.Traces.{Capped, Ended, Ending, Ends, Goes, Stray, Terminal, Turn, Unexecutable}
use Rattle.run_replay.specs.Traces.{trace_of}
use Rattle.run_replay.specs.declared.worlds.Step.{Step}
use Rattle.trace.specs.Rules.{CountsThere}
use Rattle.trace.specs.RecordedRuns.{AreRuledSteps, IsRuledStep, end_context, end_state}
use Rattle.trace.specs.Values.{made_value, mades_value}
use Rattle.trace.specs.declared.runs.Halted.{Halted}
use Rattle.trace.specs.declared.runs.MadeStep.{MadeStep}
use Rattle.trace.specs.declared.turns.Halt.{Halt}
use Rattle.trace.specs.declared.turns.Halt.TheVariants.{MostMade, NoOutcome, NotExecutable, PlanEnds}
use Rattle.trace.specs.declared.turns.Halt.TheVariants.{RecordEnds}
use Rattle.trace.specs.declared.turns.Turn.{Turn as CodeTurn}
use Rattle.trace.specs.declared.turns.Turn.TheVariants.{Halts, Makes}

-- Private: the outcome numbers that are left: none, or this one and then others
abbrev pub numbers_left : Option ℕ → List ℕ → List ℕ
numbers_left None words = []
numbers_left (Some word) words = word ∷ words

-- Private: how the trace ends whose step of this number is not made
abbrev pub halt_ending : ℕ → Halt → Ending
halt_ending number PlanEnds = Terminal
halt_ending number (RecordEnds counting) = Ended
halt_ending number MostMade = Capped
halt_ending number (NoOutcome counting word outcomes) = Stray number word outcomes
halt_ending number (NotExecutable counting) = Unexecutable number

-- Private: the code's turn, in which the step of this number would be made, is this turn, where these
-- outcome numbers follow the next one
abbrev pub IsTurn : ℕ → ℕ → CodeTurn → List ℕ → Turn → Type 0
IsTurn n number (Halts halt) words turn =
    (left : List ℕ) × (turn ≡ Ends (halt_ending number halt) left)
IsTurn n number (Makes made) words turn = turn ≡ Goes (step_value n made.step) made.context words

-- Private: the rule of which a halt speaks counts there
abbrev pub IsRuledHalt : List ContextRule → Vector → Option ℕ → Halt → Type 0
IsRuledHalt rules s c PlanEnds = ⊤
IsRuledHalt rules s c (RecordEnds counting) = CountsThere rules s c counting.rule counting.action.0
IsRuledHalt rules s c MostMade = ⊤
IsRuledHalt rules s c (NoOutcome counting word outcomes) =
    CountsThere rules s c counting.rule counting.action.0
IsRuledHalt rules s c (NotExecutable counting) =
    CountsThere rules s c counting.rule counting.action.0

-- Private: the rule of the step, or of the halt, counts there
abbrev pub IsRuledTurn : ℕ → List ContextRule → Vector → Option ℕ → CodeTurn → Type 0
IsRuledTurn n rules s c (Halts halt) = IsRuledHalt rules s c halt
IsRuledTurn n rules s c (Makes made) = IsRuledStep rules s c (made_value n made)

-- Private: the action that can't be executed is one of m
abbrev pub IsHaltOf : ℕ → Halt → Type 0
IsHaltOf m PlanEnds = ⊤
IsHaltOf m (RecordEnds counting) = ⊤
IsHaltOf m MostMade = ⊤
IsHaltOf m (NoOutcome counting word outcomes) = ⊤
IsHaltOf m (NotExecutable counting) = counting.action.0 < m

-- Private: the step is one of a task with n fluents and m actions, and so is the action of a halt
abbrev pub IsTurnOf : ℕ → ℕ → CodeTurn → Type 0
IsTurnOf n m (Halts halt) = IsHaltOf m halt
IsTurnOf n m (Makes made) = IsStepOf n m made.step

-- Private: the steps of a run as a replay has them
abbrev pub plain_steps : List MadeStep → List Step
plain_steps = map (λ (made : MadeStep). made.step)

-- Private: the steps from the first state are ruled, and lead to this state and this context
pub record HasComeTo (n : ℕ) (rules : List ContextRule) (first : Vector) (steps : List MadeStep)
    (state : State) (context : Option ℕ) : Type 0 where
  pub ruled : AreRuledSteps rules first (Some first_context) (mades_value n steps)
  pub at_state : end_state first (mades_value n steps) ≡ vector n state
  pub at_context : end_context (Some first_context) (mades_value n steps) ≡ context

-- Private: the run by these rules from the first state, with these outcome numbers, has its steps, and makes
-- no further one, for this reason
pub record HasHalted (task : Task) (rules : List ContextRule) (first : Vector) (words : List ℕ)
    (halted : Halted) : Type 0 where
  pub number : ℕ
  pub left : List ℕ
  pub traced : trace_of (system_of task) (denoted_contexts rules) first words
      ≡ record {
        steps = steps_value (fluent_count task) (plain_steps halted.course.steps.items);
        ending = halt_ending number halted.halt;
        left = left;
      }
  pub come : HasComeTo (fluent_count task) rules first halted.course.steps.items halted.course.state
      halted.course.context
  pub ruled : IsRuledHalt rules (vector (fluent_count task) halted.course.state) halted.course.context
      halted.halt
  pub in_task : IsHaltOf (action_count task) halted.halt
