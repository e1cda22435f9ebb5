-- The trace of a plan: the steps that it takes from a state, where a list of outcome numbers says
-- which outcome comes at each step, and how it ends. It is a definition by recursion on the turns,
-- in the terms of a system and of a plan with contexts, and knows of no worlds and no monitors.
use Rattle.std.specs.Prelude.{ℕ, zero, suc, ◌+◌, Bool, true, false, nat_lt, if◌then◌else◌, List, []}
use Rattle.std.specs.Prelude.{◌∷◌, Option, Some, None}
use Rattle.task_core.specs.Vectors.{Vector}
use Rattle.task_core.specs.Systems.{System}
use Rattle.task_core.specs.ContextPlans.{ContextPlan, first_context}
use Rattle.plan_rules.specs.Denoted.{can_execute, denoted_contexts}
use Rattle.plan_rules.specs.Rules.{PlainPlan}
use Rattle.rule_lookup.specs.RunRules.{run_rules}

-- a step: its number, counted from 1, the action, the number of its outcome, counted from 0, and
-- the states before and after
pub record TraceStep : Type 0 where
  pub number : ℕ
  pub action : ℕ
  pub outcome : ℕ
  pub before : Vector
  pub after : Vector

-- how a trace ends: no rule matches; the outcome numbers are used up; the greatest number of steps
-- was made; an outcome number is none of the action's, or its outcome leads to no state; or an action
-- can't be executed
pub data Ending : Type 0 where
  Terminal : Ending
  Ended : Ending
  Capped : Ending
  Stray : (step word outcomes : ℕ) → Ending
  Unexecutable : (step : ℕ) → Ending

-- one turn: it ends the trace, or makes a step and goes on in a context; with the outcome numbers
-- that are left
pub data Turn : Type 0 where
  Ends : Ending → List ℕ → Turn
  Goes : TraceStep → Option ℕ → List ℕ → Turn

-- the state to which an action leads from a state by an outcome number: none where the number is
-- none of the action's outcomes, and where this outcome leads to no state
abbrev pub outcome_state : System → Vector → ℕ → ℕ → Option Vector
outcome_state sys s action word =
    if nat_lt word (sys.outcomes action) then sys.after s action word else None

-- the turn that has taken an outcome number, which leads to this state or to none; `context` says in
-- which context it goes on at a state
abbrev pub stepping : System → ℕ → Vector → ℕ → (Vector → Option ℕ) → ℕ → List ℕ → Option Vector
    → Turn
stepping sys number s action context word words None =
    Ends (Stray number word (sys.outcomes action)) words
stepping sys number s action context word words (Some t) =
    Goes (record { number = number; action = action; outcome = word; before = s; after = t })
    (context t) words

-- the turn in which the plan's action can be executed, and another step may be made
abbrev pub choosing : System → ContextPlan → ℕ → Vector → ℕ → ℕ → List ℕ → Turn
choosing sys plan number s c action [] = Ends Ended []
choosing sys plan number s c action (word ∷ words) =
    stepping sys number s action (plan.ctxt s c) word words (outcome_state sys s action word)

-- the turn in which the plan has this action, or none; `full` says that no further step may be made
abbrev pub acting : System → ContextPlan → Bool → ℕ → Vector → ℕ → Option ℕ → List ℕ → Turn
acting sys plan full number s c None words = Ends Terminal words
acting sys plan full number s c (Some action) words =
    if can_execute sys s action
    then (if full then Ends Capped words else choosing sys plan number s c action words)
    else Ends (Unexecutable number) words

-- the turn in a state, in this context, or in none
abbrev pub turn : System → ContextPlan → Bool → ℕ → Vector → Option ℕ → List ℕ → Turn
turn sys plan full number s None words = Ends Terminal words
turn sys plan full number s (Some c) words = acting sys plan full number s c (plan.act s c) words

-- a trace: its steps, its end, and the outcome numbers that are left
pub record Trace : Type 0 where
  pub steps : List TraceStep
  pub ending : Ending
  pub left : List ℕ

-- a step before a trace
abbrev pub after_step : TraceStep → Trace → Trace
after_step step trace =
    record { steps = step ∷ trace.steps; ending = trace.ending; left = trace.left }

-- the trace from a state and a context, of at most so many steps, the next of which has this number
unfoldable pub trace_from : System → ContextPlan → ℕ → ℕ → Vector → Option ℕ → List ℕ → Trace
trace_from sys plan zero number s context words = elim (turn sys plan true number s context words) [
  | Ends ending left ↦ record { steps = []; ending = ending; left = left }
  | Goes step next left ↦ record { steps = []; ending = Capped; left = left }
]
trace_from sys plan (suc most) number s context words =
    elim (turn sys plan false number s context words) [
      | Ends ending left ↦ record { steps = []; ending = ending; left = left }
      | Goes step next left ↦ after_step step
          (trace_from sys plan most (number + 1) step.after next left)
    ]

-- how many steps a trace has at most
abbrev pub most_steps : ℕ
most_steps = 1000000

-- the trace of a plan from a first state, in context 1
abbrev pub trace_of : System → ContextPlan → Vector → List ℕ → Trace
trace_of sys plan first words = trace_from sys plan most_steps 1 first (Some first_context) words

-- the context plan that is run
abbrev pub run_plan : PlainPlan → ContextPlan
run_plan plan = denoted_contexts (run_rules plan)
