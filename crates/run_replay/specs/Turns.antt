-- Private: one turn, as the code holds it.
use Rattle.std.specs.Prelude.{◌≡◌, ℕ, Bool, if◌then◌else◌, List, [], ◌∷◌, Option, Some}
use Rattle.std.specs.Prelude.{None, ⊤}
use Rattle.run_replay.specs.declared.turns.Turn.{Turn as CodeTurn}
use Rattle.run_replay.specs.declared.turns.Turn.TheVariants.{Ends as CodeEnds, Refuses}
use Rattle.run_replay.specs.declared.turns.Turn.TheVariants.{Goes as CodeGoes}
use Rattle.run_replay.specs.declared.traces.RunErr.{RunErr}
use Rattle.run_replay.specs.declared.traces.RunErr.TheVariants.{StrayOutcome}
use Rattle.run_replay.specs.declared.traces.RunErr.TheVariants.{Unexecutable as UnexecutableErr}
use Rattle.run_replay.specs.declared.traces.RunErr.TheVariants.{Memory}
use Rattle.run_replay.specs.Runs.{IsStepOf, step_value, ending_of}
use Rattle.run_replay.specs.Traces.{Ending, Turn, Ends, Goes, Terminal, Ended, Capped, Stray}
use Rattle.run_replay.specs.Traces.{Unexecutable, outcome_state, stepping}
use Rattle.task_core.specs.Vectors.{Vector}
use Rattle.task_core.specs.Systems.{System}
use Rattle.plan_rules.specs.Denoted.{can_execute, next_context}
use Rattle.plan_rules.specs.Advices.{Advised}

-- Private: the refusal has the trace's end; a turn takes no memory
abbrev pub IsRefusal : RunErr → Ending → Type 0
IsRefusal (StrayOutcome step word outcomes) ending = ending ≡ Stray step word outcomes
IsRefusal (UnexecutableErr step) ending = ending ≡ Unexecutable step
IsRefusal Memory ending = ⊥

-- Private: the code's turn is this turn, after which these outcome numbers are left
abbrev pub IsTurn : ℕ → CodeTurn → List ℕ → Turn → Type 0
IsTurn n (CodeEnds end) left turn = turn ≡ Ends (ending_of end) left
IsTurn n (Refuses refusal) left turn =
    (ending : Ending) × (turn ≡ Ends ending left) × IsRefusal refusal ending
IsTurn n (CodeGoes step context) left turn = turn ≡ Goes (step_value n step) context left

-- Private: the step, where one is made, is one of a task with n fluents and m actions
abbrev pub MakesStepOf : ℕ → ℕ → CodeTurn → Type 0
MakesStepOf n m (CodeEnds end) = ⊤
MakesStepOf n m (Refuses refusal) = ⊤
MakesStepOf n m (CodeGoes step context) = IsStepOf n m step

-- Private: the turn in which an action is taken that can be executed
abbrev pub taking : System → ℕ → Vector → Advised → List ℕ → Turn
taking sys number s a [] = Ends Ended []
taking sys number s a (word ∷ words) =
    stepping sys number s a.action (next_context a.next) word words
    (outcome_state sys s a.action word)

-- Private: the turn in which this is what counts, or nothing
abbrev pub turn_by : System → Bool → ℕ → Vector → List ℕ → Option Advised → Turn
turn_by sys full number s words None = Ends Terminal words
turn_by sys full number s words (Some a) =
    if can_execute sys s a.action
    then (if full then Ends Capped words else taking sys number s a words)
    else Ends (Unexecutable number) words
