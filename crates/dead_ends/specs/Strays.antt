-- The outcomes that leave a run.
use Rattle.std.specs.Prelude.{ℕ, ◌+◌, ◌&&◌, Bool, true, false, not, List, [], ◌∷◌, ◌++◌, None, Option, Some}
use Rattle.std.specs.Prelude.{if◌then◌else◌, map}
use Rattle.std.specs.List.{filter_map, list_any, range_with_len}
use Rattle.std.specs.Option.{option_and_then}
use Rattle.plan_witness.specs.Runs.{PlainRun, PlainStep}
use Rattle.task_core.specs.Systems.{System}
use Rattle.task_core.specs.Vectors.{Vector, same_vector}

-- an outcome that leaves a run: the number of the step, the number of the outcome among all outcomes of
-- the step's action, both counted from 0, and the state to which it leads
pub record PlainStray : Type 0 where
  pub step : ℕ
  pub outcome : ℕ
  pub after : Vector

-- the states to which a run comes, the one in which it begins among them
abbrev pub run_states : PlainRun → List Vector
run_states run = run.start.state ∷ map (λ (step : PlainStep). step.after.state) run.steps

-- whether an outcome of a step to this state leaves a run that comes to these states: away from them; or
-- back to one of them, but to another than the step's own
abbrev pub leaves : List Vector → (back : Bool) → PlainStep → Vector → Bool
leaves states false step after = not (list_any (same_vector after) states)
leaves states true step after =
    list_any (same_vector after) states && not (same_vector after step.after.state)

-- an outcome of a step to this state, where it leaves the run
abbrev pub stray_to : List Vector → (back : Bool) → ℕ → PlainStep → ℕ → Vector → Option PlainStray
stray_to states back number step outcome after =
    if leaves states back step after
    then Some (record { step = number; outcome = outcome; after = after }) else None

-- the outcome of a number of a step from this state, where it leads to a state and leaves the run
abbrev pub stray_by : System → List Vector → (back : Bool) → ℕ → Vector → PlainStep → ℕ
    → Option PlainStray
stray_by sys states back number before step outcome =
    option_and_then (stray_to states back number step outcome)
    (sys.after before step.action outcome)

-- the outcomes of a step from this state that leave the run, by their numbers, rising
abbrev pub strays_at : System → List Vector → (back : Bool) → ℕ → Vector → PlainStep
    → List PlainStray
strays_at sys states back number before step =
    filter_map (stray_by sys states back number before step)
    (range_with_len 0 (sys.outcomes step.action))

-- those of steps from this state, of which the first has this number
abbrev pub strays_from : System → List Vector → (back : Bool) → ℕ → Vector → List PlainStep
    → List PlainStray
strays_from sys states back number before [] = []
strays_from sys states back number before (step ∷ steps) =
    strays_at sys states back number before step
    ++ strays_from sys states back (number + 1) step.after.state steps

-- those of a run: first those that lead away from its states, and then those that lead back to them
abbrev pub run_strays : System → PlainRun → List PlainStray
run_strays sys run =
    strays_from sys (run_states run) false 0 run.start.state run.steps
    ++ strays_from sys (run_states run) true 0 run.start.state run.steps
