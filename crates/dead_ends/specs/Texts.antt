-- The text of a run of outcomes that are chosen, and of a dead end beside it: what is printed, byte for
-- byte.
use Rattle.std.specs.Prelude.{ℕ, ◌+◌, List, [], ◌∷◌, ◌++◌, codes, decimal}
use Rattle.dead_ends.specs.Strays.{PlainStray}
use Rattle.plan_rules.specs.Texts.{atom_text, line_feed, name_at, class_word}
use Rattle.plan_witness.specs.Runs.{PlainRun, PlainStep}
use Rattle.state_text.specs.Texts.{changes_text, true_text, number_text}
use Rattle.task_core.specs.Names.{Name}
use Rattle.task_core.specs.Vectors.{Vector}
use Rattle.task_core.specs.declared.classes.Class.{Class}

-- the lines before a run: what it is, and its initial state, as initial 0: (at a) (up)
abbrev pub head_lines : List Name → ℕ → Vector → List ℕ
head_lines fluents number state =
    codes "a shortest run to the goal, if outcomes could be chosen:" ++ line_feed
    ++ codes "initial " ++ decimal number ++ codes ":" ++ true_text fluents state ++ line_feed

-- the action and the outcome of a step, as (go a b), outcome 0
abbrev pub move_text : List Name → PlainStep → List ℕ
move_text actions step =
    atom_text (name_at actions step.action) ++ codes ", outcome " ++ decimal step.outcome ++ line_feed

-- the lines of a step from a state: what it is, and a line for each change
abbrev pub step_lines : List Name → List Name → ℕ → Vector → PlainStep → List ℕ
step_lines fluents actions number before step =
    number_text number ++ move_text actions step ++ changes_text fluents before step.after.state

-- the lines of steps from a state, of which the first has this number
abbrev pub steps_text : List Name → List Name → ℕ → Vector → List PlainStep → List ℕ
steps_text fluents actions number before [] = []
steps_text fluents actions number before (step ∷ steps) =
    step_lines fluents actions number before step
    ++ steps_text fluents actions (number + 1) step.after.state steps

-- the lines of a run from the initial state of this number
abbrev pub run_text : List Name → List Name → ℕ → PlainRun → List ℕ
run_text fluents actions number run =
    head_lines fluents number run.start.state
    ++ steps_text fluents actions 1 run.start.state run.steps

-- the step and the outcome of a dead end
abbrev pub place_text : PlainStray → List ℕ
place_text stray =
    codes "outcome " ++ decimal stray.outcome ++ codes " of step " ++ decimal (stray.step + 1)
    ++ codes " leads to a state without a "

-- the class for which it is a dead end, and its state
abbrev pub end_text : List Name → Class → Vector → List ℕ
end_text fluents class state =
    class_word class ++ codes " plan:" ++ true_text fluents state ++ line_feed

-- the line of a dead end, as outcome 1 of step 2 leads to a state without a strong plan: (at c)
abbrev pub dead_end_line : List Name → Class → PlainStray → List ℕ
dead_end_line fluents class stray = place_text stray ++ end_text fluents class stray.after
