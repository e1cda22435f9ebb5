-- The text of a run: a line a step, a line that says how the run ended, and a line a monitor.
use Rattle.std.specs.Prelude.{ℕ, List, [], ◌++◌, codes, decimal, map, sum}
use Rattle.std.specs.List.{flat_map}
use Rattle.task_core.specs.Names.{Name}
use Rattle.plan_rules.specs.Texts.{atom_text, line_feed, name_at}
use Rattle.run_replay.specs.declared.worlds.Step.{Step}
use Rattle.run_replay.specs.Watching.{MonitorData}
use Rattle.run_replay.specs.Traces.{TraceStep, Ending, Terminal, Ended, Capped, Stray, Unexecutable}

-- as: step 3 (go a b) outcome 0
abbrev pub step_line : List Name → TraceStep → List ℕ
step_line actions step =
    codes "step " ++ decimal step.number ++ codes " " ++ atom_text (name_at actions step.action)
    ++ codes " outcome "
    ++ decimal step.outcome ++ line_feed

-- the word for an end; a run that is refused has no text
abbrev pub ending_word : Ending → List ℕ
ending_word Terminal = codes "terminal"
ending_word Ended = codes "record"
ending_word Capped = codes "cap"
ending_word (Stray step word outcomes) = []
ending_word (Unexecutable step) = []

-- as: end record
abbrev pub end_line : Ending → List ℕ
end_line ending = codes "end " ++ ending_word ending ++ line_feed

-- a title and a tally, as: tally steps 3
abbrev pub tally_line : List ℕ → ℕ → List ℕ
tally_line title tally = codes "tally " ++ title ++ codes " " ++ decimal tally ++ line_feed

-- the lines of the steps, and that of the end
abbrev pub trace_text : List Name → List TraceStep → Ending → List ℕ
trace_text actions steps ending = flat_map (step_line actions) steps ++ end_line ending

-- the lines of monitors: the title of each, and its tally
abbrev pub tally_lines : List MonitorData → List ℕ
tally_lines = flat_map (λ (monitor : MonitorData). tally_line monitor.title monitor.counted)

-- the lines of monitors that had counted nothing, after these steps: the title of each, and the sum
-- of its weights
abbrev pub tallies_of : List MonitorData → List Step → List ℕ
tallies_of monitors steps =
    flat_map (λ (monitor : MonitorData).
    tally_line monitor.title (sum (map monitor.weight steps))) monitors
