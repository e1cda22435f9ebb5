-- The text of the run that a record has: what is printed, byte for byte.
use Rattle.std.specs.Prelude.{ℕ, List, [], ◌∷◌, ◌++◌, None, Option, Some, codes, decimal}
use Rattle.std.specs.Prelude.{if◌then◌else◌, nat_lt}
use Rattle.std.specs.List.{flat_map}
use Rattle.task_core.specs.Names.{Name}
use Rattle.task_core.specs.Vectors.{Vector}
use Rattle.task_core.specs.declared.conditions.Cond.{Cond}
use Rattle.plan_rules.specs.Rules.{PlainPlan, automaton, table}
use Rattle.plan_rules.specs.Texts.{atom_text, line_feed, name_at}
use Rattle.counterexamples.specs.Texts.{Source, initial_line}
use Rattle.counterexamples.specs.Texts.{refusal_note, rule_text}
use Rattle.state_text.specs.Texts.{changes_text, conditions_text, number_text}
use Rattle.trace.specs.RecordedRuns.{PlainRecorded, RuledStep, Stop}
use Rattle.trace.specs.RecordedRuns.{most_made, no_outcome, not_executable, plan_ends, record_ends}

-- a rule and its action, as rule 2 (line 4): (go a b)
abbrev pub act_text : Source → (rule action : ℕ) → List ℕ
act_text source rule action =
    rule_text source rule ++ codes ": " ++ atom_text (name_at source.actions action)

-- the context to which a step leads, or that there is none
abbrev pub onward_note : Option ℕ → List ℕ
onward_note None = codes ", no next context"
onward_note (Some context) = codes ", context " ++ decimal context

-- the same, where the plan has contexts
abbrev pub next_note : PlainPlan → Option ℕ → List ℕ
next_note (table class rules) context = []
next_note (automaton contexts rules) context = onward_note context

-- the rule, the action and the outcome of a step, as rule 2 (line 4): (go a b), outcome 0
abbrev pub move_text : Source → RuledStep → List ℕ
move_text source made =
    act_text source made.rule made.step.action ++ codes ", outcome " ++ decimal made.step.outcome

-- the lines of a step: what it is, as step 3, rule 2 (line 4): (go a b), outcome 0, and a line for each
-- change
abbrev pub made_lines : Source → RuledStep → List ℕ
made_lines source made =
    number_text made.step.number ++ move_text source made ++ next_note source.plan made.context
    ++ line_feed ++ changes_text source.fluents made.step.before made.step.after

-- the lines of steps
abbrev pub mades_text : Source → List RuledStep → List ℕ
mades_text source = flat_map (made_lines source)

-- that a rule counts, but
abbrev pub counts_text : Source → ℕ → List ℕ
counts_text source rule = rule_text source rule ++ codes " counts here, but "

-- where the plan ends: in the goal, or outside it, where these parts of it are false
abbrev pub goal_text : List Name → List Cond → List ℕ
goal_text fluents [] = codes "the plan ends here, in the goal"
goal_text fluents (part ∷ parts) =
    codes "the plan ends here, outside the goal: false is" ++ conditions_text fluents (part ∷ parts)

-- an outcome leads to no state
abbrev pub excluded_text : List Name → (action word : ℕ) → List ℕ
excluded_text actions action word =
    codes "outcome " ++ decimal word ++ codes " of " ++ atom_text (name_at actions action)
    ++ codes " leads to a state that the invariant excludes"

-- the number is none of an action's outcomes, of which there are so many
abbrev pub beyond_text : List Name → (action word outcomes : ℕ) → List ℕ
beyond_text actions action word outcomes =
    atom_text (name_at actions action) ++ codes " has no outcome " ++ decimal word
    ++ codes ": it has " ++ decimal outcomes ++ codes ", counted from 0"

-- the record's outcome, which is none of the action's, or leads to no state
abbrev pub word_text : List Name → (action word outcomes : ℕ) → List ℕ
word_text actions action word outcomes =
    if nat_lt word outcomes
    then excluded_text actions action word
    else beyond_text actions action word outcomes

-- why a run stops
abbrev pub stop_text : Source → Stop → List ℕ
stop_text source (plan_ends None) = codes "the plan ends here: no rule matches"
stop_text source (plan_ends (Some parts)) = goal_text source.fluents parts
stop_text source (record_ends rule action) =
    codes "the record ends here: next is " ++ act_text source rule action
stop_text source most_made = codes "the run stops here: no run has more steps"
stop_text source (no_outcome rule action word outcomes) =
    counts_text source rule ++ word_text source.actions action word outcomes
stop_text source (not_executable rule action parts) =
    counts_text source rule ++ atom_text (name_at source.actions action)
    ++ codes " can't be executed: " ++ refusal_note source.fluents parts

-- the whole text: the initial state of this number, the steps, and why the run stops
abbrev pub recorded_text : Source → ℕ → Vector → PlainRecorded → List ℕ
recorded_text source number first run =
    initial_line source.fluents number first ++ mades_text source run.steps
    ++ stop_text source run.stop ++ line_feed
