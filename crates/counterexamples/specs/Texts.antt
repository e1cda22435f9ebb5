-- The text of a run with what is the matter at its end: what is printed, byte for byte.
use Rattle.std.specs.Prelude.{◌==◌, ◌&&◌, ◌+◌, ℕ, suc, Bool, true, List, [], ◌∷◌, ◌++◌, codes, decimal}
use Rattle.std.specs.Prelude.{if◌then◌else◌, length, false, None, Option, Some, slice_index_or}
use Rattle.std.specs.List.{flat_map}
use Rattle.counterexamples.specs.Findings.{Ending, PlainFound, again_from, comes_back, in_goal, never_ending}
use Rattle.goal_witness.specs.Texts.{false_lines}
use Rattle.counterexamples.specs.Findings.{goal_missed, never_in_goal, not_executable, outside_goal, without_next, without_rule}
use Rattle.counterexamples.specs.ForVerdicts.{PlainFinding}
use Rattle.counterexamples.specs.Stays.{PlainStays}
use Rattle.plan_rules.specs.Rules.{PlainPlan, PlanRule, automaton, table}
use Rattle.plan_rules.specs.Texts.{atom_text, line_feed, name_at}
use Rattle.plan_witness.specs.Runs.{PlainRun, PlainStep}
use Rattle.state_text.specs.Texts.{after_space, changes_text, conditions_text, number_text, true_text}
use Rattle.task_core.specs.Cubes.{matches}
use Rattle.task_core.specs.Names.{Name}
use Rattle.task_core.specs.Vectors.{Vector}
use Rattle.task_core.specs.declared.conditions.Cond.{Cond}

-- the line of the initial state, as initial 0: (at a) (up)
abbrev pub initial_line : List Name → ℕ → Vector → List ℕ
initial_line fluents number state =
    codes "initial " ++ decimal number ++ codes ":" ++ true_text fluents state ++ line_feed

-- what a text takes its words from: the names of fluents and actions, the plan, and the line of each of
-- its rules
pub record Source : Type 0 where
  pub fluents : List Name
  pub actions : List Name
  pub plan : PlainPlan
  pub lines : List ℕ

-- the line in which a rule begins
abbrev pub line_of : Source → ℕ → ℕ
line_of source rule = slice_index_or source.lines rule 0

-- a rule, as rule 2 (line 4)
abbrev pub rule_text : Source → ℕ → List ℕ
rule_text source rule =
    codes "rule " ++ decimal rule ++ codes " (line " ++ decimal (line_of source rule) ++ codes ")"

-- the context to which a step leads, where the plan has contexts
abbrev pub context_note : PlainPlan → ℕ → List ℕ
context_note (table class rules) context = []
context_note (automaton contexts rules) context = codes ", context " ++ decimal context

-- the rule, the action and the outcome of a step, as rule 2 (line 4): (go a b), outcome 0
abbrev pub move_text : Source → PlainStep → List ℕ
move_text source step =
    rule_text source step.rule ++ codes ": " ++ atom_text (name_at source.actions step.action)
    ++ codes ", outcome " ++ decimal step.outcome

-- the lines of a step from a state: what it is, and a line for each change
abbrev pub step_lines : Source → ℕ → Vector → PlainStep → List ℕ
step_lines source number before step =
    number_text number ++ move_text source step ++ context_note source.plan step.after.context
    ++ line_feed ++ changes_text source.fluents before step.after.state

-- the lines of steps, of which the first has this number
abbrev pub steps_text : Source → ℕ → Vector → List PlainStep → List ℕ
steps_text source number before [] = []
steps_text source number before (step ∷ steps) =
    step_lines source number before step
    ++ steps_text source (number + 1) step.after.state steps

-- which parts of a precondition are false; where none is, it holds
abbrev pub refusal_note : List Name → List Cond → List ℕ
refusal_note fluents [] = codes "though its precondition holds"
refusal_note fluents (part ∷ parts) =
    codes "false is" ++ conditions_text fluents (part ∷ parts)

-- that a run is back where it was before the step of this number, counted from 1
abbrev pub back_text : Option ℕ → List ℕ
back_text None = codes "some run from here comes back here"
back_text (Some number) =
    codes "the run is back where it was before step " ++ decimal number
    ++ codes ", and may go on so for ever"

-- which goal is false: the problem's; or, where actions may be tried again, the one that stands for it
abbrev pub missed_text : Bool → List ℕ
missed_text false = codes "the problem's goal is false in the initial state:"
missed_text true =
    codes "the problem's goal, rewritten for actions that may be tried again, is false in the initial state:"

-- a new line for a run that comes round
abbrev pub round_text : Option ℕ → List ℕ
round_text None = []
round_text (Some number) = line_feed ++ back_text (Some number)

-- what is the matter at the end of a run
abbrev pub ending_text : Source → Option ℕ → Ending → List ℕ
ending_text source again in_goal = codes "the plan ends here, in the goal"
ending_text source again (outside_goal parts) =
    codes "the plan ends here, outside the goal: false is" ++ conditions_text source.fluents parts
ending_text source again (not_executable rule action parts) =
    rule_text source rule ++ codes " counts here, but "
    ++ atom_text (name_at source.actions action) ++ codes " can't be executed: "
    ++ refusal_note source.fluents parts
ending_text source again without_rule = codes "the context has no rule for this state"
ending_text source again (without_next rule action outcome) =
    rule_text source rule ++ codes " counts here, but has no next context for outcome "
    ++ decimal outcome ++ codes " of " ++ atom_text (name_at source.actions action)
ending_text source again comes_back = back_text again
ending_text source again never_in_goal = codes "no run from here ends in the goal"
ending_text source again never_ending = codes "no run from here ends"
ending_text source again (goal_missed fair lines) =
    missed_text fair ++ false_lines source.fluents lines ++ round_text again

abbrev pub sentence : Source → PlainFound → List ℕ
sentence source found = ending_text source (again_from found) found.ending

-- the number of the first rule that matches a state
abbrev pub first_match : List PlanRule → Vector → ℕ
first_match [] state = 0
first_match (rule ∷ rules) state =
    if matches rule.cube state then 0 else suc (first_match rules state)

-- whether each step takes the first rule that matches
abbrev pub takes_first : List PlanRule → Vector → List PlainStep → Bool
takes_first rules state [] = true
takes_first rules state (step ∷ steps) =
    (first_match rules state == step.rule) && takes_first rules step.after.state steps

-- whether a run takes the rules that a replay of its record takes: an automaton leaves no choice
abbrev pub is_recorded : PlainPlan → PlainRun → Bool
is_recorded (table class rules) run = takes_first rules run.start.state run.steps
is_recorded (automaton contexts rules) run = true

-- the outcome numbers of steps, each after a space
abbrev pub outcomes_text : List PlainStep → List ℕ
outcomes_text = flat_map (λ step. after_space (decimal step.outcome))

-- the record of a run, as (record 0 1 0); or that there is none
abbrev pub record_line : PlainPlan → ℕ → PlainRun → List ℕ
record_line plan number run =
    (if is_recorded plan run
    then codes "(record " ++ decimal number ++ outcomes_text run.steps ++ codes ")"
    else codes "no record: some step takes a rule that isn't the first that matches") ++ line_feed

-- a comma and a space before each place but the first
abbrev pub gap_text : ℕ → List ℕ
gap_text place = if place == 0 then [] else codes ", "

-- numbers, of which the first stands at this place, each after a gap
abbrev pub numbers_from : ℕ → List ℕ → List ℕ
numbers_from place [] = []
numbers_from place (number ∷ numbers) =
    gap_text place ++ decimal number ++ numbers_from (place + 1) numbers

abbrev pub numbers_text : List ℕ → List ℕ
numbers_text = numbers_from 0

-- how many numbers are left, where some are
abbrev pub more_text : ℕ → List ℕ
more_text more = if more == 0 then [] else codes " and " ++ decimal more ++ codes " more"

-- a word for so many, with an s at its end unless it is one
abbrev pub word_for : ℕ → List ℕ → List ℕ
word_for count word = if count == 1 then word else word ++ codes "s"

-- in which states the plan stays, by their numbers, as one line
abbrev pub stays_line : Option PlainStays → List ℕ
stays_line None = []
stays_line (Some stays) =
    codes "from here the plan stays in " ++ word_for (length stays.numbers) (codes "state") ++ codes " "
    ++ numbers_text stays.numbers ++ more_text stays.more ++ line_feed

-- the whole text of a run: the initial state, the steps, what is the matter at the end, where the plan
-- stays from there on, if that is told, and the record
abbrev pub found_text : Source → Option PlainStays → PlainFound → List ℕ
found_text source stays found =
    initial_line source.fluents found.number found.run.start.state
    ++ steps_text source 1 found.run.start.state found.run.steps
    ++ sentence source found ++ line_feed
    ++ stays_line stays
    ++ record_line source.plan found.number found.run

-- the text of a run that shows a verdict, where there is one
abbrev pub run_text : Source → Option PlainStays → Option PlainFound → List ℕ
run_text source stays None = []
run_text source stays (Some found) = found_text source stays found

-- how many steps a longest run has, as one line
abbrev pub length_line : ℕ → List ℕ
length_line steps =
    codes "a longest run has " ++ decimal steps ++ codes " " ++ word_for steps (codes "step") ++ codes ":"
    ++ line_feed

-- the text of a longest run, where there is one
abbrev pub longest_text : Source → Option PlainFound → List ℕ
longest_text source None = []
longest_text source (Some found) =
    length_line (length found.run.steps) ++ found_text source None found

-- the text of what is told of a verdict
abbrev pub finding_text : Source → PlainFinding → List ℕ
finding_text source finding =
    run_text source finding.stays finding.run ++ longest_text source finding.longest
