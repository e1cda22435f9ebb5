-- The JSON document of a verdict on a plan and the run that shows it. Names stand in it as in the text of
-- a plan, and an object has its members in the order of their keys.
use Rattle.std.specs.Prelude.{ℕ, zero, suc, Bool, true, false, not, ◌&&◌, if◌then◌else◌, List, [], ◌∷◌}
use Rattle.std.specs.Prelude.{◌++◌, None, Option, Some, codes, length}
use Rattle.std.specs.Option.{option_map_or}
use Rattle.serde_json.specs.Data.{Data, array, member, no_items, no_members, null, object, string}
use Rattle.serde_json.specs.View.{items_of}
use Rattle.serde_json.specs.Written.{compact_text}
use Rattle.plan_document.specs.Data.{count_data, list_data}
use Rattle.plan_document.specs.Names.{name_data}
use Rattle.goal_witness.specs.Lines.{PlainLine}
use Rattle.goal_witness.specs.Texts.{goal_text}
use Rattle.counterexamples.specs.Findings.{PlainFound, cycle_from as cycle_of, lines_in}
use Rattle.counterexamples.specs.ForVerdicts.{PlainFinding}
use Rattle.counterexamples.specs.Stays.{PlainStays}
use Rattle.counterexamples.specs.Texts.{Source, line_of, sentence as sentence_of}
use Rattle.plan_rules.specs.Texts.{line_feed, name_at}
use Rattle.plan_witness.specs.Runs.{PlainStep}
use Rattle.task_core.specs.Names.{Name}
use Rattle.task_core.specs.Vectors.{Vector, value_of}

-- whether a value became true, or became false
abbrev pub changed_to : Bool → (before after : Bool) → Bool
changed_to made before after = if made then not before && after else before && not after

-- the numbers below a bound of the fluents that became true from one state to another, or became false,
-- in rising order
abbrev pub changed_below : Bool → (before after : Vector) → ℕ → List ℕ
changed_below made before after zero = []
changed_below made before after (suc i) =
    changed_below made before after i
    ++ (if changed_to made (value_of before i) (value_of after i) then i ∷ [] else [])

abbrev pub fluent_data : List Name → ℕ → Data
fluent_data fluents i = name_data (name_at fluents i)

-- the names of these fluents
abbrev pub changed_data : List Name → Bool → (before after : Vector) → Data
changed_data fluents made before after =
    list_data (fluent_data fluents) (changed_below made before after (length fluents))

-- a step from a state: its action, the fluents that it makes true, the context to which it leads, the
-- line of its rule, the number of its outcome, the fluents that it makes false, and the number of its rule
abbrev pub step_data : Source → Vector → PlainStep → Data
step_data source before step =
    object (member (codes "action") (name_data (name_at source.actions step.action))
    (member (codes "added") (changed_data source.fluents true before step.after.state)
    (member (codes "context") (count_data step.after.context)
    (member (codes "line") (count_data (line_of source step.rule))
    (member (codes "outcome") (count_data step.outcome)
    (member (codes "removed") (changed_data source.fluents false before step.after.state)
    (member (codes "rule") (count_data step.rule) no_members)))))))

-- steps, the first of them from this state
abbrev pub steps_data : Source → Vector → List PlainStep → List Data
steps_data source before [] = []
steps_data source before (step ∷ steps) =
    step_data source before step ∷ steps_data source step.after.state steps

-- where a goal is false: after how many steps from the start it is first and last false, and its text
abbrev pub line_data : List Name → PlainLine → Data
line_data fluents line =
    object (member (codes "from") (count_data line.from)
    (member (codes "goal") (string (goal_text fluents line.goal))
    (member (codes "last") (count_data line.last) no_members)))

-- which goals are false where along the run
abbrev pub parts_data : Source → PlainFound → Data
parts_data source found = list_data (line_data source.fluents) (lines_in found.ending)

abbrev pub outcome_data : PlainStep → Data
outcome_data step = count_data step.outcome

abbrev pub rule_data : PlainStep → Data
rule_data step = count_data step.rule

-- a longest run: the number of its initial state, and its outcomes, rules and steps
abbrev pub longest_data : Source → PlainFound → Data
longest_data source found =
    object (member (codes "initial") (count_data found.number)
    (member (codes "outcomes") (list_data outcome_data found.run.steps)
    (member (codes "rules") (list_data rule_data found.run.steps)
    (member (codes "steps") (array (items_of (steps_data source found.run.start.state found.run.steps)))
    no_members))))

-- in which states a plan stays: how many are left, and the numbers of the first ones
abbrev pub stays_data : PlainStays → Data
stays_data stays =
    object (member (codes "more") (count_data stays.more)
    (member (codes "states") (list_data count_data stays.numbers) no_members))

-- what is told of the run that shows a verdict
pub record Told : Type 0 where
  pub cycle_from : Data
  pub initial : Data
  pub outcomes : Data
  pub parts : Data
  pub rules : Data
  pub sentence : Data
  pub steps : Data

-- of a run; where there is none, nothing
abbrev pub told_of : Source → Option PlainFound → Told
told_of source None = record {
  cycle_from = null;
  initial = null;
  outcomes = array no_items;
  parts = array no_items;
  rules = array no_items;
  sentence = null;
  steps = array no_items;
}
told_of source (Some found) = record {
  cycle_from = option_map_or count_data (cycle_of found) null;
  initial = count_data found.number;
  outcomes = list_data outcome_data found.run.steps;
  parts = parts_data source found;
  rules = list_data rule_data found.run.steps;
  sentence = string (sentence_of source found);
  steps = array (items_of (steps_data source found.run.start.state found.run.steps));
}

-- what is told besides the run, or null
pub record Besides : Type 0 where
  pub longest : Data
  pub stays : Data

abbrev pub besides_of : Source → PlainFinding → Besides
besides_of source finding = record {
  longest = option_map_or (longest_data source) finding.longest null;
  stays = option_map_or stays_data finding.stays null;
}

abbrev pub told_object : List ℕ → Told → Besides → Data
told_object verdict told besides =
    object (member (codes "cycle_from") told.cycle_from
    (member (codes "initial") told.initial
    (member (codes "longest") besides.longest
    (member (codes "outcomes") told.outcomes
    (member (codes "parts") told.parts
    (member (codes "rules") told.rules
    (member (codes "sentence") told.sentence
    (member (codes "stays") besides.stays
    (member (codes "steps") told.steps
    (member (codes "verdict") (string verdict) no_members))))))))))

-- the document of a verdict in these words, and of what is told of it
abbrev pub document : Source → List ℕ → PlainFinding → Data
document source verdict finding =
    told_object verdict (told_of source finding.run) (besides_of source finding)

-- its text: without spaces, in one line with a line feed at its end
abbrev pub document_text : Source → List ℕ → PlainFinding → List ℕ
document_text source verdict finding = compact_text (document source verdict finding) ++ line_feed
