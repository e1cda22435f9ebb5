-- The picture of a plan by its rules, in the DOT language: what is printed, byte for byte. The
-- configurations that one rule serves are one node, and an edge says what a step changes. A line that
-- several configurations or steps have in common stands once.
--
-- Example: a door that is opened and passed, where opening may fail:
--   digraph plan {
--     start [shape=point];
--     r0 [label="rule 0\n(not (open))\n(open-it)\n"];
--     start -> r0;
--     r0 -> r0 [label=""];
--     r0 -> r1 [label="+ (open)\n"];
--     ..
use Rattle.std.specs.Prelude.{ℕ, Bool, true, false, List, [], ◌∷◌, ◌++◌, Option, None, Some}
use Rattle.std.specs.Prelude.{codes, decimal, slice_get}
use Rattle.std.specs.List.{flat_map}
use Rattle.std.specs.Str.{bytes_eq}
use Rattle.indexmap.specs.IndexSet.{insert_all}
use Rattle.task_core.specs.Cubes.{Cube}
use Rattle.task_core.specs.Names.{Name}
use Rattle.task_core.specs.Vectors.{Vector, value_of}
use Rattle.task_core.specs.declared.literals.Lit.{Lit}
use Rattle.plan_picture.specs.Pictures.{PlainNode, PlainStep}
use Rattle.plan_picture.specs.Texts.{label_break, numbered, quoted}
use Rattle.plan_rules.specs.Rules.{PlainPlan}
use Rattle.plan_rules.specs.Texts.{atom_text, line_feed, literal_text, name_at}
use Rattle.rule_picture.specs.Rules.{SeenRule, rule_number, seen_rules}

-- the name of the node for what a rule serves; or of that for the goal states, or for the other states,
-- in which no rule counts
abbrev pub place_name : Option ℕ → Bool → List ℕ
place_name (Some number) goal = codes "r" ++ decimal number
place_name None true = codes "goal"
place_name None false = codes "end"

-- the name of the node for a configuration
abbrev pub name_for : List SeenRule → PlainNode → List ℕ
name_for rules node = place_name (rule_number rules node.configuration) node.goal

-- a line of a label with the context of a rule, where the plan has contexts
abbrev pub context_line : Option ℕ → List ℕ
context_line None = []
context_line (Some context) = codes "context " ++ decimal context ++ label_break

-- a line of a label a literal
abbrev pub literal_line : List Name → Lit → List ℕ
literal_line fluents lit = quoted (literal_text fluents lit) ++ label_break

abbrev pub cube_lines : List Name → Cube → List ℕ
cube_lines fluents cube = flat_map (literal_line fluents) cube

-- what is said of a rule, which are counted from 0, as: rule 3\n(at a)\n(go a b)\n
abbrev pub rule_label : List Name → List Name → ℕ → SeenRule → List ℕ
rule_label fluents actions number rule =
    codes "rule " ++ decimal number ++ label_break ++ context_line rule.context
    ++ cube_lines fluents rule.cube
    ++ quoted (atom_text (name_at actions rule.action)) ++ label_break

-- the same, where there is such a rule
abbrev pub label_of : List Name → List Name → ℕ → Option SeenRule → List ℕ
label_of fluents actions number None = []
label_of fluents actions number (Some rule) = rule_label fluents actions number rule

-- what the node for a rule looks like
abbrev pub rule_marks : List Name → List Name → ℕ → Option SeenRule → List ℕ
rule_marks fluents actions number rule =
    codes " [label=\"" ++ label_of fluents actions number rule ++ codes "\"];"

-- what the node for the goal states, or for the other states, looks like in which no rule counts
abbrev pub end_marks : (goal : Bool) → List ℕ
end_marks true = codes " [peripheries=2];"
end_marks false = codes " [shape=octagon style=dashed];"

-- what a node looks like
abbrev pub place_marks : List Name → List Name → List SeenRule → Option ℕ → Bool → List ℕ
place_marks fluents actions rules (Some number) goal =
    rule_marks fluents actions number (slice_get rules number)
place_marks fluents actions rules None goal = end_marks goal

-- the line of the node for a configuration
abbrev pub place_line : List Name → List Name → List SeenRule → PlainNode → List ℕ
place_line fluents actions rules node =
    codes "  " ++ name_for rules node
    ++ place_marks fluents actions rules (rule_number rules node.configuration) node.goal
    ++ line_feed

-- the line of an edge to where an execution may begin
abbrev pub start_line : List SeenRule → PlainNode → List ℕ
start_line rules node = codes "  start -> " ++ name_for rules node ++ codes ";" ++ line_feed

abbrev pub start_lines : List SeenRule → Bool → PlainNode → List (List ℕ)
start_lines rules true node = start_line rules node ∷ []
start_lines rules false node = []

-- a line of a label where a fluent becomes true, or false
abbrev pub change_line : Name → (old new : Bool) → List ℕ
change_line name false true = codes "+ " ++ quoted (atom_text name) ++ label_break
change_line name true false = codes "- " ++ quoted (atom_text name) ++ label_break
change_line name true true = []
change_line name false false = []

-- what changes from one state to another
abbrev pub change_lines : List Name → (old new : Vector) → List ℕ
change_lines fluents old new =
    numbered (λ i name. change_line name (value_of old i) (value_of new i)) 0 fluents

-- an edge between the nodes for two configurations, up to its label
abbrev pub edge_front : List SeenRule → PlainNode → PlainNode → List ℕ
edge_front rules from to =
    codes "  " ++ name_for rules from ++ codes " -> " ++ name_for rules to ++ codes " [label=\""

-- the line of an edge
abbrev pub edge_line : List Name → List SeenRule → PlainNode → PlainNode → List ℕ
edge_line fluents rules from to =
    edge_front rules from to
    ++ change_lines fluents from.configuration.state to.configuration.state
    ++ codes "\"];" ++ line_feed

-- the lines of a step; none where there is no such node
abbrev pub edge_lines : List Name → List SeenRule → PlainNode → Option PlainNode → List (List ℕ)
edge_lines fluents rules from None = []
edge_lines fluents rules from (Some to) = edge_line fluents rules from to ∷ []

abbrev pub step_lines : List Name → List SeenRule → List PlainNode → PlainNode → PlainStep
    → List (List ℕ)
step_lines fluents rules nodes from step =
    edge_lines fluents rules from (slice_get nodes step.target)

-- the lines for a configuration: its node, an edge where an execution may begin, and its steps
abbrev pub lines_for : List Name → List Name → List SeenRule → List PlainNode → PlainNode
    → List (List ℕ)
lines_for fluents actions rules nodes node =
    place_line fluents actions rules node
    ∷ start_lines rules node.initial node ++ flat_map (step_lines fluents rules nodes node) node.steps

-- the lines for all, each once, where it first stands
abbrev pub all_lines : List Name → List Name → List SeenRule → List PlainNode → List (List ℕ)
all_lines fluents actions rules nodes =
    insert_all bytes_eq [] (flat_map (lines_for fluents actions rules nodes) nodes)

-- the whole text: a first line, a point where executions begin, the lines, and a closing line
abbrev pub rules_text : List Name → List Name → PlainPlan → List PlainNode → List ℕ
rules_text fluents actions plan nodes =
    codes "digraph plan {" ++ line_feed ++ codes "  start [shape=point];" ++ line_feed
    ++ flat_map (λ (line : List ℕ). line) (all_lines fluents actions (seen_rules plan) nodes)
    ++ codes "}" ++ line_feed
