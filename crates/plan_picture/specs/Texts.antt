-- The text of a picture of a plan in the DOT language: what is printed, byte for byte.
use Rattle.std.specs.Prelude.{ℕ, suc, ◌==◌, Bool, true, false, ◌&&◌, ◌||◌, not, List, [], ◌∷◌, ◌++◌, length}
use Rattle.std.specs.Prelude.{◌≡◌, ◌⊎◌, ◌<◌, codes, decimal, if◌then◌else◌, map, nat_lt, slice_index_or}
use Rattle.std.specs.List.{flat_map, list_any}
use Rattle.task_core.specs.Names.{Name}
use Rattle.task_core.specs.Vectors.{Vector, value_of}
use Rattle.plan_picture.specs.Pictures.{PlainNode, PlainStep}
use Rattle.plan_picture.specs.Runs.{PlainEdge}
use Rattle.plan_rules.specs.Rules.{PlainPlan, table, automaton}
use Rattle.plan_rules.specs.Texts.{atom_text, line_feed}

-- what is printed of each of a list's elements, which are numbered from k on
abbrev pub numbered : {X : Type 0} → (ℕ → X → List ℕ) → ℕ → List X → List ℕ
numbered part k [] = []
numbered part k (x ∷ xs) = part k x ++ numbered part (suc k) xs

-- within quotes a quote and a backslash have a backslash before them
abbrev pub needs_backslash : ℕ → Bool
needs_backslash byte = (byte == 34) || (byte == 92)

abbrev pub quoted_byte : ℕ → List ℕ
quoted_byte byte = if needs_backslash byte then 92 ∷ byte ∷ [] else byte ∷ []

abbrev pub quoted : List ℕ → List ℕ
quoted = flat_map quoted_byte

-- the end of a line within a label
abbrev pub label_break : List ℕ
label_break = codes "\\n"

-- a name within quotes, as (at a)
abbrev pub name_label : Name → List ℕ
name_label name = quoted (atom_text name)

-- the label of a number; the empty one past the last
abbrev pub label_at : List (List ℕ) → ℕ → List ℕ
label_at labels i = slice_index_or labels i []

-- a line with the label of a fluent, if it is true
abbrev pub fluent_line : List ℕ → Bool → List ℕ
fluent_line label false = []
fluent_line label true = label ++ label_break

-- the true fluents of a state, one a line
abbrev pub fluent_lines : List (List ℕ) → Vector → List ℕ
fluent_lines labels state =
    numbered (λ i label. fluent_line label (value_of state i)) 0 labels

-- a line with the context, where contexts are told
abbrev pub context_line : Bool → ℕ → List ℕ
context_line false context = []
context_line true context = codes "context " ++ decimal context ++ label_break

-- the plan is stuck at a node: it has no steps there, and the node is in no goal state
abbrev pub is_stuck : (goal : Bool) → List PlainStep → Bool
is_stuck goal steps = (length steps == 0) && not goal

-- the shape: a box where an execution may begin; otherwise an octagon where the plan is stuck, and
-- an ellipse where it isn't
abbrev pub shape_word : (initial stuck : Bool) → List ℕ
shape_word true stuck = codes "box"
shape_word false true = codes "octagon"
shape_word false false = codes "ellipse"

-- the border: double in a goal state; dashed where the plan is stuck
abbrev pub border_words : (goal stuck : Bool) → List ℕ
border_words true stuck = codes " peripheries=2"
border_words false true = codes " style=dashed"
border_words false false = []

-- the shape and the border of a node, as: a space, [shape=box peripheries=2
abbrev pub marks_text : (initial goal : Bool) → List PlainStep → List ℕ
marks_text initial goal steps =
    codes " [shape=" ++ shape_word initial (is_stuck goal steps)
    ++ border_words goal (is_stuck goal steps)

-- the label of a node, as: a space, label="(at a)\n"
abbrev pub label_text : Bool → List (List ℕ) → ℕ → Vector → List ℕ
label_text tells_contexts fluents context state =
    codes " label=\"" ++ context_line tells_contexts context ++ fluent_lines fluents state
    ++ codes "\""

-- the line of a node, as: two spaces, n0 [shape=box label="(at a)\n"];
abbrev pub node_line : Bool → List (List ℕ) → ℕ → PlainNode → List ℕ
node_line tells_contexts fluents number node =
    codes "  n" ++ decimal number ++ marks_text node.initial node.goal node.steps
    ++ label_text tells_contexts fluents node.configuration.context node.configuration.state
    ++ codes "];" ++ line_feed

-- a step from the node of this number is the step of an edge
abbrev pub is_step_of : ℕ → PlainStep → PlainEdge → Bool
is_step_of number step edge =
    (number == edge.from) && (step.action == edge.step.action) && (step.outcome == edge.step.outcome)

-- a step from the node of this number is on a run with these edges
abbrev pub is_on : List PlainEdge → ℕ → PlainStep → Bool
is_on edges number step = list_any (is_step_of number step) edges

-- what is said of a step that is on the run that is shown
abbrev pub run_words : Bool → List ℕ
run_words false = []
run_words true = codes " color=blue style=bold"

-- the line of a step from the node of this number, as: two spaces, n0 -> n1 [label="(go a b) 0"];
abbrev pub step_line : List (List ℕ) → (shown : Bool) → ℕ → PlainStep → List ℕ
step_line actions shown number step =
    codes "  n" ++ decimal number ++ codes " -> n" ++ decimal step.target ++ codes " [label=\""
    ++ label_at actions step.action ++ codes " " ++ decimal step.outcome
    ++ codes "\"" ++ run_words shown ++ codes "];" ++ line_feed

-- the lines of the steps from a node
abbrev pub step_lines : List (List ℕ) → (ℕ → PlainStep → Bool) → ℕ → PlainNode → List ℕ
step_lines actions shown number node =
    flat_map (λ step. step_line actions (shown number step) number step) node.steps

-- the whole text: a first line, a line a node, a line a step, and a closing line
abbrev pub graph_text : Bool → (fluents actions : List (List ℕ)) → (ℕ → PlainStep → Bool)
    → List PlainNode → List ℕ
graph_text tells_contexts fluents actions shown nodes =
    codes "digraph plan {" ++ line_feed
    ++ numbered (node_line tells_contexts fluents) 0 nodes
    ++ numbered (step_lines actions shown) 0 nodes
    ++ codes "}" ++ line_feed

-- a table has one context alone, which isn't told
abbrev pub has_contexts : PlainPlan → Bool
has_contexts (table class rules) = false
has_contexts (automaton contexts rules) = true

-- the text of a picture of the plan, on which a run with these edges is shown
abbrev pub picture_text : List Name → List Name → PlainPlan → List PlainNode → List PlainEdge → List ℕ
picture_text fluents actions plan nodes edges =
    graph_text (has_contexts plan) (map name_label fluents) (map name_label actions) (is_on edges) nodes

-- how many bytes a name may have within quotes, since `dot` may refuse a longer one, and how many the text
-- of a picture may have
abbrev pub most_in_name : ℕ
most_in_name = 4096

abbrev pub most_in_text : ℕ
most_in_text = 67108864

abbrev pub is_long_name : Name → Bool
is_long_name name = nat_lt most_in_name (length (name_label name))

-- some fluent or action has a longer name
abbrev pub has_long_name : (fluents actions : List Name) → Bool
has_long_name fluents actions = list_any is_long_name fluents || list_any is_long_name actions

-- a text with these names isn't printed: some name is longer, or the text is
abbrev pub IsTooLong : (fluents actions : List Name) → List ℕ → Type 0
IsTooLong fluents actions text =
    (has_long_name fluents actions ≡ true) ⊎ (most_in_text < length text)
