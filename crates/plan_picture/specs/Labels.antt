-- Private: what the code's lists of labels and marks stand for, and the text that it prints of them.
use Rattle.std.specs.Prelude.{ℕ, ◌==◌, ◌&&◌, ◌++◌, Bool, List, Vec, codes, length, map}
use Rattle.std.specs.List.{flat_map, list_any}
use Rattle.std.specs.declared.alloc.Global.{Global}
use Rattle.plan_rules.specs.Texts.{line_feed}
use Rattle.plan_picture.specs.Pictures.{PlainStep}
use Rattle.plan_picture.specs.Texts.{node_line, numbered, step_line}
use Rattle.plan_picture.specs.Values.{node_value, step_value}
use Rattle.plan_picture.specs.declared.marks.Mark.{Mark}
use Rattle.plan_picture.specs.declared.pictures.Node.{Node}
use Rattle.plan_picture.specs.declared.pictures.Step.{Step}
use Rattle.plan_picture.specs.declared.text.Shown.{Shown}

-- the bytes of labels
abbrev pub bytes_of : List (Vec ℕ Global) → List (List ℕ)
bytes_of = map (λ (label : Vec ℕ Global). label.items)

-- whether a step from the node of this number has a mark
abbrev pub is_marked_by : ℕ → PlainStep → Mark → Bool
is_marked_by number step mark =
    (number == mark.from) && (step.action == mark.action) && (step.outcome == mark.outcome)

abbrev pub is_marked : List Mark → ℕ → PlainStep → Bool
is_marked marks number step = list_any (is_marked_by number step) marks

-- the line of a node
abbrev pub line_of_node : Shown → ℕ → Node → List ℕ
line_of_node shown number node =
    node_line shown.tells_contexts (bytes_of shown.labels.now.fluents.items) number
    (node_value (length shown.labels.now.fluents.items) node)

-- the line of a step from the node of this number, and those of some steps
abbrev pub line_of_step : Shown → ℕ → Step → List ℕ
line_of_step shown number step =
    step_line (bytes_of shown.labels.now.actions.items)
    (is_marked shown.marks.now.keys number (step_value step)) number (step_value step)

abbrev pub lines_from : Shown → ℕ → Node → List ℕ
lines_from shown number node = flat_map (line_of_step shown number) node.steps.items

-- the whole text
abbrev pub text_of_shown : Shown → List Node → List ℕ
text_of_shown shown nodes =
    codes "digraph plan {" ++ line_feed
    ++ numbered (line_of_node shown) 0 nodes
    ++ numbered (lines_from shown) 0 nodes
    ++ codes "}" ++ line_feed
