-- The text of a program: the names of the fluents and of the actions, the goal, the outcomes, and the
-- rules; or, in place of these, the steps of a decision and where that of each context begins. What
-- stands between them is the language's (`Frames`).
use Rattle.std.specs.Prelude.{ℕ, ◌==◌, ◌||◌, List, [], ◌∷◌, ◌++◌, codes, decimal, if◌then◌else◌, map}
use Rattle.std.specs.List.{flat_map}
use Rattle.rule_lookup.specs.RunRules.{run_rules}
use Rattle.plan_rules.specs.Rules.{PlainPlan}
use Rattle.plan_rules.specs.Texts.{atom_text}
use Rattle.task_core.specs.Names.{Name}
use Rattle.task_core.specs.Tasks.{action_names, fluent_names}
use Rattle.task_core.specs.declared.tasks.Task.{Task}
use Rattle.controller_code.specs.FirstMoves.{contexts_of}
use Rattle.controller_code.specs.Frames.{actions_head_text, contexts_head_text, fluents_head_text}
use Rattle.controller_code.specs.Frames.{functions_text, goal_head_text, outcomes_head_text}
use Rattle.controller_code.specs.Frames.{rules_head_text, rules_tail_text, starts_head_text}
use Rattle.controller_code.specs.Frames.{steps_head_text, steps_tail_text}
use Rattle.controller_code.specs.Rows.{action_rows, goal_words, rule_row, step_row}
use Rattle.controller_code.specs.Tables.{counted, row_line}
use Rattle.controller_code.specs.declared.texts.Language.{Language}
use Rattle.controller_code.specs.declared.texts.Language.TheVariants.{C, Python, Rust}
use Rattle.controller_code.specs.declared.trees.Tree.{Tree}

-- a question mark; C reads two of them with what follows as another character
abbrev pub question_mark : Language → List ℕ
question_mark C = codes "\\?"
question_mark Rust = codes "?"
question_mark Python = codes "?"

-- a byte of a string: a quotation mark and a backslash have a backslash before them
abbrev pub string_byte : Language → ℕ → List ℕ
string_byte language byte =
    if (byte == 34) || (byte == 92) then 92 ∷ byte ∷ []
    else if byte == 63 then question_mark language else byte ∷ []

-- the line of a name, as "(at kitchen)",
abbrev pub name_line : Language → Name → List ℕ
name_line language name =
    codes "    \"" ++ flat_map (string_byte language) (atom_text name) ++ codes "\",\n"

-- a byte of a frame: the program's name stands in place of `@`
abbrev pub frame_byte : List ℕ → ℕ → List ℕ
frame_byte name byte = if byte == 64 then name else byte ∷ []

abbrev pub named : List ℕ → List ℕ → List ℕ
named name frame = flat_map (frame_byte name) frame

-- the line of a row, with its length before it
abbrev pub counted_line : List ℕ → List ℕ
counted_line row = row_line (counted row)

-- what both forms of a program have
abbrev pub common_text : Language → List ℕ → Task → PlainPlan → List ℕ
common_text language name task plan =
    named name (fluents_head_text language) ++ flat_map (name_line language) (fluent_names task)
    ++ named name (actions_head_text language) ++ flat_map (name_line language) (action_names task)
    ++ named name (contexts_head_text language) ++ decimal (contexts_of plan)
    ++ named name (goal_head_text language) ++ counted_line (goal_words task plan)
    ++ named name (outcomes_head_text language)
    ++ flat_map counted_line (action_rows 0 task.actions.items)
    ++ named name (functions_text language)

-- the program of a plan by its rules
abbrev pub rules_text : Language → List ℕ → Task → PlainPlan → List ℕ
rules_text language name task plan =
    common_text language name task plan
    ++ named name (rules_head_text language)
    ++ flat_map counted_line (map rule_row (run_rules plan))
    ++ named name (rules_tail_text language)

-- the program of a plan by the steps of a decision tree
abbrev pub steps_text : Language → List ℕ → Task → PlainPlan → Tree → List ℕ
steps_text language name task plan tree =
    common_text language name task plan
    ++ named name (steps_head_text language)
    ++ flat_map row_line (map step_row tree.steps.items)
    ++ named name (starts_head_text language)
    ++ flat_map row_line (map (λ start. start ∷ []) tree.starts.items)
    ++ named name (steps_tail_text language)
