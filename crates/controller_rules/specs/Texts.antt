-- The text of a controller: that of its plan (`plan_rules`), with a comment before the rules that
-- are first wanted after as many steps.
use Rattle.std.specs.Prelude.{◌≡◌, ◌==◌, ◌++◌, ◌<◌, ◌≤◌, ℕ, false, List, [], ◌∷◌, Vec, codes, decimal, drop}
use Rattle.std.specs.Prelude.{if◌then◌else◌, length, Option, Some, None, slice_get}
use Rattle.std.specs.Option.{option_map_or}
use Rattle.std.specs.declared.alloc.Global.{Global}
use Rattle.plan_rules.specs.Rules.{PlainPlan, automaton, table}
use Rattle.plan_rules.specs.Texts.{class_word, context_rule_text, line_feed, rule_text}
use Rattle.task_core.specs.Names.{Name}

-- what stands after the semicolon
abbrev pub remark : ℕ → List ℕ
remark steps =
    if steps == 0 then codes " at the beginning" else codes " steps before: " ++ decimal steps

-- the line of a comment
abbrev pub comment_text : ℕ → List ℕ
comment_text steps = codes "  ;" ++ remark steps ++ line_feed

-- what stands before a rule with a number of steps, or with none: a comment, unless it is that of the
-- rule before
abbrev pub note_before : Option ℕ → Option ℕ → List ℕ
note_before before None = []
note_before before (Some steps) =
    if option_map_or (λ n. n == steps) before false then [] else comment_text steps

-- the number of the last comment then
abbrev pub latest : Option ℕ → Option ℕ → Option ℕ
latest before None = before
latest before (Some steps) = Some steps

-- rules in order, each with its number of steps; `before` is the number of the last comment. Past the
-- last number there are no comments
abbrev pub noted_text : {X : Type 0} → (X → List ℕ) → Option ℕ → List X → List ℕ → List ℕ
noted_text text before [] steps = []
noted_text text before (rule ∷ rules) steps =
    note_before before (slice_get steps 0) ++ text rule
    ++ noted_text text (latest before (slice_get steps 0)) rules (drop 1 steps)

-- the whole text, over the names of fluents and actions
abbrev pub controller_text : List Name → List Name → PlainPlan → List ℕ → List ℕ
controller_text fluents actions (table class rules) steps =
    codes "(plan table " ++ class_word class ++ line_feed
    ++ noted_text (rule_text fluents actions) None rules steps ++ codes ")" ++ line_feed
controller_text fluents actions (automaton contexts rules) steps =
    codes "(plan automaton " ++ decimal contexts ++ line_feed
    ++ noted_text (context_rule_text fluents actions) None rules steps ++ codes ")" ++ line_feed

-- the text, where it has no more bytes than `most`; none where it has more
abbrev pub IsTextWithin : ℕ → List ℕ → Option (Vec ℕ Global) → Type 0
IsTextWithin most text None = most < length text
IsTextWithin most text (Some bytes) = (bytes.items ≡ text) × (length text ≤ most)
