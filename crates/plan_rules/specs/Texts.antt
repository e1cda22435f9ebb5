-- The text of a plan: what is printed, byte for byte.
use Rattle.std.specs.Prelude.{ℕ, zero, suc, List, [], ◌∷◌, ◌++◌, map, slice_index_or, if◌then◌else◌}
use Rattle.std.specs.Prelude.{codes, decimal}
use Rattle.std.specs.List.{flat_map, join_with_byte}
use Rattle.task_core.specs.declared.literals.Lit.{Lit}
use Rattle.task_core.specs.Cubes.{Cube}
use Rattle.task_core.specs.Names.{Name}
use Rattle.task_core.specs.declared.classes.Class.{Class}
use Rattle.task_core.specs.declared.classes.Class.TheVariants.{Weak, Strong, Cyclic}
use Rattle.plan_rules.specs.Rules.{PlanRule, PlanCase, PlanNext, always, by_cases, ContextRule}
use Rattle.plan_rules.specs.Rules.{PlainPlan, table, automaton}

-- the name of a number; the empty one past the last
abbrev pub name_at : List Name → ℕ → Name
name_at names i = slice_index_or names i []

-- parts with one space between them
abbrev pub spaced : List (List ℕ) → List ℕ
spaced parts = join_with_byte 32 parts

-- what stands before the part at a place: a space, but for the first
abbrev pub gap : ℕ → List ℕ
gap zero = []
gap (suc i) = 32 ∷ []

abbrev pub line_feed : List ℕ
line_feed = 10 ∷ []

abbrev pub in_parentheses : List ℕ → List ℕ
in_parentheses inner = codes "(" ++ inner ++ codes ")"

-- as (at a)
abbrev pub atom_text : Name → List ℕ
atom_text name = in_parentheses (spaced name)

-- as (at a) or (not (at a))
abbrev pub literal_text : List Name → Lit → List ℕ
literal_text fluents lit =
    if lit.positive then atom_text (name_at fluents lit.fluent.0)
    else in_parentheses (codes "not " ++ atom_text (name_at fluents lit.fluent.0))

abbrev pub cube_text : List Name → Cube → List ℕ
cube_text fluents cube = in_parentheses (spaced (map (literal_text fluents) cube))

-- one line, as: two spaces, (rule ((at a) (not (at b))) (go a b))
abbrev pub rule_text : List Name → List Name → PlanRule → List ℕ
rule_text fluents actions rule =
    codes "  (rule " ++ cube_text fluents rule.cube ++ codes " "
    ++ atom_text (name_at actions rule.action) ++ codes ")" ++ line_feed

abbrev pub class_word : Class → List ℕ
class_word Weak = codes "weak"
class_word Strong = codes "strong"
class_word Cyclic = codes "cyclic"

-- the whole text: a first line with the class, a line a rule, and a closing line
abbrev pub table_text : List Name → List Name → Class → List PlanRule → List ℕ
table_text fluents actions class rules =
    codes "(plan table " ++ class_word class ++ line_feed
    ++ flat_map (rule_text fluents actions) rules ++ codes ")" ++ line_feed

-- a case, as (((at a) (up)) 3)
abbrev pub case_text : List Name → PlanCase → List ℕ
case_text fluents case =
    in_parentheses (cube_text fluents case.cube ++ codes " " ++ decimal case.context)

abbrev pub next_text : List Name → PlanNext → List ℕ
next_text fluents (always context) = decimal context
next_text fluents (by_cases cases) = in_parentheses (spaced (map (case_text fluents) cases))

-- one line, as: two spaces, (rule 1 ((at a) (not (at b))) (go a b) 2)
abbrev pub context_rule_text : List Name → List Name → ContextRule → List ℕ
context_rule_text fluents actions rule =
    codes "  (rule " ++ decimal rule.context ++ codes " " ++ cube_text fluents rule.cube
    ++ codes " "
    ++ atom_text (name_at actions rule.action) ++ codes " " ++ next_text fluents rule.next
    ++ codes ")" ++ line_feed

-- the whole text: a first line with the number of contexts, a line a rule, and a closing line
abbrev pub automaton_text : List Name → List Name → ℕ → List ContextRule → List ℕ
automaton_text fluents actions contexts rules =
    codes "(plan automaton " ++ decimal contexts ++ line_feed
    ++ flat_map (context_rule_text fluents actions) rules
    ++ codes ")" ++ line_feed

-- the text of a plan over the names of fluents and actions
abbrev pub text_of : List Name → List Name → PlainPlan → List ℕ
text_of fluents actions (table class rules) = table_text fluents actions class rules
text_of fluents actions (automaton contexts rules) = automaton_text fluents actions contexts rules
