-- The lines in which the rules of a plan's text begin. The rules are the lists in the plan's own list:
-- what stands before them there are words.
use Rattle.std.specs.Prelude.{◌≡◌, ℕ, List, [], ◌∷◌, Option, None, Some}
use Rattle.sexpr_text.specs.Forest.{Forest, nothing, word, group}
use Rattle.sexpr_text.specs.Spelling.{SpellsTrees}
use Rattle.sexpr_text.specs.declared.forms.Span.{Span}
use Rattle.plan_rules.specs.Readings.{plan_list}

-- the line in which each list of a row begins
abbrev pub group_lines : Forest → List ℕ
group_lines nothing = []
group_lines (word span text rest) = group_lines rest
group_lines (group span parts rest) = span.place.line ∷ group_lines rest

abbrev pub lines_of_found : Option (Span × Forest) → List ℕ
lines_of_found None = []
lines_of_found (Some found) = group_lines found.1

-- the line in which each rule of the first plan among these forms begins
abbrev pub rule_lines : Forest → List ℕ
rule_lines trees = lines_of_found (plan_list trees)

-- these are the lines of the rules in the text
abbrev pub AreRuleLines : List ℕ → List ℕ → Type 0
AreRuleLines bytes lines = (trees : Forest) → SpellsTrees bytes trees → lines ≡ rule_lines trees
