-- The grammar of plan texts, over the forms of a text with their places: everything that is wrong
-- in a plan, in the order of the text, and the plan that a text without flaws spells. White space,
-- comments and the case of letters are free. Inside a form that is itself of a wrong shape nothing
-- else is looked for.
use Rattle.std.specs.Prelude.{ℕ, nat_le, Bool, true, false, ◌&&◌, not, if◌then◌else◌, List, [], ◌∷◌}
use Rattle.std.specs.Prelude.{◌++◌, Option, Some, None, is_some, unwrap_or, codes, position}
use Rattle.std.specs.Option.{option_map, option_map_or, option_and_then}
use Rattle.std.specs.Str.{bytes_eq}
use Rattle.std.specs.Cmp.Lexicographic.{pointwise}
use Rattle.sexpr_text.specs.declared.forms.Place.{Place}
use Rattle.sexpr_text.specs.declared.forms.Span.{Span}
use Rattle.sexpr_text.specs.declared.faults.FaultKind.{FaultKind}
use Rattle.sexpr_text.specs.declared.faults.FaultKind.TheVariants.{NoDefine, BadForm, UnknownName}
use Rattle.sexpr_text.specs.declared.faults.FaultKind.TheVariants.{UnknownAction, BadNumber}
use Rattle.sexpr_text.specs.declared.faults.InputFault.{InputFault}
use Rattle.sexpr_text.specs.Flaws.{Flaw, flaw_at}
use Rattle.sexpr_text.specs.Forest.{Forest}
use Rattle.sexpr_text.specs.Numerals.{numeral}
use Rattle.sexpr_text.specs.Parts.{is_nothing, begins_with, after_first, after_word, group_after}
use Rattle.sexpr_text.specs.Parts.{first_group_with, flaws_of_groups, each_group, texts_of}
use Rattle.sexpr_text.specs.Parts.{are_words}
use Rattle.sexpr_text.specs.Passes.{SpellsBy, HasFaultBy}
use Rattle.task_core.specs.declared.classes.Class.{Class}
use Rattle.task_core.specs.declared.classes.Class.TheVariants.{Weak, Strong, Cyclic}
use Rattle.task_core.specs.declared.literals.Lit.{Lit}
use Rattle.task_core.specs.Cubes.{Cube, literal}
use Rattle.task_core.specs.Names.{Name, AreFluentNames, AreActionNames}
use Rattle.plan_rules.specs.Items.{Item, of_word, of_group, item_span, only_if, first_item}
use Rattle.plan_rules.specs.Items.{split_group}
use Rattle.plan_rules.specs.Plans.{most_contexts}
use Rattle.plan_rules.specs.Rules.{PlanRule, PlanCase, PlanNext, always, by_cases, ContextRule}
use Rattle.plan_rules.specs.Rules.{PlainPlan, table, automaton, plain_of}
use Rattle.plan_rules.specs.declared.rules.Plan.{Plan}

-- a flaw of this kind at the form, unless the test holds
abbrev pub flaw_unless : Bool → Span → FaultKind → List Flaw
flaw_unless holds span kind = if holds then [] else flaw_at span kind ∷ []

-- the number of the first name that has these words
abbrev pub number_of_name : List Name → Name → Option ℕ
number_of_name names name = position (pointwise bytes_eq name) names

-- whether some name has the words of the row
abbrev pub is_known : List Name → Forest → Bool
is_known names row = is_some (number_of_name names (texts_of row))

-- the number of the name that the words of a row spell; 0 where there is none
abbrev pub number_of_words : List Name → Forest → ℕ
number_of_words names row = unwrap_or (number_of_name names (texts_of row)) 0

-- a fluent's words, in the list at `span`, where a list of words is wanted in the literal at
-- `outer`
abbrev pub atom_flaws : List Name → Span → Span → Forest → List Flaw
atom_flaws fluents outer span row =
    if not (are_words row) then flaw_at outer BadForm ∷ []
    else if begins_with (codes "not") row then flaw_at span BadForm ∷ []
    else flaw_unless (is_known fluents row) span UnknownName

-- `(WORD ..)` or `(not (WORD ..))`
abbrev pub literal_flaws : List Name → Span → Forest → List Flaw
literal_flaws fluents span parts =
    option_map_or (λ (atom : Span × Forest). atom_flaws fluents span atom.0 atom.1)
    (group_after (codes "not") parts)
    (atom_flaws fluents span span parts)

abbrev pub literal_tree : List Name → Forest → Lit
literal_tree fluents parts =
    option_map_or (λ (atom : Span × Forest). literal (number_of_words fluents atom.1) false)
    (group_after (codes "not") parts)
    (literal (number_of_words fluents parts) true)

-- `(LITERAL ..)`
abbrev pub cube_flaws : List Name → Forest → List Flaw
cube_flaws fluents row = flaws_of_groups (literal_flaws fluents) row

abbrev pub cube_tree : List Name → Forest → Cube
cube_tree fluents row = each_group (literal_tree fluents) row

-- the words of an action
abbrev pub action_flaws : List Name → Span → Forest → List Flaw
action_flaws actions span row = flaw_unless (is_known actions row) span UnknownAction

-- a number from 1 up to the given one
abbrev pub number_within : ℕ → List ℕ → Option ℕ
number_within most text =
    option_and_then (λ n. only_if (nat_le 1 n && nat_le n most) n) (numeral text)

abbrev pub number_flaws : ℕ → Item → List Flaw
number_flaws most (of_word span text) =
    flaw_unless (is_some (number_within most text)) span BadNumber
number_flaws most (of_group span parts) = flaw_at span BadForm ∷ []

abbrev pub number_tree : ℕ → Item → ℕ
number_tree most (of_word span text) = unwrap_or (number_within most text) 0
number_tree most (of_group span parts) = 0

-- the parts of `rule (LITERAL ..) (WORD ..)`
pub record TableRuleParts : Type 0 where
  pub cube : Forest
  pub action_span : Span
  pub action : Forest

abbrev pub table_rule_parts : Forest → Option TableRuleParts
table_rule_parts parts =
    option_and_then (λ rest. option_and_then
    (λ (cube : Span × Forest × Forest). option_and_then (λ (action : Span × Forest × Forest).
    only_if (is_nothing action.2 && are_words action.1)
    (record { cube = cube.1; action_span = action.0; action = action.1 })) (split_group cube.2))
    (split_group rest))
    (after_word (codes "rule") parts)

abbrev pub table_rule_flaws : List Name → List Name → Span → Forest → List Flaw
table_rule_flaws fluents actions span parts =
    option_map_or (λ (p : TableRuleParts). cube_flaws fluents p.cube
    ++ action_flaws actions p.action_span p.action)
    (table_rule_parts parts) (flaw_at span BadForm ∷ [])

-- a rule where the parts are of no rule: it does not count
abbrev pub no_rule : PlanRule
no_rule = record { cube = []; action = 0 }

abbrev pub table_rule_tree : List Name → List Name → Forest → PlanRule
table_rule_tree fluents actions parts =
    option_map_or (λ (p : TableRuleParts).
    record { cube = cube_tree fluents p.cube; action = number_of_words actions p.action })
    (table_rule_parts parts) no_rule

-- the parts of a case, `(LITERAL ..) CONTEXT`
abbrev pub case_parts : Forest → Option (Forest × Item)
case_parts parts =
    option_and_then (λ (cube : Span × Forest × Forest). option_and_then
    (λ (context : Item × Forest).
    only_if (is_nothing context.1) (cube.1, context.0)) (first_item cube.2)) (split_group parts)

abbrev pub case_flaws : List Name → ℕ → Span → Forest → List Flaw
case_flaws fluents contexts span parts =
    option_map_or (λ (p : Forest × Item). cube_flaws fluents p.0 ++ number_flaws contexts p.1)
    (case_parts parts)
    (flaw_at span BadForm ∷ [])

abbrev pub case_tree : List Name → ℕ → Forest → PlanCase
case_tree fluents contexts parts =
    option_map_or (λ (p : Forest × Item).
    record { cube = cube_tree fluents p.0; context = number_tree contexts p.1 })
    (case_parts parts) (record { cube = []; context = 0 })

-- NEXT: a context, or a list of cases
abbrev pub next_flaws : List Name → ℕ → Item → List Flaw
next_flaws fluents contexts (of_word span text) = number_flaws contexts (of_word span text)
next_flaws fluents contexts (of_group span parts) =
    flaws_of_groups (case_flaws fluents contexts) parts

abbrev pub next_tree : List Name → ℕ → Item → PlanNext
next_tree fluents contexts (of_word span text) = always (number_tree contexts (of_word span text))
next_tree fluents contexts (of_group span parts) =
    by_cases (each_group (case_tree fluents contexts) parts)

-- the parts of `rule CONTEXT (LITERAL ..) (WORD ..) NEXT`
pub record ContextRuleParts : Type 0 where
  pub context : Item
  pub cube : Forest
  pub action_span : Span
  pub action : Forest
  pub next : Item

abbrev pub context_rule_parts : Forest → Option ContextRuleParts
context_rule_parts parts =
    option_and_then (λ (context : Item × Forest). option_and_then
    (λ (cube : Span × Forest × Forest). option_and_then (λ (action : Span × Forest × Forest).
    option_and_then (λ (next : Item × Forest). only_if (is_nothing next.1 && are_words action.1)
    (record {
      context = context.0;
      cube = cube.1;
      action_span = action.0;
      action = action.1;
      next = next.0;
    }))
    (first_item action.2)) (split_group cube.2)) (split_group context.1))
    (option_and_then first_item (after_word (codes "rule") parts))

abbrev pub context_rule_flaws : List Name → List Name → ℕ → Span → Forest → List Flaw
context_rule_flaws fluents actions contexts span parts =
    option_map_or (λ (p : ContextRuleParts). number_flaws contexts p.context
    ++ cube_flaws fluents p.cube
    ++ action_flaws actions p.action_span p.action ++ next_flaws fluents contexts p.next)
    (context_rule_parts parts) (flaw_at span BadForm ∷ [])

abbrev pub no_context_rule : ContextRule
no_context_rule = record { context = 0; cube = []; action = 0; next = always 0 }

abbrev pub context_rule_tree : List Name → List Name → ℕ → Forest → ContextRule
context_rule_tree fluents actions contexts parts =
    option_map_or (λ (p : ContextRuleParts). record {
      context = number_tree contexts p.context;
      cube = cube_tree fluents p.cube;
      action = number_of_words actions p.action;
      next = next_tree fluents contexts p.next;
    }) (context_rule_parts parts) no_context_rule

-- the class that a form names
abbrev pub class_named : Item → Option Class
class_named (of_word span text) =
    if bytes_eq text (codes "weak") then Some Weak
    else if bytes_eq text (codes "strong") then Some Strong
    else if bytes_eq text (codes "cyclic") then Some Cyclic
    else None
class_named (of_group span parts) = None

-- what follows `plan table` in the list at `span`: a class, and a rule an item
abbrev pub table_flaws : List Name → List Name → Span → Forest → List Flaw
table_flaws fluents actions span row =
    option_map_or (λ (class : Item × Forest). if is_some (class_named class.0)
    then flaws_of_groups (table_rule_flaws fluents actions) class.1
    else flaw_at (item_span class.0) BadForm ∷ [])
    (first_item row) (flaw_at span BadForm ∷ [])

abbrev pub table_of : Item → List PlanRule → PlainPlan
table_of class rules = table (unwrap_or (class_named class) Weak) rules

-- a plan where the text spells none: it does not count
abbrev pub no_table : PlainPlan
no_table = table Weak []

abbrev pub table_tree : List Name → List Name → Forest → PlainPlan
table_tree fluents actions row =
    option_map_or (λ (class : Item × Forest). table_of class.0
    (each_group (table_rule_tree fluents actions) class.1))
    (first_item row) no_table

-- what follows `plan automaton` in the list at `span`: a number of contexts, and a rule an item
abbrev pub contexts_flaws : List Name → List Name → Item → Forest → List Flaw
contexts_flaws fluents actions (of_group span parts) row = flaw_at span BadForm ∷ []
contexts_flaws fluents actions (of_word span text) row =
    option_map_or (λ contexts. flaws_of_groups (context_rule_flaws fluents actions contexts) row)
    (number_within most_contexts text) (flaw_at span BadNumber ∷ [])

abbrev pub automaton_flaws : List Name → List Name → Span → Forest → List Flaw
automaton_flaws fluents actions span row =
    option_map_or (λ (contexts : Item × Forest). contexts_flaws fluents actions contexts.0
    contexts.1) (first_item row)
    (flaw_at span BadForm ∷ [])

abbrev pub contexts_tree : List Name → List Name → ℕ → Forest → PlainPlan
contexts_tree fluents actions contexts row =
    automaton contexts (each_group (context_rule_tree fluents actions contexts) row)

abbrev pub no_automaton : PlainPlan
no_automaton = automaton 1 []

abbrev pub automaton_tree : List Name → List Name → Forest → PlainPlan
automaton_tree fluents actions row =
    option_map_or (λ (contexts : Item × Forest). contexts_tree fluents actions
    (number_tree most_contexts contexts.0) contexts.1)
    (first_item row) no_automaton

-- the kinds of plans
pub data Kind : Type 0 where
  table_kind : Kind
  automaton_kind : Kind

abbrev pub kind_named : Item → Option Kind
kind_named (of_word span text) =
    if bytes_eq text (codes "table") then Some table_kind
    else if bytes_eq text (codes "automaton") then Some automaton_kind
    else None
kind_named (of_group span parts) = None

abbrev pub flaws_of_kind : Kind → List Name → List Name → Span → Forest → List Flaw
flaws_of_kind table_kind = table_flaws
flaws_of_kind automaton_kind = automaton_flaws

abbrev pub tree_of_kind : Kind → List Name → List Name → Forest → PlainPlan
tree_of_kind table_kind = table_tree
tree_of_kind automaton_kind = automaton_tree

-- what follows `plan` in the list at `span`
abbrev pub plan_flaws : List Name → List Name → Span → Forest → List Flaw
plan_flaws fluents actions span row =
    option_map_or (λ (kind : Item × Forest). option_map_or
    (λ k. flaws_of_kind k fluents actions span kind.1) (kind_named kind.0)
    (flaw_at (item_span kind.0) BadForm ∷ []))
    (first_item row) (flaw_at span BadForm ∷ [])

abbrev pub plan_tree : List Name → List Name → Forest → PlainPlan
plan_tree fluents actions row =
    option_map_or (λ (kind : Item × Forest). option_map_or
    (λ k. tree_of_kind k fluents actions kind.1) (kind_named kind.0) no_table)
    (first_item row) no_table

-- the first top-level list that begins with the word `plan`: its span and its parts
abbrev pub plan_list : Forest → Option (Span × Forest)
plan_list trees = first_group_with (begins_with (codes "plan")) trees

-- a text without such a list: `NoDefine` at the start
abbrev pub no_plan : Flaw
no_plan =
    record {
      offset = 0;
      fault = record { kind = NoDefine; place = record { line = 1; column = 1 } };
    }

-- the flaws of a text's forms
abbrev pub text_flaws : List Name → List Name → Forest → List Flaw
text_flaws fluents actions trees =
    option_map_or (λ (found : Span × Forest). plan_flaws fluents actions found.0
    (after_first found.1)) (plan_list trees) (no_plan ∷ [])

-- they are those of the only pass after the lexis
abbrev pub plan_passes : List Name → List Name → Forest → List (List Flaw)
plan_passes fluents actions trees = text_flaws fluents actions trees ∷ []

-- the plan and the place of its list
abbrev pub plan_read : List Name → List Name → Forest → Option (PlainPlan × Place)
plan_read fluents actions trees =
    option_map (λ (found : Span × Forest).
    (plan_tree fluents actions (after_first found.1), found.0.place)) (plan_list trees)

-- the bytes spell this plan, over the names of a task's fluents and actions; its list stands at
-- this place
abbrev pub SpellsPlanAt : List Name → List Name → List ℕ → PlainPlan → Place → Type 0
SpellsPlanAt fluents actions bytes plan place =
    SpellsBy (plan_passes fluents actions) (plan_read fluents actions) bytes (Some (plan, place))

-- the bytes spell this plan
abbrev pub SpellsPlain : List Name → List Name → List ℕ → PlainPlan → Type 0
SpellsPlain fluents actions bytes plan =
    (place : Place) × SpellsPlanAt fluents actions bytes plan place

-- the bytes spell this table plan
abbrev pub SpellsTable : List Name → List Name → List ℕ → Class → List PlanRule → Type 0
SpellsTable fluents actions bytes class rules =
    SpellsPlain fluents actions bytes (table class rules)

-- the bytes have this fault as the text of a plan
abbrev pub HasPlanFault : List Name → List Name → List ℕ → InputFault → Type 0
HasPlanFault fluents actions = HasFaultBy (plan_passes fluents actions)

-- the bytes spell this plan, as the program holds it
abbrev pub SpellsPlan : List Name → List Name → List ℕ → Plan → Type 0
SpellsPlan fluents actions bytes plan = SpellsPlain fluents actions bytes (plain_of plan)

-- names that plan texts can spell
pub record AreSpellable (fluents actions : List Name) : Type 0 where
  pub fluents_are : AreFluentNames fluents
  pub actions_are : AreActionNames actions
