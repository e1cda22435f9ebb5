-- The JSON document of a plan. A name stands in it as in the text of a plan, as "(at a)"; an object
-- has its members in the order of their keys.
use Rattle.std.specs.Prelude.{ℕ, List, ◌++◌, codes, map, slice_get}
use Rattle.std.specs.List.{fold}
use Rattle.std.specs.Option.{option_map_or}
use Rattle.serde_json.specs.Data.{Data, array, boolean, null, object, put, string}
use Rattle.serde_json.specs.Data.{Members, member, no_members}
use Rattle.serde_json.specs.View.{items_of}
use Rattle.serde_json.specs.Written.{compact_text}
use Rattle.task_core.specs.Cubes.{Cube}
use Rattle.task_core.specs.Names.{Name, name_of}
use Rattle.task_core.specs.declared.actions.GroundAction.{GroundAction}
use Rattle.task_core.specs.Tasks.{fluent_names}
use Rattle.task_core.specs.declared.literals.Lit.{Lit}
use Rattle.task_core.specs.declared.tasks.Task.{Task}
use Rattle.plan_rules.specs.Rules.{ContextRule, PlainPlan, PlanNext, PlanRule, always, automaton}
use Rattle.plan_rules.specs.Rules.{by_cases, table}
use Rattle.plan_rules.specs.Texts.{atom_text, class_word, line_feed, name_at}
use Rattle.plan_document.specs.Actions.{condition_data, outcomes_data}
use Rattle.plan_document.specs.Data.{count_data}
pub use Rattle.plan_document.specs.Names.{name_data, names_data}

-- one literal more: the value that the fluent is to have, under the fluent's name
abbrev pub with_literal : List Name → Members → Lit → Members
with_literal fluents members lit =
    put (atom_text (name_at fluents lit.fluent.0)) (boolean lit.positive) members

-- what is asked of a state: an object from the fluents that are named to their values
abbrev pub cube_data : List Name → Cube → Data
cube_data fluents cube = object (fold (with_literal fluents) no_members cube)

-- a rule: its action, its context, what it asks of a state, and its next context; and of the action
-- what it may do, and its precondition
abbrev pub rule_object : List Name → GroundAction → ℕ → Data → Data → Data
rule_object fluents action context literals next =
    object (member (codes "action") (name_data (name_of action))
    (member (codes "context") (count_data context)
    (member (codes "literals") literals
    (member (codes "next") next
    (member (codes "outcomes") (outcomes_data fluents action.outcomes.items)
    (member (codes "precondition") (condition_data fluents action.exec) no_members))))))

-- the same with the action of a number; null past the last
abbrev pub rule_data : List Name → List GroundAction → ℕ → ℕ → Data → Data → Data
rule_data fluents actions a context literals next =
    option_map_or (λ action. rule_object fluents action context literals next)
    (slice_get actions a) null

-- a rule of a table is one of the first context, which stays
abbrev pub table_rule_data : List Name → List GroundAction → PlanRule → Data
table_rule_data fluents actions rule =
    rule_data fluents actions rule.action 1 (cube_data fluents rule.cube) (count_data 1)

-- the next context, where it is always the same one; else null
abbrev pub next_data : PlanNext → Data
next_data (always context) = count_data context
next_data (by_cases cases) = null

abbrev pub context_rule_data : List Name → List GroundAction → ContextRule → Data
context_rule_data fluents actions rule =
    rule_data fluents actions rule.action rule.context (cube_data fluents rule.cube)
    (next_data rule.next)

-- the whole: the actions, the class, how many contexts there are, the fluents, and the rules
abbrev pub plan_object : List Name → List GroundAction → List ℕ → ℕ → List Data → Data
plan_object fluents actions class contexts rules =
    object (member (codes "actions") (names_data (map name_of actions))
    (member (codes "class") (string class)
    (member (codes "contexts") (count_data contexts)
    (member (codes "fluents") (names_data fluents)
    (member (codes "rules") (array (items_of rules)) no_members)))))

-- the document of a plan over the names of fluents and the actions of a task
abbrev pub document : List Name → List GroundAction → PlainPlan → Data
document fluents actions (table class rules) =
    plan_object fluents actions (class_word class) 1 (map (table_rule_data fluents actions) rules)
document fluents actions (automaton contexts rules) =
    plan_object fluents actions (codes "ctl") contexts
    (map (context_rule_data fluents actions) rules)

-- its text: without spaces, in one line with a line feed at its end
abbrev pub document_text : Task → PlainPlan → List ℕ
document_text task plan =
    compact_text (document (fluent_names task) task.actions.items plan) ++ line_feed
