-- The text of a page: its head, the data of a plan and of its picture as JSON, an explanation that is
-- handed in to be played, and its tail. Fluents, actions and nodes are named by their numbers, which are their
-- places in the lists of the data. An object has its members in the order of their keys.
use Rattle.std.specs.Prelude.{ℕ, zero, suc, ◌==◌, ◌||◌, Bool, List, [], ◌∷◌, ◌++◌, Option, codes}
use Rattle.std.specs.Prelude.{if◌then◌else◌}
use Rattle.std.specs.List.{flat_map}
use Rattle.serde_json.specs.Data.{Data, array, boolean, object, string}
use Rattle.serde_json.specs.Data.{item, member, no_items, no_members}
use Rattle.serde_json.specs.Written.{compact_text}
use Rattle.task_core.specs.Cubes.{Cube}
use Rattle.task_core.specs.Names.{Name}
use Rattle.task_core.specs.Systems.{System}
use Rattle.task_core.specs.Vectors.{Vector, value_of}
use Rattle.task_core.specs.declared.literals.Lit.{Lit}
use Rattle.plan_picture.specs.Pictures.{PlainNode, PlainStep}
use Rattle.plan_rules.specs.Rules.{ContextRule, PlainPlan, PlanCase, PlanNext, PlanRule, always}
use Rattle.plan_rules.specs.Rules.{automaton, by_cases, table}
use Rattle.plan_rules.specs.Texts.{class_word}
use Rattle.plan_document.specs.Data.{count_data, list_data}
use Rattle.plan_document.specs.Names.{name_data}
use Rattle.plan_page.specs.Explanations.{PlainExplanation, handed_data}
use Rattle.plan_page.specs.Frame.{head_text, middle_text, tail_text}

-- a literal: the number of its fluent, and the value that is asked for, as [3,true]
abbrev pub literal_data : Lit → Data
literal_data lit =
    array (item (count_data lit.fluent.0) (item (boolean lit.positive) no_items))

abbrev pub cube_data : Cube → Data
cube_data = list_data literal_data

-- a case of a next context: what it asks of the new state, and the context
abbrev pub case_data : PlanCase → Data
case_data case = array (item (cube_data case.cube) (item (count_data case.context) no_items))

-- the next context, or its cases
abbrev pub next_data : PlanNext → Data
next_data (always context) = count_data context
next_data (by_cases cases) = list_data case_data cases

-- a rule: its action, its context, what it asks of a state, and its next context
abbrev pub rule_object : ℕ → ℕ → Data → Data → Data
rule_object action context literals next =
    object (member (codes "action") (count_data action)
    (member (codes "context") (count_data context) (member (codes "literals") literals
    (member (codes "next") next no_members))))

-- a rule of a table is one of the first context, which stays
abbrev pub table_rule_data : PlanRule → Data
table_rule_data rule = rule_object rule.action 1 (cube_data rule.cube) (count_data 1)

abbrev pub context_rule_data : ContextRule → Data
context_rule_data rule =
    rule_object rule.action rule.context (cube_data rule.cube) (next_data rule.next)

-- a step: the numbers of its action, of its outcome and of the node to which it leads
abbrev pub step_data : PlainStep → Data
step_data step =
    array (item (count_data step.action) (item (count_data step.outcome)
    (item (count_data step.target) no_items)))

-- the numbers below a bound of the fluents that are true in a state
abbrev pub true_below : Vector → ℕ → List ℕ
true_below state zero = []
true_below state (suc i) =
    true_below state i ++ (if value_of state i then i ∷ [] else [])

-- a node, over so many fluents: its context, whether it is in a goal state, whether it is initial,
-- the steps from there, and the true fluents
abbrev pub node_data : ℕ → PlainNode → Data
node_data fluents node =
    object (member (codes "context") (count_data node.configuration.context)
    (member (codes "goal") (boolean node.goal) (member (codes "initial") (boolean node.initial)
    (member (codes "steps") (list_data step_data node.steps)
    (member (codes "true") (list_data count_data (true_below node.configuration.state fluents))
    no_members)))))

-- how many outcomes each action below a bound has
abbrev pub outcomes_below : System → ℕ → List ℕ
outcomes_below sys zero = []
outcomes_below sys (suc action) = outcomes_below sys action ++ sys.outcomes action ∷ []

-- what the data say of a plan: its class, the number of its contexts, and its rules
pub record PlanData : Type 0 where
  pub class : Data
  pub contexts : Data
  pub rules : Data

abbrev pub plan_data : PlainPlan → PlanData
plan_data (table class rules) = record {
  class = string (class_word class);
  contexts = count_data 1;
  rules = list_data table_rule_data rules;
}
plan_data (automaton contexts rules) = record {
  class = string (codes "ctl");
  contexts = count_data contexts;
  rules = list_data context_rule_data rules;
}

-- the whole: the names of the actions, the class, how many contexts there are, the names of the
-- fluents, the nodes, how many outcomes each action has, and the rules
abbrev pub data_object : PlanData → (actions fluents nodes outcomes : Data) → Data
data_object plan actions fluents nodes outcomes =
    object (member (codes "actions") actions (member (codes "class") plan.class
    (member (codes "contexts") plan.contexts (member (codes "fluents") fluents
    (member (codes "nodes") nodes (member (codes "outcomes") outcomes
    (member (codes "rules") plan.rules no_members)))))))

-- the data of a plan and its picture, over a system and the names of its fluents and actions
abbrev pub page_data : List Name → List Name → System → PlainPlan → List PlainNode → Data
page_data fluents actions sys plan nodes =
    data_object (plan_data plan) (list_data name_data actions) (list_data name_data fluents)
    (list_data (node_data sys.fluents) nodes)
    (list_data count_data (outcomes_below sys sys.actions))

-- `<`, `>` and `&`, without which no text ends a script or is read as HTML
abbrev pub is_markup : ℕ → Bool
is_markup byte = (byte == 60) || (byte == 62) || (byte == 38)

-- such a byte as JSON escapes it in a string; JSON has it nowhere else
abbrev pub escaped_byte : ℕ → List ℕ
escaped_byte byte =
    if byte == 60 then codes "\\u003c"
    else if byte == 62 then codes "\\u003e"
    else if byte == 38 then codes "\\u0026"
    else byte ∷ []

abbrev pub escaped : List ℕ → List ℕ
escaped = flat_map escaped_byte

-- a page with these data, and with what it is handed
abbrev pub framed_text : List ℕ → List ℕ → List ℕ
framed_text json handed =
    head_text ++ escaped json ++ middle_text ++ escaped handed ++ tail_text

-- the text of the page, which plays the explanation that it is handed, if there is one
abbrev pub page_of : List Name → List Name → System → PlainPlan → List PlainNode
    → Option PlainExplanation → List ℕ
page_of fluents actions sys plan nodes explanation =
    framed_text (compact_text (page_data fluents actions sys plan nodes))
    (compact_text (handed_data explanation))
