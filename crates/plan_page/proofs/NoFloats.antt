-- No data of a page have a float.
use Rattle.std.proofs.Common.{◌≡◌, ℕ, List, map, false, refl}
use Rattle.serde_json.specs.Written.{has_float}
use Rattle.task_core.specs.Cubes.{Cube}
use Rattle.task_core.specs.Names.{Name}
use Rattle.task_core.specs.Systems.{System}
use Rattle.plan_picture.specs.Pictures.{PlainNode}
use Rattle.plan_rules.specs.Rules.{ContextRule, PlainPlan, PlanCase, PlanNext, PlanRule, always, automaton, by_cases, table}
use Rattle.std.specs.Prelude.{Option, None, Some}
use Rattle.plan_document.proofs.NoFloatsInActions.{items_free}
use Rattle.plan_document.specs.Data.{count_data, list_data}
use Rattle.plan_document.specs.Names.{name_data}
use Rattle.plan_picture.specs.Runs.{PlainMove}
use Rattle.plan_page.specs.Explanations.{PlainExplanation, PlainShownRun, count_or_null, handed_data, told}
use Rattle.plan_page.specs.Pages.{case_data, context_rule_data, cube_data, literal_data, next_data, node_data, outcomes_below, page_data, step_data, table_rule_data, true_below}

cube_free : (cube : Cube) → has_float (cube_data cube) ≡ false
cube_free = items_free literal_data (λ lit. refl)

case_free : (case : PlanCase) → has_float (case_data case) ≡ false
case_free case = rw (cube_free case.cube) refl

next_free : (next : PlanNext) → has_float (next_data next) ≡ false
next_free (always context) = refl
next_free (by_cases cases) = items_free case_data case_free cases

table_rule_free : (rule : PlanRule) → has_float (table_rule_data rule) ≡ false
table_rule_free rule = rw (cube_free rule.cube) refl

context_rule_free : (rule : ContextRule) → has_float (context_rule_data rule) ≡ false
context_rule_free rule = rw (cube_free rule.cube, next_free rule.next) refl

node_free : (fluents : ℕ) (node : PlainNode) → has_float (node_data fluents node) ≡ false
node_free fluents node =
    rw (items_free step_data (λ step. refl) node.steps, items_free count_data (λ count. refl) (true_below node.configuration.state fluents)) refl

names_free : (names : List Name) → has_float (list_data name_data names) ≡ false
names_free = items_free name_data (λ name. refl)

pub data_free : (fluents actions : List Name) (sys : System) (plan : PlainPlan) (nodes : List PlainNode) → has_float (page_data fluents actions sys plan nodes) ≡ false
data_free fluents actions sys (table class rules) nodes =
    rw (names_free actions, names_free fluents, items_free (node_data sys.fluents) (node_free sys.fluents) nodes, items_free count_data (λ count. refl) (outcomes_below sys sys.actions), items_free table_rule_data table_rule_free rules) refl
data_free fluents actions sys (automaton contexts rules) nodes =
    rw (names_free actions, names_free fluents, items_free (node_data sys.fluents) (node_free sys.fluents) nodes, items_free count_data (λ count. refl) (outcomes_below sys sys.actions), items_free context_rule_data context_rule_free rules) refl

counts_free : (counts : List ℕ) → has_float (list_data count_data counts) ≡ false
counts_free = items_free count_data (λ count. refl)

cycle_free : (count : Option ℕ) → has_float (count_or_null count) ≡ false
cycle_free None = refl
cycle_free (Some count) = refl

told_free : (verdict : List ℕ) (shown : Option PlainShownRun) → has_float (told verdict shown) ≡ false
told_free verdict None = refl
told_free verdict (Some shown) =
    rw (cycle_free shown.run.cycle_from, counts_free (map (λ (move : PlainMove). move.outcome) shown.run.moves), counts_free (map (λ (move : PlainMove). move.rule) shown.run.moves)) refl

pub handed_free : (explanation : Option PlainExplanation) → has_float (handed_data explanation) ≡ false
handed_free None = refl
handed_free (Some explanation) = told_free explanation.verdict explanation.shown
