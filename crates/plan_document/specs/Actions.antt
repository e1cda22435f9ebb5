-- What an action asks of a state, and what it may do, as JSON.
use Rattle.std.specs.Prelude.{ℕ, Bool, true, false, not, if◌then◌else◌, List, [], ◌∷◌, codes, map}
use Rattle.std.specs.List.{flat_map}
use Rattle.serde_json.specs.Data.{Data, array, member, no_items, no_members, object}
use Rattle.serde_json.specs.View.{items_of}
use Rattle.plan_rules.specs.Texts.{name_at}
use Rattle.task_core.specs.Names.{Name}
use Rattle.task_core.specs.declared.actions.Change.{Change}
use Rattle.task_core.specs.declared.actions.Outcome.{Outcome}
use Rattle.task_core.specs.declared.conditions.Cond.{Cond}
use Rattle.task_core.specs.declared.conditions.Cond.TheOpen.{Cond-F, Yes, No, Is, Not, All, Any}
use Rattle.task_core.specs.declared.conditions.Cond.TheFolds.{fold-Cond}
use Rattle.task_core.specs.declared.literals.Lit.{Lit}
use Rattle.plan_document.specs.Names.{name_data}

-- an object with this one member
abbrev pub only_member : List ℕ → Data → Data
only_member key value = object (member key value no_members)

-- one layer of a condition, with what its parts are in their place. An "and" without parts holds
-- always, and an "or" without parts never
abbrev pub condition_layer : List Name → Cond-F Data → Data
condition_layer fluents Yes = only_member (codes "and") (array no_items)
condition_layer fluents No = only_member (codes "or") (array no_items)
condition_layer fluents (Is f) = name_data (name_at fluents f.0)
condition_layer fluents (Not part) = only_member (codes "not") part.value
condition_layer fluents (All parts) = only_member (codes "and") (array (items_of parts.items))
condition_layer fluents (Any parts) = only_member (codes "or") (array (items_of parts.items))

-- a condition: the name of the fluent that it asks for, or an object with the member "not", "and" or
-- "or"
abbrev pub condition_data : List Name → Cond → Data
condition_data fluents = fold-Cond Data (condition_layer fluents)

-- whether a literal makes its fluent true, or makes it false
abbrev pub makes : Bool → Lit → Bool
makes true lit = lit.positive
makes false lit = not lit.positive

abbrev pub literal_name : List Name → Lit → Data
literal_name fluents lit = name_data (name_at fluents lit.fluent.0)

-- the name of its fluent, if it does
abbrev pub made_names : List Name → Bool → Lit → List Data
made_names fluents value lit = if makes value lit then literal_name fluents lit ∷ [] else []

-- the names of the fluents that some literals make true, or make false
abbrev pub made_data : List Name → Bool → List Lit → Data
made_data fluents value lits = array (items_of (flat_map (made_names fluents value) lits))

-- a change: the fluents that it adds and those that it deletes, where its condition holds in the state
-- before
abbrev pub change_data : List Name → Change → Data
change_data fluents change =
    object (member (codes "adds") (made_data fluents true change.lits.items)
    (member (codes "deletes") (made_data fluents false change.lits.items)
    (member (codes "if") (condition_data fluents change.cond) no_members)))

-- an outcome is its changes
abbrev pub outcome_data : List Name → Outcome → Data
outcome_data fluents outcome = array (items_of (map (change_data fluents) outcome.changes.items))

abbrev pub outcomes_data : List Name → List Outcome → Data
outcomes_data fluents outcomes = array (items_of (map (outcome_data fluents) outcomes))
