-- How the file of a plan is read, over the names of the fluents and actions of a domain and a
-- problem.
use Rattle.std.specs.Prelude.{◌≡◌, ◌⊎◌, Bool, true, false, List}
use Rattle.plan_rules.specs.Readings.{SpellsPlanAt, HasPlanFault}
use Rattle.plan_io.specs.Held.{Held}
use Rattle.plan_rules.specs.Rules.{PlainPlan, table, automaton}
use Rattle.sexpr_text.specs.declared.forms.Place.{Place}
use Rattle.sexpr_text.specs.declared.faults.FaultKind.TheVariants.{WrongPlanKind}
use Rattle.sexpr_text.specs.declared.faults.InputFault.{InputFault}
use Rattle.task_core.specs.Names.{Name}
use Rattle.command_base.specs.Answers.{Answer, Refusal, refused, text_fault}
use Rattle.command_base.specs.Reading.{Holds}
use Rattle.command_base.specs.Words.{Bytes, PlanKind, of_class, with_contexts}

-- a plan, and where its list stands in the text
pub record PlacedPlan : Type 0 where
  pub plan : PlainPlan
  pub place : Place

-- the bytes spell this plan, at this place
abbrev pub SpellsPlaced : List Name → List Name → Bytes → PlacedPlan → Type 0
SpellsPlaced fluents actions bytes placed =
    SpellsPlanAt fluents actions bytes placed.plan placed.place

-- the bytes of the file of this name have a fault as a plan
abbrev pub IsFaultyPlan : List Name → List Name → Bytes → Bytes → Refusal → Type 0
IsFaultyPlan fluents actions name bytes refusal =
    (fault : InputFault) × HasPlanFault fluents actions bytes fault
    × (refusal ≡ text_fault name fault)

-- whether the plan is of the kind: for a class a table, of whatever class it was written for
abbrev pub is_of_kind : PlanKind → PlainPlan → Bool
is_of_kind (of_class class) (table written rules) = true
is_of_kind (of_class class) (automaton contexts rules) = false
is_of_kind with_contexts (table written rules) = false
is_of_kind with_contexts (automaton contexts rules) = true

-- the plan in the file of this name isn't of the kind, which is a fault at its place; or it is, and
-- then comes what Then says
abbrev pub KindThen : PlanKind → Bytes → Place → PlainPlan → (Answer → Type 0) → Answer → Type 0
KindThen kind name place plan Then answer =
    ((is_of_kind kind plan ≡ false)
    × (answer ≡ refused (text_fault name (record { kind = WrongPlanKind; place = place }))))
    ⊎ ((is_of_kind kind plan ≡ true) × Then answer)

-- the file of this name spells a plan
pub record HoldsPlan (held : Bytes → Held) (fluents actions : List Name) (name : Bytes)
    (plan : PlainPlan) : Type 0 where
  pub place : Place
  pub holds : Holds held (SpellsPlaced fluents actions) name
      (record { plan = plan; place = place })
