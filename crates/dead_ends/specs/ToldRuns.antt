-- Runs to the goal from where there is no plan of a class, and the outcomes that leave them to a dead end.
use Rattle.std.specs.Prelude.{◌≡◌, ◌<◌, ◌++◌, ℕ, ⊤, [], List, None, Option, Some, map, slice_get}
use Rattle.dead_ends.specs.DeadEnds.{HasPlanFrom, IsDeadEnd, from_state}
use Rattle.dead_ends.specs.Planners.{IsBrief}
use Rattle.dead_ends.specs.Strays.{PlainStray, run_strays}
use Rattle.dead_ends.specs.Texts.{dead_end_line, run_text}
use Rattle.plan_rules.specs.Denoted.{denoted}
use Rattle.plan_rules.specs.Rules.{PlanRule, table}
use Rattle.plan_witness.specs.Ends.{IsEndInside}
use Rattle.plan_witness.specs.Runs.{IsShortestRun, PlainRun}
use Rattle.task_core.specs.Names.{Name}
use Rattle.task_core.specs.Solutions.{IsSolution}
use Rattle.task_core.specs.Systems.{System}
use Rattle.task_core.specs.Tables.{IsTable}
use Rattle.task_core.specs.Vectors.{Vector}
use Rattle.task_core.specs.declared.classes.Class.{Class}
use Rattle.task_core.specs.declared.classes.Class.TheVariants.{Weak}

-- the state at a place of a list is a dead end for the class, and from each before it there is a plan
pub record IsFirstDeadEnd (class : Class) (sys : System) (states : List Vector) (place : ℕ)
    : Type 0 where
  pub state : Vector
  pub placed : slice_get states place ≡ Some state
  pub dead : IsDeadEnd class sys state
  pub first : (k : ℕ) (other : Vector) → k < place → slice_get states k ≡ Some other
      → HasPlanFrom class sys other

-- the run is one of a weak plan from the initial states of a system, than which no table is shorter, to a
-- goal state in which the plan ends; no other such run of the plan is shorter
pub record IsWeakRun (sys : System) (run : PlainRun) : Type 0 where
  pub rules : List PlanRule
  pub is_table : IsTable sys (denoted sys rules)
  pub solves : IsSolution Weak sys (denoted sys rules)
  pub brief : IsBrief sys (denoted sys rules)
  pub shortest : IsShortestRun sys (table Weak rules) (IsEndInside sys (table Weak rules)) run

-- the states to which the outcomes lead that leave a run
abbrev pub stray_states : System → PlainRun → List Vector
stray_states sys run =
    map (λ (stray : PlainStray). stray.after) (run_strays sys run)

-- an outcome that leaves the run leads to a dead end for the class; from where each before it leads there
-- is a plan
pub record IsFirstLost (class : Class) (sys : System) (run : PlainRun) (stray : PlainStray)
    : Type 0 where
  pub place : ℕ
  pub placed : slice_get (run_strays sys run) place ≡ Some stray
  pub first : IsFirstDeadEnd class sys (stray_states sys run) place

-- of an outcome that leaves a run: it is the first that leads to a dead end
abbrev pub IsLostIf : Class → System → PlainRun → Option PlainStray → Type 0
IsLostIf class sys run None = ⊤
IsLostIf class sys run (Some stray) = IsFirstLost class sys run stray

-- what is said of it
abbrev pub note_text : List Name → Class → Option PlainStray → List ℕ
note_text fluents class None = []
note_text fluents class (Some stray) = dead_end_line fluents class stray

-- a run that is told: it begins in the initial state of this number, the first from which there is no
-- plan of the class, and is one of a weak plan from there
pub record IsTold (class : Class) (sys : System) (number : ℕ) (run : PlainRun) : Type 0 where
  pub first : IsFirstDeadEnd class sys sys.initial number
  pub begins : first.state ≡ run.start.state
  pub weak : IsWeakRun (from_state sys run.start.state) run

-- the text is that of such a run, and of the first outcome that leaves it to a dead end, if one is said
pub record IsRunTold (class : Class) (sys : System) (fluents actions : List Name) (text : List ℕ)
    : Type 0 where
  pub number : ℕ
  pub run : PlainRun
  pub told : IsTold class sys number run
  pub lost : Option PlainStray
  pub is_lost : IsLostIf class sys run lost
  pub written : text ≡ run_text fluents actions number run ++ note_text fluents class lost
