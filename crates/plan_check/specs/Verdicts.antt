-- What a verdict on a table plan says, for each class of plans (Cimatti, Pistore, Roveri, Traverso
-- 2003). It speaks of the paths of the table that the rules denote, and of no graph.
use Rattle.std.specs.Prelude.{◌≡◌, ◌⊎◌, ◌<◌, ◌≤◌, ℕ, true, List, ◌∷◌, length, Option, Some, None, ⊤}
use Rattle.std.specs.List.{Contains}
use Rattle.task_core.specs.Vectors.{Vector}
use Rattle.task_core.specs.Systems.{System, Exec, goal_states}
use Rattle.task_core.specs.Tables.{Table, IsTerminal, Leads}
use Rattle.task_core.specs.Paths.{IsPath, last_of}
use Rattle.task_core.specs.Solutions.{EndsInGoal, HasNoCycle, IsReached, IsWeakSolution}
use Rattle.task_core.specs.Solutions.{MayEnd, MayReachGoal}
use Rattle.task_core.specs.Cubes.{matches}
use Rattle.task_core.specs.declared.classes.Class.{Class}
use Rattle.task_core.specs.declared.classes.Class.TheVariants.{Weak, Strong, Cyclic}
use Rattle.plan_rules.specs.Rules.{PlanRule}
use Rattle.plan_rules.specs.Denoted.{denoted}
use Rattle.exec_graph.specs.Executions.{HasBadRule}
use Rattle.plan_check.specs.declared.verdicts.Reason.{Reason}
use Rattle.plan_check.specs.declared.verdicts.Reason.TheVariants.{Unexecutable, Stuck, Terminal}
use Rattle.plan_check.specs.declared.verdicts.Reason.TheVariants.{Cycle, Unreachable, Formula}
use Rattle.plan_check.specs.declared.verdicts.Verdict.{Verdict}
use Rattle.plan_check.specs.declared.verdicts.Verdict.TheVariants.{Yes, No}

-- some rule matches a state that the table may reach, and its action can't be executed there
pub record ReachesBadRule (sys : System) (rules : List PlanRule) : Type 0 where
  pub state : Vector
  pub reached : IsReached sys (denoted sys rules) state
  pub rule : HasBadRule sys rules state

-- each rule that matches a state which the table may reach has an action that can be executed there
abbrev pub CanFollowRules : System → List PlanRule → Type 0
CanFollowRules sys rules = (s : Vector) (rule : PlanRule) → IsReached sys (denoted sys rules) s
    → Contains rules rule → matches rule.cube s ≡ true → Exec sys s rule.action

-- some path leads from an initial state to a terminal state outside the goal
pub record MayEndOutside (sys : System) (table : Table) : Type 0 where
  pub end : Vector
  pub reached : IsReached sys table end
  pub terminal : IsTerminal table end
  pub outside : Contains (goal_states sys) end → ⊥

-- some path of one step or more, from a state that the table may reach, ends where it began
pub record MayComeRound (sys : System) (table : Table) : Type 0 where
  pub state : Vector
  pub reached : IsReached sys table state
  pub next : Vector
  pub rest : List Vector
  pub path : IsPath (Leads sys table) state (next ∷ rest)
  pub round : last_of next rest ≡ state

-- no path leads from some initial state to a terminal goal state
pub record MayMissGoal (sys : System) (table : Table) : Type 0 where
  pub start : Vector
  pub initial : Contains sys.initial start
  pub misses : MayReachGoal sys table start → ⊥

-- no path leads from some state that the table may reach to a terminal state
pub record MayNeverEnd (sys : System) (table : Table) : Type 0 where
  pub state : Vector
  pub reached : IsReached sys table state
  pub endless : MayEnd sys table state → ⊥

-- from wherever it is, the table may come to an end
abbrev pub MayAlwaysEnd : System → Table → Type 0
MayAlwaysEnd sys table = (s : Vector) → IsReached sys table s → MayEnd sys table s

-- the reason speaks against the rules as a plan of the class. Of a strong plan it isn't asked what
-- is out of reach: where no execution comes round, each of them ends. A table has no contexts in
-- which it could be stuck, and no goal formula.
abbrev pub HasReason : System → List PlanRule → Reason → Class → Type 0
HasReason sys rules Unexecutable class = ReachesBadRule sys rules
HasReason sys rules Stuck class = ⊥
HasReason sys rules Terminal Weak = ⊥
HasReason sys rules Terminal Strong = MayEndOutside sys (denoted sys rules)
HasReason sys rules Terminal Cyclic = MayEndOutside sys (denoted sys rules)
HasReason sys rules Cycle Weak = ⊥
HasReason sys rules Cycle Strong = MayComeRound sys (denoted sys rules)
HasReason sys rules Cycle Cyclic = ⊥
HasReason sys rules Unreachable Weak = MayMissGoal sys (denoted sys rules)
HasReason sys rules Unreachable Strong = ⊥
HasReason sys rules Unreachable Cyclic = MayNeverEnd sys (denoted sys rules)
HasReason sys rules Formula class = ⊥

-- the reason doesn't speak against them: its opposite, which says what there is in place of what
-- would be missing
abbrev pub IsFreeOf : System → List PlanRule → Reason → Class → Type 0
IsFreeOf sys rules Unexecutable class = CanFollowRules sys rules
IsFreeOf sys rules Stuck class = ⊤
IsFreeOf sys rules Terminal Weak = ⊤
IsFreeOf sys rules Terminal Strong = EndsInGoal sys (denoted sys rules)
IsFreeOf sys rules Terminal Cyclic = EndsInGoal sys (denoted sys rules)
IsFreeOf sys rules Cycle Weak = ⊤
IsFreeOf sys rules Cycle Strong = HasNoCycle sys (denoted sys rules)
IsFreeOf sys rules Cycle Cyclic = ⊤
IsFreeOf sys rules Unreachable Weak = IsWeakSolution sys (denoted sys rules)
IsFreeOf sys rules Unreachable Strong = ⊤
IsFreeOf sys rules Unreachable Cyclic = MayAlwaysEnd sys (denoted sys rules)
IsFreeOf sys rules Formula class = ⊤

-- which of the reasons is tried first, second and so on
abbrev pub turn_of : Reason → ℕ
turn_of Unexecutable = 0
turn_of Stuck = 1
turn_of Terminal = 2
turn_of Cycle = 3
turn_of Unreachable = 4
turn_of Formula = 5

-- the reason speaks against the rules, and none that is tried before it does
pub record IsFirstReason (sys : System) (rules : List PlanRule) (reason : Reason)
    (class : Class) : Type 0 where
  pub has : HasReason sys rules reason class
  pub first : (earlier : Reason) → turn_of earlier < turn_of reason
      → IsFreeOf sys rules earlier class

-- some path of so many steps begins in an initial state
pub record HasExecution (sys : System) (table : Table) (steps : ℕ) : Type 0 where
  pub start : Vector
  pub initial : Contains sys.initial start
  pub rest : List Vector
  pub path : IsPath (Leads sys table) start rest
  pub long : length rest ≡ steps

-- the largest number of steps of a path that begins in an initial state; 0 where there is no
-- initial state
pub record IsLongest (sys : System) (table : Table) (steps : ℕ) : Type 0 where
  pub most : (n : ℕ) → HasExecution sys table n → n ≤ steps
  pub attained : HasExecution sys table steps
      ⊎ ((steps ≡ 0) × ((s : Vector) → Contains sys.initial s → ⊥))

-- the bound that comes with a yes: for a strong plan the length of its longest execution, else none
abbrev pub IsBound : System → Table → Class → Option ℕ → Type 0
IsBound sys table Weak bound = bound ≡ None
IsBound sys table Strong bound = (steps : ℕ) × (bound ≡ Some steps) × IsLongest sys table steps
IsBound sys table Cyclic bound = bound ≡ None

-- a yes: no reason speaks against the rules as a plan of the class, and the bound is theirs
pub record IsYes (sys : System) (rules : List PlanRule) (class : Class)
    (bound : Option ℕ) : Type 0 where
  pub free : (reason : Reason) → IsFreeOf sys rules reason class
  pub bounded : IsBound sys (denoted sys rules) class bound

-- the verdict on the rules as a plan of the class: the first reason that speaks against them, else
-- yes
abbrev pub IsVerdict : System → List PlanRule → Class → Verdict → Type 0
IsVerdict sys rules class (Yes bound) = IsYes sys rules class bound
IsVerdict sys rules class (No reason) = IsFirstReason sys rules reason class

-- the verdict is a yes
abbrev pub SaysYes : Verdict → Type 0
SaysYes (Yes bound) = ⊤
SaysYes (No reason) = ⊥
