-- Which plans a document tells in full.
use Rattle.std.specs.Prelude.{◌<◌, ⊤}
use Rattle.std.specs.List.{All, AllPairs}
use Rattle.plan_rules.specs.Rules.{ContextRule, PlainPlan, PlanNext, PlanRule, always, automaton}
use Rattle.plan_rules.specs.Rules.{by_cases, table}
use Rattle.task_core.specs.Cubes.{Cube}

-- the literals stand in the rising order of their fluents: none is named twice
abbrev pub IsInOrder : Cube → Type 0
IsInOrder cube = AllPairs (λ lit other. lit.fluent.0 < other.fluent.0) cube

-- the next context is one number
abbrev pub IsOneNext : PlanNext → Type 0
IsOneNext (always context) = ⊤
IsOneNext (by_cases cases) = ⊥

-- a rule that an object tells in full: under each name stands one value, and its next context is a
-- number
pub record IsToldRule (rule : ContextRule) : Type 0 where
  pub cube : IsInOrder rule.cube
  pub next : IsOneNext rule.next

-- each rule is such a rule
abbrev pub IsToldInFull : PlainPlan → Type 0
IsToldInFull (table class rules) = All (λ (rule : PlanRule). IsInOrder rule.cube) rules
IsToldInFull (automaton contexts rules) = All IsToldRule rules
