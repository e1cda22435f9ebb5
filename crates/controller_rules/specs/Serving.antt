-- The part of a plan that serves: its rules each of which is the first that counts in some configuration
-- of a graph.
use Rattle.std.specs.Prelude.{◌≡◌, ◌↔◌, ℕ, Bool, true, false, List, [], ◌∷◌, if◌then◌else◌, length, max}
use Rattle.std.specs.Prelude.{slice_index_or}
use Rattle.exec_graph.specs.Graphs.{PlainGraph}
use Rattle.rule_lookup.specs.RunRules.{run_rules}
use Rattle.plan_rules.specs.Rules.{ContextRule, PlainPlan, PlanNext, always, automaton, by_cases}
use Rattle.plan_rules.specs.Rules.{table}
use Rattle.task_core.specs.ContextPlans.{first_context}
use Rattle.controller_rules.specs.Checks.{ServesIn}

-- the elements of a list whose marks are set, in their order
abbrev pub marked : {X : Type 0} → List Bool → List X → List X
marked [] xs = []
marked (mark ∷ marks) [] = []
marked (mark ∷ marks) (x ∷ xs) = if mark then x ∷ marked marks xs else marked marks xs

-- the context in which to go on; the first one where it depends on the state
abbrev pub next_named : PlanNext → ℕ
next_named (always context) = context
next_named (by_cases cases) = first_context

-- the greatest context that rules name; the first one where they name none
abbrev pub greatest_named : List ContextRule → ℕ
greatest_named [] = first_context
greatest_named (rule ∷ rules) = max (max rule.context (next_named rule.next)) (greatest_named rules)

-- a plan with those of its rules alone whose marks are set, and with no more contexts than these name
abbrev pub marked_part : List Bool → PlainPlan → PlainPlan
marked_part marks (table class rules) = table class (marked marks rules)
marked_part marks (automaton contexts rules) =
    automaton (greatest_named (marked marks rules)) (marked marks rules)

-- each mark says whether the rule of its number is the first that counts in some configuration
pub record MarkServing (rules : List ContextRule) (graph : PlainGraph) (marks : List Bool)
    : Type 0 where
  pub one_each : length marks ≡ length rules
  pub serving : (k : ℕ) → (slice_index_or marks k false ≡ true) ↔ ServesIn rules graph k

-- the part of a plan that serves in a graph
pub record IsServingPart (graph : PlainGraph) (plan part : PlainPlan) : Type 0 where
  pub marks : List Bool
  pub say : MarkServing (run_rules plan) graph marks
  pub is : part ≡ marked_part marks plan
