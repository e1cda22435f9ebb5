-- What plans denote. A table plan denotes the table of all pairs of a state and an action that can
-- be executed there and that some rule which matches the state has (Cimatti, Pistore, Roveri,
-- Traverso 2003).
-- An automaton denotes a context plan (Pistore, Traverso 2001), in which the first rule of the
-- context that matches the state counts.
use Rattle.std.specs.Prelude.{ℕ, Bool, true, ◌&&◌, ◌≡◌, List, map, ◌==◌, Option, Some, find}
use Rattle.std.specs.List.{Contains, filter, flat_map, list_any, range_with_len}
use Rattle.std.specs.Option.{option_map, option_and_then}
use Rattle.task_core.specs.Vectors.{Vector, all_vectors}
use Rattle.task_core.specs.Systems.{System, Exec, IsVector}
use Rattle.task_core.specs.Tables.{Table}
use Rattle.task_core.specs.ContextPlans.{ContextPlan}
use Rattle.task_core.specs.Cubes.{matches}
use Rattle.plan_rules.specs.Rules.{PlanRule, PlanCase, PlanNext, always, by_cases, ContextRule}

-- whether an action can be executed
abbrev pub can_execute : System → Vector → ℕ → Bool
can_execute sys v a = list_any (λ _. true) (sys.next v a)

-- whether some rule that matches v has the action
abbrev pub advises : List PlanRule → Vector → ℕ → Bool
advises rules v a = list_any (λ (rule : PlanRule). (rule.action == a) && matches rule.cube v) rules

-- the pairs of one state
abbrev pub denoted_at : System → List PlanRule → Vector → Table
denoted_at sys rules v =
    map (λ a. (v, a)) (filter (λ a. advises rules v a && can_execute sys v a)
    (range_with_len 0 sys.actions))

-- the table that the rules denote
abbrev pub denoted : System → List PlanRule → Table
denoted sys rules = flat_map (denoted_at sys rules) (all_vectors sys.fluents)

-- no rule matches a vector, be it a state or not, in which its action can't be executed
abbrev pub IsExecutable : System → List PlanRule → Type 0
IsExecutable sys rules =
    (rule : PlanRule) (v : Vector) → Contains rules rule → IsVector sys v → matches rule.cube v
    ≡ true
    → Exec sys v rule.action

-- the rule of a context that counts in a state: the first that matches it
abbrev pub rule_at : List ContextRule → Vector → ℕ → Option ContextRule
rule_at rules s c = find (λ (rule : ContextRule). (rule.context == c) && matches rule.cube s) rules

-- the context in which to go on in the new state t: that of the first case that matches it
abbrev pub next_context : PlanNext → Vector → Option ℕ
next_context (always context) t = Some context
next_context (by_cases cases) t =
    option_map (λ (case : PlanCase). case.context)
    (find (λ (case : PlanCase). matches case.cube t) cases)

-- the context plan that the rules denote
abbrev pub denoted_contexts : List ContextRule → ContextPlan
denoted_contexts rules = record {
  act = λ s c. option_map (λ (rule : ContextRule). rule.action) (rule_at rules s c);
  ctxt =
      λ s c t. option_and_then (λ (rule : ContextRule). next_context rule.next t)
      (rule_at rules s c);
}
