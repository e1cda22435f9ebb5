-- The table of first matching rules: what rules denote as they are run, where of several rules that
-- match a state the first counts; and when such rules are a solution (Cimatti, Pistore, Roveri,
-- Traverso 2003: weak, strong and strong cyclic solutions).
use Rattle.std.specs.Prelude.{◌≡◌, ℕ, Bool, true, false, ◌&&◌, ◌==◌, List, ◌∷◌, ◌++◌, map, Option, Some, None, find}
use Rattle.std.specs.List.{Contains, filter, flat_map, range_with_len}
use Rattle.std.specs.Option.{option_map_or}
use Rattle.task_core.specs.Cubes.{matches}
use Rattle.task_core.specs.Solutions.{IsReached, IsSolution}
use Rattle.task_core.specs.Systems.{System, Exec, IsState}
use Rattle.task_core.specs.Tables.{Table}
use Rattle.task_core.specs.Vectors.{Vector, all_vectors}
use Rattle.task_core.specs.declared.classes.Class.{Class}
use Rattle.plan_rules.specs.Denoted.{can_execute}
use Rattle.plan_rules.specs.Rules.{PlanRule}

-- the rule that counts in a state: the first that matches it
abbrev pub first_rule : List PlanRule → Vector → Option PlanRule
first_rule rules v = find (λ (rule : PlanRule). matches rule.cube v) rules

-- whether the rule that counts in a state has the action
abbrev pub begins_with_action : List PlanRule → Vector → ℕ → Bool
begins_with_action rules v a =
    option_map_or (λ (rule : PlanRule). rule.action == a) (first_rule rules v) false

-- the pair of one state: with the action of the rule that counts there, where it can be executed
abbrev pub run_at : System → List PlanRule → Vector → Table
run_at sys rules v =
    map (λ a. (v, a)) (filter (λ a. begins_with_action rules v a && can_execute sys v a)
    (range_with_len 0 sys.actions))

-- the table of first matching rules
abbrev pub run_table : System → List PlanRule → Table
run_table sys rules = flat_map (run_at sys rules) (all_vectors sys.fluents)

-- in each state that this table may reach, the rule that counts can be followed
abbrev pub CanFollowFirst : System → List PlanRule → Type 0
CanFollowFirst sys rules =
    (s : Vector) (rule : PlanRule) → IsReached sys (run_table sys rules) s
    → first_rule rules s ≡ Some rule → Exec sys s rule.action

-- as they are run, the rules can be followed and are a solution of the class
pub record SolvesAsRun (class : Class) (sys : System) (rules : List PlanRule) : Type 0 where
  pub followed : CanFollowFirst sys rules
  pub solves : IsSolution class sys (run_table sys rules)

-- a rule counts in some state where it stands behind others: it matches the state, and none of these
-- does
pub record CountsBehind (sys : System) (before : List PlanRule) (rule : PlanRule) : Type 0 where
  pub state : Vector
  pub is_state : IsState sys state
  pub matched : matches rule.cube state ≡ true
  pub new : first_rule before state ≡ None

-- no rule is dead: each counts in some state
abbrev pub EachRuleCounts : System → List PlanRule → Type 0
EachRuleCounts sys rules =
    (before : List PlanRule) (rule : PlanRule) (after : List PlanRule)
    → rules ≡ before ++ rule ∷ after → CountsBehind sys before rule

-- in each state that the table of first matching rules may reach, all rules that match have the
-- action of the one that counts, so that it makes no difference whether the first counts or each
abbrev pub RulesAgree : System → List PlanRule → Type 0
RulesAgree sys rules =
    (s : Vector) (rule other : PlanRule) → IsReached sys (run_table sys rules) s
    → first_rule rules s ≡ Some rule → Contains rules other → matches other.cube s ≡ true
    → other.action ≡ rule.action

-- all that is asked of rules that are run: they can be followed and are a solution of the class, it
-- makes no difference which of the rules that match is taken, and no rule is dead
pub record AreGoodAsRun (class : Class) (sys : System) (rules : List PlanRule) : Type 0 where
  pub solve : SolvesAsRun class sys rules
  pub agree : RulesAgree sys rules
  pub each_counts : EachRuleCounts sys rules
