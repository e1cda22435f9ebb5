-- the rules of a plan that count in a configuration, and what each of them leads to, as
-- lists.
use Rattle.std.specs.Prelude.{◌≡◌, ℕ, ◌<◌, Bool, false, true, not, ◌||◌, ◌&&◌, ◌==◌, List, [], ◌∷◌, ◌++◌}
use Rattle.std.specs.Prelude.{Option, Some, None, is_some, option_to_list, find, slice_index_or}
use Rattle.std.specs.Prelude.{if◌then◌else◌}
use Rattle.std.specs.List.{Contains, fold, list_any}
use Rattle.std.specs.Option.{option_map}
use Rattle.task_core.specs.Vectors.{Vector, same_vector}
use Rattle.task_core.specs.Systems.{System}
use Rattle.task_core.specs.ContextPlans.{Configuration, first_context}
use Rattle.task_core.specs.Cubes.{matches}
use Rattle.plan_rules.specs.Advices.{Advised, AreCasesOf, advised_by}
use Rattle.plan_rules.specs.Denoted.{can_execute, next_context, rule_at}
use Rattle.plan_rules.specs.Plans.{IsCubeOf}
use Rattle.plan_rules.specs.Rules.{PlanRule, PlanNext, ContextRule, PlainPlan, always}
use Rattle.plan_rules.specs.Rules.{table, automaton}

-- what a rule of a table says; it keeps the first context
abbrev pub advised_in_table : PlanRule → Advised
advised_in_table rule = record { action = rule.action; next = always first_context }

-- the configuration of an outcome; none where there is no next context
abbrev pub onward_to : PlanNext → Vector → List Configuration
onward_to next t =
    option_to_list (option_map (λ c. record { state = t; context = c }) (next_context next t))

-- whether two configurations are the same, and one more in a list unless it is there
abbrev pub same_configuration : Configuration → Configuration → Bool
same_configuration x y = same_vector x.state y.state && (x.context == y.context)

abbrev pub add_configuration : List Configuration → Configuration → List Configuration
add_configuration listed x =
    if list_any (same_configuration x) listed then listed else listed ++ x ∷ []

-- what is known of the moves from a configuration: those that follow it, each once,
-- whether a rule that counts has an action that can't be executed, and whether the plan doesn't go
-- on
pub record Moved : Type 0 where
  pub next : List Configuration
  pub refused : Bool
  pub lost : Bool

-- with one outcome more
abbrev pub with_outcome : PlanNext → Moved → Vector → Moved
with_outcome next m t = record {
  next = fold add_configuration m.next (onward_to next t);
  refused = m.refused;
  lost = m.lost || not (is_some (next_context next t));
}

-- Private: with one outcome more, where it leads to a state
abbrev pub with_if_state : (Vector → Bool) → PlanNext → Moved → Vector → Moved
with_if_state inside next m t = if inside t then with_outcome next m t else m

-- with one rule more that counts in the state s
abbrev pub with_rule : System → Vector → Moved → Advised → Moved
with_rule sys s m a = let all = fold (with_outcome a.next) m (sys.next s a.action) in record {
  next = all.next;
  refused = all.refused || not (can_execute sys s a.action);
  lost = all.lost;
}

-- no moves yet
abbrev pub no_moves : Bool → Moved
no_moves lost = record { next = []; refused = false; lost = lost }

-- the moves by the rule of an automaton that counts, where there is one
abbrev pub moves_by : System → Vector → Option Advised → Moved
moves_by sys s None = no_moves true
moves_by sys s (Some a) = with_rule sys s (no_moves false) a

-- with one rule of a table more, if it matches the state
abbrev pub with_table_rule : System → Vector → Moved → PlanRule → Moved
with_table_rule sys s m rule =
    if matches rule.cube s then with_rule sys s m (advised_in_table rule) else m

-- Private: the moves already have those by an action that keeps the first context
pub record HasTaken (sys : System) (s : Vector) (m : Moved) (action : ℕ) : Type 0 where
  pub next : (t : Vector) → Contains (sys.next s action) t
      → Contains m.next (record { state = t; context = first_context })
  pub refused : can_execute sys s action ≡ false → m.refused ≡ true

-- Private: they have those by each action that is marked
abbrev pub HaveTaken : System → Vector → Moved → List Bool → Type 0
HaveTaken sys s m taken =
    (action : ℕ) → slice_index_or taken action false ≡ true → HasTaken sys s m action

-- the moves by the rules of a table
abbrev pub moves_in_table : System → Vector → List PlanRule → Moved
moves_in_table sys s rules = fold (with_table_rule sys s) (no_moves false) rules

-- the moves from a configuration
abbrev pub moves_from : System → PlainPlan → Configuration → Moved
moves_from sys (table class rules) x = moves_in_table sys x.state rules
moves_from sys (automaton contexts rules) x =
    moves_by sys x.state (option_map advised_by (rule_at rules x.state x.context))

-- Private: the first of the rules that matches a state
abbrev pub first_matching : Vector → List ContextRule → Option ContextRule
first_matching s rules = find (λ (rule : ContextRule). matches rule.cube s) rules

-- Private: a rule names fluents below n and an action below m alone
pub record IsRuleWithin (n m : ℕ) (rule : ContextRule) : Type 0 where
  pub cube : IsCubeOf n rule.cube
  pub action : rule.action < m
  pub next : AreCasesOf n rule.next
