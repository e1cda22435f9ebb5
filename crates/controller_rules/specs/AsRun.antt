-- A plan as it is run. Of the rules that count in a configuration the first one decides (of a table,
-- too, although it denotes the pairs of each rule that matches: Cimatti, Pistore, Roveri, Traverso
-- 2003). So these say when both readings agree, and that no rule is for nothing.
use Rattle.std.specs.Prelude.{◌≡◌, ◌⊎◌, ◌<◌, ◌==◌, ◌&&◌, ℕ, Bool, true, false, List, length, map, ⊤}
use Rattle.std.specs.Prelude.{slice_index_or}
use Rattle.std.specs.List.{Contains}
use Rattle.exec_graph.specs.Executions.{IsReachedBy}
use Rattle.rule_lookup.specs.RunRules.{run_rules}
use Rattle.plan_rules.specs.Rules.{ContextRule, PlainPlan, always, automaton, table}
use Rattle.task_core.specs.ContextPlans.{Configuration}
use Rattle.task_core.specs.Cubes.{matches}
use Rattle.task_core.specs.Systems.{System, IsState}
-- the table of the rules as they are run: at most one action for each state
pub use Rattle.first_match.specs.FirstMatch.{run_table}

-- a rule counts in a configuration: it is one of the context, and matches the state
abbrev pub counts_at : Configuration → ContextRule → Bool
counts_at x rule = (rule.context == x.context) && matches rule.cube x.state

-- two rules make the same move: they take the same action, and go on in the same context
pub record MakeSameMove (rule other : ContextRule) : Type 0 where
  pub action : rule.action ≡ other.action
  pub next : rule.next ≡ other.next

-- all rules that count in a configuration make the same move
abbrev pub HasOneMoveAt : List ContextRule → Configuration → Type 0
HasOneMoveAt rules x =
    (rule other : ContextRule) → Contains rules rule → Contains rules other
    → counts_at x rule ≡ true → counts_at x other ≡ true → MakeSameMove rule other

-- it is so in each configuration that the plan may reach: whichever of the rules that count there is
-- taken, the same is done
abbrev pub HasOneMove : System → PlainPlan → Type 0
HasOneMove sys plan =
    (x : Configuration) → IsReachedBy sys plan x → HasOneMoveAt (run_rules plan) x

-- the rule of a number is the first that counts in a configuration
pub record IsFirstAt (rules : List ContextRule) (x : Configuration) (number : ℕ) : Type 0 where
  pub counts : slice_index_or (map (counts_at x) rules) number false ≡ true
  pub first : (k : ℕ) → k < number → slice_index_or (map (counts_at x) rules) k false ≡ false

-- the rule of a number serves: in some configuration that the plan may reach it is the first that
-- counts
pub record Serves (sys : System) (plan : PlainPlan) (number : ℕ) : Type 0 where
  pub place : Configuration
  pub reached : IsReachedBy sys plan place
  pub first : IsFirstAt (run_rules plan) place number

-- no rule is dead: each of them serves
abbrev pub HasNoDeadRule : System → PlainPlan → Type 0
HasNoDeadRule sys plan = (k : ℕ) → k < length (run_rules plan) → Serves sys plan k

-- the rule of a number counts somewhere: in some state of the system, whether the plan may reach it
-- or not, it is the first that counts in its context
pub record CountsSomewhere (sys : System) (plan : PlainPlan) (number : ℕ) : Type 0 where
  pub place : Configuration
  pub is_state : IsState sys place.state
  pub first : IsFirstAt (run_rules plan) place number

-- no rule is hidden by those before it. This is what can be said of each rule where the states that a
-- plan may reach aren't listed
abbrev pub HasNoHiddenRule : System → PlainPlan → Type 0
HasNoHiddenRule sys plan = (k : ℕ) → k < length (run_rules plan) → CountsSomewhere sys plan k

-- a rule names a context: it is the rule's own, or the next one
abbrev pub NamesContext : ℕ → ContextRule → Type 0
NamesContext context rule = (rule.context ≡ context) ⊎ (rule.next ≡ always context)

-- the last context is the first one, or some rule names it. As the rules of a plan name none that
-- comes after it, there are no more contexts than the greatest that is named
abbrev pub NamesLastContext : PlainPlan → Type 0
NamesLastContext (table class rules) = ⊤
NamesLastContext (automaton contexts rules) =
    (contexts ≡ 1)
    ⊎ ((rule : ContextRule) × Contains rules rule × NamesContext contexts rule)
