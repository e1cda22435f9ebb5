-- What a plan decides: in each context, the move of the first rule that matches the state.
use Rattle.std.specs.Prelude.{◌≡◌, ◌≤◌, ℕ, List, None, Option, Some, find, ⊤}
use Rattle.std.specs.List.{All}
use Rattle.std.specs.Option.{option_map}
use Rattle.rule_lookup.specs.RunRules.{run_rules}
use Rattle.plan_rules.specs.Denoted.{rule_at}
use Rattle.plan_rules.specs.Rules.{ContextRule, PlainPlan, PlanNext, always, automaton, by_cases, table}
use Rattle.task_core.specs.Cubes.{matches}
use Rattle.task_core.specs.Vectors.{Vector}
use Rattle.controller_code.specs.Steps.{Decides, start_of}
use Rattle.controller_code.specs.declared.growing.Known.{Known}
use Rattle.controller_code.specs.declared.growing.Question.{Question}
use Rattle.controller_code.specs.declared.growing.Question.TheVariants.{Decided, Fluent, Nothing}
use Rattle.controller_code.specs.declared.left_rules.LeftRule.{LeftRule}
use Rattle.controller_code.specs.declared.steps.Move.{Move}
use Rattle.controller_code.specs.declared.steps.Step.{Step}
use Rattle.controller_code.specs.declared.trees.Tree.{Tree}

-- the next context; 0 where it depends on the new state, as it never does in a controller
abbrev pub next_number : PlanNext → ℕ
next_number (always context) = context
next_number (by_cases cases) = 0

abbrev pub move_of : ContextRule → Move
move_of rule = record { action = record { 0 = rule.action }; next = next_number rule.next }

-- what rules decide in a context and a state: the move of the first rule of the context that matches
abbrev pub plan_move : List ContextRule → ℕ → Vector → Option Move
plan_move rules context v = option_map move_of (rule_at rules v context)

-- how many contexts a plan has; a table has one
abbrev pub contexts_of : PlainPlan → ℕ
contexts_of (table class rules) = 1
contexts_of (automaton contexts rules) = contexts

-- the tree decides as the plan does, in each of its contexts and at every state
abbrev pub DecidesAs : Tree → PlainPlan → Type 0
DecidesAs tree plan =
    (context : ℕ) (v : Vector) → 1 ≤ context → context ≤ contexts_of plan
    → Decides tree.steps.items v (start_of tree context) (plan_move (run_rules plan) context v)

-- what is left of rules decides the move of the first that matches
abbrev pub first_move : List LeftRule → Vector → Option Move
first_move rules v =
    option_map (λ (rule : LeftRule). rule.action)
    (find (λ (rule : LeftRule). matches rule.cube.items v) rules)

-- from step k on, what is left of rules is decided at every state
pub record DecidesFirst (steps : List Step) (k : ℕ) (rules : List LeftRule) : Type 0 where
  pub answer : (v : Vector) → Decides steps v k (first_move rules v)

-- what is known is right: from each of these steps on, its rules are decided
abbrev pub AreKnown : List Step → List Known → Type 0
AreKnown steps known =
    All (λ (some : Known). DecidesFirst steps some.step some.rules.items) known

-- what is to be done fits what the rules that are left decide
abbrev pub MatchesQuestion : Question → List LeftRule → Type 0
MatchesQuestion Nothing rules = (v : Vector) → first_move rules v ≡ None
MatchesQuestion (Decided move) rules = (v : Vector) → first_move rules v ≡ Some move
MatchesQuestion (Fluent fluent) rules = ⊤
