-- The rules of a plan with contexts that is given by sets: of the states in which, in a context, an
-- action is taken and a context is gone on in.
use Rattle.std.specs.Prelude.{ℕ, List, map}
use Rattle.std.specs.List.{flat_map, range_with_len}
use Rattle.task_core.specs.Cubes.{Cube, SetOfVectors, cubes_of}
use Rattle.task_core.specs.Systems.{System}
use Rattle.plan_rules.specs.Rules.{ContextRule, always}
use Rattle.plan_theory.specs.Layers.{action_numbers}

-- the states of a context, a next context and an action
abbrev pub StatesOfRules : Type 0
StatesOfRules = ℕ → ℕ → ℕ → SetOfVectors

-- the rule for a cube
abbrev pub rule_for : ℕ → ℕ → ℕ → Cube → ContextRule
rule_for context next a cube =
    record { context = context; cube = cube; action = a; next = always next }

-- the rules for all cubes of some states
abbrev pub rules_for : ℕ → ℕ → ℕ → ℕ → SetOfVectors → List ContextRule
rules_for fluents context next a set = map (rule_for context next a) (cubes_of fluents set)

-- their rules: one for each cube of their states
abbrev pub action_rules : System → StatesOfRules → ℕ → ℕ → ℕ → List ContextRule
action_rules sys states c j a =
    map (λ cube. record { context = c; cube = cube; action = a; next = always j })
    (cubes_of sys.fluents (states c j a))

abbrev pub next_rules : System → StatesOfRules → ℕ → ℕ → List ContextRule
next_rules sys states c j = flat_map (action_rules sys states c j) (action_numbers sys)

-- those of a context, for each of these next contexts
abbrev pub rules_in_context : System → StatesOfRules → (ℕ → List ℕ) → ℕ → List ContextRule
rules_in_context sys states nexts c = flat_map (next_rules sys states c) (nexts c)

-- the contexts from 1 to the last in rising number, for each its next contexts, and for each of
-- them its actions
abbrev pub context_rules : System → StatesOfRules → (ℕ → List ℕ) → ℕ → List ContextRule
context_rules sys states nexts last =
    flat_map (rules_in_context sys states nexts) (range_with_len 1 last)
