-- Private: the configurations that were found, as the code holds them, and the lists of steps that
-- it makes.
use Rattle.std.specs.Prelude.{◌≡◌, ◌↔◌, ℕ, zero, suc, Bool, All, IsTrue, List, [], ◌∷◌, ◌++◌}
use Rattle.std.specs.Prelude.{Option, Some, None, map, option_to_list, slice_get, if◌then◌else◌}
use Rattle.std.specs.List.{Contains, range_with_len}
use Rattle.std.specs.Option.{option_map, option_and_then}
use Rattle.task_core.specs.States.{IsWithin}
use Rattle.task_core.specs.Vectors.{Vector}
use Rattle.task_core.specs.Systems.{System, goal_states}
use Rattle.task_core.specs.ContextPlans.{Configuration, first_context}
use Rattle.plan_rules.specs.Advices.{Advised, advised_by}
use Rattle.plan_rules.specs.Denoted.{advises, next_context, rule_at}
use Rattle.plan_rules.specs.Rules.{PlainPlan, PlanNext, PlanRule, always, table, automaton}
use Rattle.exec_graph.specs.Counting.{same_configuration}
use Rattle.exec_graph.specs.Moves.{configuration_of}
use Rattle.exec_graph.specs.declared.graphs.Place.{Place}
use Rattle.plan_picture.specs.Pictures.{PlainNode, PlainStep}

abbrev pub configurations_of : ℕ → List Place → List Configuration
configurations_of n places = map (configuration_of n) places

-- Private: no state of the places has a true fluent from n on
abbrev pub AreWithin : ℕ → List Place → Type 0
AreWithin n places = All (λ (place : Place). IsWithin n place.state) places

-- Private: the first place of a configuration in a list whose places are counted from k
abbrev pub place_from : ℕ → List Configuration → Configuration → Option ℕ
place_from k [] x = None
place_from k (y ∷ ys) x = if same_configuration y x then Some k else place_from (suc k) ys x

-- Private: the place of the new state t with the context in which to go on there
abbrev pub place_after : List Configuration → PlanNext → Vector → Option ℕ
place_after places next t =
    option_and_then (λ context. place_from 0 places (record { state = t; context = context }))
    (next_context next t)

-- Private: the step by one outcome of what is advised, if it leads to a state at one of the places
abbrev pub outcome_steps : List Configuration → Advised → ℕ → Option Vector → List PlainStep
outcome_steps places advised outcome t =
    option_to_list
    (option_map (λ i. record { action = advised.action; outcome = outcome; target = i })
    (option_and_then (place_after places advised.next) t))

-- Private: the steps by outcomes whose numbers begin with k
abbrev pub outcomes_steps : List Configuration → Advised → ℕ → List (Option Vector)
    → List PlainStep
outcomes_steps places advised k [] = []
outcomes_steps places advised k (t ∷ ts) =
    outcome_steps places advised k t ++ outcomes_steps places advised (suc k) ts

-- Private: to what each outcome of action a leads from the state s
abbrev pub outcomes_from : System → Vector → ℕ → List (Option Vector)
outcomes_from sys s a = map (sys.after s a) (range_with_len 0 (sys.outcomes a))

-- Private: the steps by what is advised in the state s
abbrev pub steps_by : System → List Configuration → Vector → Advised → List PlainStep
steps_by sys places s advised =
    outcomes_steps places advised 0 (outcomes_from sys s advised.action)

abbrev pub steps_if : System → List Configuration → Vector → Option Advised → List PlainStep
steps_if sys places s None = []
steps_if sys places s (Some advised) = steps_by sys places s advised

-- Private: what is advised by a table that has the action; it keeps the first context
abbrev pub advised_in_table : ℕ → Advised
advised_in_table action = record { action = action; next = always first_context }

-- Private: the steps of a table by the actions below a number
abbrev pub table_steps_below : System → List Configuration → List PlanRule → Vector → ℕ
    → List PlainStep
table_steps_below sys places rules s zero = []
table_steps_below sys places rules s (suc a) =
    table_steps_below sys places rules s a
    ++ (if advises rules s a then steps_by sys places s (advised_in_table a) else [])

-- Private: the steps of a plan from x
abbrev pub plan_steps : System → PlainPlan → List Configuration → Configuration → List PlainStep
plan_steps sys (table class rules) places x =
    table_steps_below sys places rules x.state sys.actions
plan_steps sys (automaton contexts rules) places x =
    steps_if sys places x.state (option_map advised_by (rule_at rules x.state x.context))

-- Private: the node shows the configuration x with a mark whether it is initial
pub record Shows (sys : System) (plan : PlainPlan) (places : List Configuration)
    (x : Configuration) (mark : Bool) (node : PlainNode) : Type 0 where
  pub configuration : node.configuration ≡ x
  pub initial : node.initial ≡ mark
  pub goal : IsTrue node.goal ↔ Contains (goal_states sys) x.state
  pub steps : node.steps ≡ plan_steps sys plan places x

-- Private: the nodes show these places, with marks by their numbers
abbrev pub ShowEach : System → PlainPlan → List Configuration → (ℕ → Bool) → List PlainNode
    → Type 0
ShowEach sys plan places initial nodes = (i : ℕ) (node : PlainNode) (x : Configuration)
    → slice_get nodes i ≡ Some node → slice_get places i ≡ Some x
    → Shows sys plan places x (initial i) node
