-- Runs along the edges of a picture: an initial state, and moves, each by a rule of the plan to one
-- outcome of its action. A run may come back to a node where it was, and then it repeats from there.
use Rattle.std.specs.Prelude.{ℕ, ◌==◌, ◌&&◌, Bool, true, false, List, [], ◌∷◌, Option, None, Some}
use Rattle.std.specs.Prelude.{find, if◌then◌else◌, map, slice_get}
use Rattle.std.specs.Option.{option_and_then, option_map, option_map_or}
use Rattle.plan_rules.specs.Rules.{PlainPlan, table, automaton}
use Rattle.plan_picture.specs.Pictures.{PlainNode, PlainStep}

-- a move: the number of a rule, from 0 in the order of the plan's text, and that of an outcome, from 0
-- among all outcomes of the rule's action
pub record PlainMove : Type 0 where
  pub rule : ℕ
  pub outcome : ℕ

-- a run: the number of an initial state, the moves, and the number of the move, from 0, from which it
-- repeats, if it does
pub record PlainRun : Type 0 where
  pub initial : ℕ
  pub moves : List PlainMove
  pub cycle_from : Option ℕ

-- an edge: the place of a node, and a step from there
pub record PlainEdge : Type 0 where
  pub from : ℕ
  pub step : PlainStep

-- the action of each rule of a plan, in the order of its text
abbrev pub rule_actions : PlainPlan → List ℕ
rule_actions (table class rules) = map (λ rule. rule.action) rules
rule_actions (automaton contexts rules) = map (λ rule. rule.action) rules

-- the step by this outcome of this action
abbrev pub step_by : (action outcome : ℕ) → List PlainStep → Option PlainStep
step_by action outcome = find (λ step. (step.action == action) && (step.outcome == outcome))

-- the step from the node at a place by a move, where the rules have these actions
abbrev pub step_at : List PlainNode → List ℕ → ℕ → PlainMove → Option PlainStep
step_at nodes actions place move =
    option_and_then (λ (action : ℕ). option_and_then
    (λ (node : PlainNode). step_by action move.outcome node.steps) (slice_get nodes place))
    (slice_get actions move.rule)

-- the edges on which moves lead from the node at a place; there are none where some move has no step
abbrev pub edges_along : List PlainNode → List ℕ → ℕ → List PlainMove → Option (List PlainEdge)
edges_along nodes actions place [] = Some []
edges_along nodes actions place (move ∷ moves) =
    option_and_then (λ (step : PlainStep).
    option_map (λ (edges : List PlainEdge). record { from = place; step = step } ∷ edges)
    (edges_along nodes actions step.target moves)) (step_at nodes actions place move)

-- where a run ends that begins at a place
abbrev pub end_of : ℕ → List PlainEdge → ℕ
end_of place [] = place
end_of place (edge ∷ edges) = end_of edge.step.target edges

-- a run that repeats from a move ends where it was before that move
abbrev pub comes_round : Option ℕ → ℕ → List PlainEdge → Bool
comes_round None place edges = true
comes_round (Some move) place edges =
    option_map_or (λ (edge : PlainEdge). edge.from == end_of place edges) (slice_get edges move) false

-- an execution may begin at the node of this place
abbrev pub begins_at : List PlainNode → ℕ → Bool
begins_at nodes place = option_map_or (λ (node : PlainNode). node.initial) (slice_get nodes place) false

-- the edges of a run in the picture of a plan, whose first nodes are the initial states; there are none
-- where the plan has no such run
abbrev pub run_edges : PlainPlan → List PlainNode → PlainRun → Option (List PlainEdge)
run_edges plan nodes run =
    if begins_at nodes run.initial
    then option_and_then (λ (edges : List PlainEdge).
    if comes_round run.cycle_from run.initial edges then Some edges else None)
    (edges_along nodes (rule_actions plan) run.initial run.moves)
    else None
