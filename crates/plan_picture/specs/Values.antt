-- What the code's own types stand for. A state's vector has as many values as the task has fluents.
use Rattle.std.specs.Prelude.{ℕ, List, map}
use Rattle.task_core.specs.States.{vector}
use Rattle.plan_picture.specs.Pictures.{PlainNode, PlainStep}
use Rattle.plan_picture.specs.Runs.{PlainEdge, PlainMove, PlainRun}
use Rattle.plan_picture.specs.declared.pictures.Node.{Node}
use Rattle.plan_picture.specs.declared.pictures.Picture.{Picture}
use Rattle.plan_picture.specs.declared.pictures.Step.{Step}
use Rattle.plan_picture.specs.declared.runs.Edge.{Edge}
use Rattle.plan_picture.specs.declared.runs.Move.{Move}
use Rattle.plan_picture.specs.declared.runs.Run.{Run}

abbrev pub step_value : Step → PlainStep
step_value step = record {
  action = step.action.0;
  outcome = step.outcome;
  target = step.target;
}

abbrev pub node_value : ℕ → Node → PlainNode
node_value n node = record {
  configuration = record { state = vector n node.state; context = node.context };
  initial = node.is_initial;
  goal = node.is_goal;
  steps = map step_value node.steps.items;
}

-- the nodes of a picture over n fluents
abbrev pub nodes_of : ℕ → Picture → List PlainNode
nodes_of n picture = map (node_value n) picture.nodes.items

abbrev pub move_value : Move → PlainMove
move_value move = record { rule = move.rule; outcome = move.outcome }

abbrev pub run_value : Run → PlainRun
run_value run = record {
  initial = run.initial;
  moves = map move_value run.moves.items;
  cycle_from = run.cycle_from;
}

abbrev pub edge_value : Edge → PlainEdge
edge_value edge = record { from = edge.from; step = step_value edge.step }
