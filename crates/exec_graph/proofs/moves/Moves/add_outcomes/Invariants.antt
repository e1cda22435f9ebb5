-- The moves are those of before with the outcomes so far that are states.
use Rattle.std.proofs.Common.{◌≡◌, take}
use Rattle.std.specs.List.{fold}
use Rattle.task_core.specs.States.{vector}
use Rattle.task_core.specs.Tasks.{fluent_count, in_space, states_after}
use Rattle.exec_graph.specs.Counting.{with_if_state}
use Rattle.plan_rules.specs.Advices.{onward_value}
use Rattle.exec_graph.specs.Moves.{AreMoves, HasGrown, moves_value}
use Rattle.exec_graph.proofs.moves.Moves.add_outcomes.Given as goal

abbrev pub invariant-loop-outcome : goal.invariant-loop-outcome
invariant-loop-outcome l = record {
  value : moves_value (fluent_count l.here.task.now) l.self
      ≡ fold (with_if_state (in_space l.here.task.now) (onward_value l.rule.onward)) (moves_value (fluent_count l.here.task.now) l.fn.self)
      (take l.outcome (states_after l.here.task.now (vector (fluent_count l.here.task.now) l.here.state.now) l.rule.action.0));
  moves : AreMoves (fluent_count l.here.task.now) l.self;
  grown : HasGrown (fluent_count l.here.task.now) l.fn.self l.self;
}
