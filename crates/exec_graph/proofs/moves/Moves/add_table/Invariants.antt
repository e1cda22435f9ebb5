-- The moves are those by the rules before the place, which is that of a rule or the end.
use Rattle.std.proofs.Common.{◌≡◌, ◌≤◌, ◌-◌, length, map, take}
use Rattle.plan_rules.specs.Rules.{rule_of}
use Rattle.task_core.specs.States.{vector}
use Rattle.task_core.specs.Tasks.{action_count, fluent_count, system_of}
use Rattle.exec_graph.specs.Counting.{HaveTaken, moves_in_table}
use Rattle.exec_graph.specs.Moves.{AreMoves, HasGrown, moves_value}
use Rattle.exec_graph.proofs.moves.Moves.add_table.Given as goal

abbrev pub invariant-loop-place : goal.invariant-loop-place
invariant-loop-place l = record {
  value : moves_value (fluent_count l.here.task.now) l.self
      ≡ moves_in_table (system_of l.here.task.now) (vector (fluent_count l.here.task.now) l.here.state.now) (take l.place (map rule_of l.rules));
  place : l.place ≤ length l.rules;
  moves : AreMoves (fluent_count l.here.task.now) l.self;
  grown : HasGrown (fluent_count l.here.task.now) l.fn.self l.self;
  count : length l.taken.items ≡ action_count l.here.task.now;
  taken : HaveTaken (system_of l.here.task.now) (vector (fluent_count l.here.task.now) l.here.state.now) (moves_value (fluent_count l.here.task.now) l.self) l.taken.items;
}

abbrev pub decreases-loop-place : goal.decreases-loop-place
decreases-loop-place l = length l.rules - l.place
