-- The lists so far are those of the first actions.
use Rattle.std.proofs.Common.{◌≡◌, length}
use Rattle.exec_graph.specs.Effects.{AreEffectsOf}
use Rattle.exec_graph.proofs.effects.effects_of.Given as goal

abbrev pub invariant-loop-action : goal.invariant-loop-action
invariant-loop-action l = record {
  count : length l.lists.items ≡ l.action;
  known : AreEffectsOf l.task (record { lists = l.lists });
}
