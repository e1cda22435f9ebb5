-- The effects so far are those of the first outcomes.
use Rattle.std.proofs.Common.{◌≡◌, length}
use Rattle.exec_graph.specs.Effects.{AreEffects}
use Rattle.exec_graph.proofs.effects.action_effects.Given as goal

abbrev pub invariant-loop-outcome : goal.invariant-loop-outcome
invariant-loop-outcome l = record {
  count : length l.effects.items ≡ l.outcome;
  known : AreEffects l.task l.action.0 l.effects.items;
}
