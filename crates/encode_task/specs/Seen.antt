-- Private: how the slots that the program keeps for an action are seen.
use Rattle.std.specs.Prelude.{map}
use Rattle.encode_task.specs.declared.action_sets.ActionSets.{ActionSets}
use Rattle.encode_task.specs.Slots.{ActionSlots}

abbrev pub slots_of : ActionSets → ActionSlots
slots_of action = record {
  exec = action.exec;
  outcomes = map (λ changed. changed.items) action.outcomes.items;
  lands = action.lands.items;
}
