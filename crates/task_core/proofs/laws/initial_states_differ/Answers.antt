use Rattle.task_core.proofs.EntryStates.{after_entries_differ}
use Rattle.task_core.proofs.laws.initial_states_differ.Goals as goal

pub returns : goal.returns
returns c = after_entries_differ
