-- The state is the one that the number chooses of the entries so far.
use Rattle.initial_number.proofs.ChoiceLemmas.{IsChosen}
use Rattle.initial_number.proofs.chosen.chosen.Given as goal

abbrev pub invariant-loop-entry : goal.invariant-loop-entry
invariant-loop-entry l = IsChosen l.task l.entry-index l.number l.weight l.state
