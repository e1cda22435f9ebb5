-- The ledger is the new one.
use Rattle.counterexamples.proofs.runs.onward_from.Given as goal

abbrev pub ghosts-onward_in : goal.ghosts-onward_in
ghosts-onward_in a = record { name = a.blank.name; parts = a.blank.parts }
