-- The ledger is the new one.
use Rattle.counterexamples.proofs.runs.longest_to.Given as goal

abbrev pub ghosts-longest_in : goal.ghosts-longest_in
ghosts-longest_in a = record { name = a.blank.name; parts = a.blank.parts }
