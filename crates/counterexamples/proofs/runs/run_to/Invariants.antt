-- The ledger is the new one.
use Rattle.counterexamples.proofs.runs.run_to.Given as goal

abbrev pub ghosts-run_in : goal.ghosts-run_in
ghosts-run_in a = record { name = a.blank.name; parts = a.blank.parts }
