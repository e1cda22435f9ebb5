-- The ledger is the new one.
use Rattle.counterexamples.proofs.runs.lasso_to.Given as goal

abbrev pub ghosts-lasso_in : goal.ghosts-lasso_in
ghosts-lasso_in a = record { name = a.blank.name; parts = a.blank.parts }
