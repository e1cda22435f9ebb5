-- The ledger is the new one.
use Rattle.goal_witness.proofs.witnesses.goal_witness.Given as goal

abbrev pub ghosts-witness_in : goal.ghosts-witness_in
ghosts-witness_in a = record { name = a.blank.name; parts = a.blank.parts }
