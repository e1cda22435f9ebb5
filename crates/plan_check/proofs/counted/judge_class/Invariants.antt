-- The ledger is the new one.
use Rattle.plan_check.proofs.counted.judge_class.Given as goal

abbrev pub ghosts-class_in : goal.ghosts-class_in
ghosts-class_in a = record { name = a.blank.name; parts = a.blank.parts }
