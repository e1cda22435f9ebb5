-- The ledger is the new one.
use Rattle.plan_check.proofs.counted.judge_ctl.Given as goal

abbrev pub ghosts-ctl_in : goal.ghosts-ctl_in
ghosts-ctl_in a = record { name = a.blank.name; parts = a.blank.parts }
