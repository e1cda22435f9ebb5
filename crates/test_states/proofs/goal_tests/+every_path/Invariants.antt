use Rattle.test_states.proofs.goal_tests.+every_path.Given as goal

abbrev pub decreases-every_path : goal.decreases-every_path
decreases-every_path l = l.steps
