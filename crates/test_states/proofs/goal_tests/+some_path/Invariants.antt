use Rattle.test_states.proofs.goal_tests.+some_path.Given as goal

abbrev pub decreases-some_path : goal.decreases-some_path
decreases-some_path l = l.steps
