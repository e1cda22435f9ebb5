use Rattle.test_states.proofs.goal_tests.followers.Given as goal

abbrev pub ghosts-followers_in : goal.ghosts-followers_in
ghosts-followers_in a = record { name = a.blank.name; parts = a.blank.parts }
