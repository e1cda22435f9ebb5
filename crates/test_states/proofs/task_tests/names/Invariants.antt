use Rattle.std.proofs.Common.{◌≡◌, vec_len}
use Rattle.test_states.proofs.task_tests.names.Given as goal

abbrev pub invariant-loop-word : goal.invariant-loop-word
invariant-loop-word l = vec_len l.names ≡ l.word-index
