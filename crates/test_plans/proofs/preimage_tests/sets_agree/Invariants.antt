-- The sets stay those of the task.
use Rattle.encode_task.specs.Made.{MadeOf}
use Rattle.test_plans.proofs.preimage_tests.sets_agree.Given as goal

abbrev pub invariant-loop-a : goal.invariant-loop-a
invariant-loop-a l = MadeOf l.task l.enc
