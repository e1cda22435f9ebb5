-- The sets stay those of the task.
use Rattle.encode_task.specs.Made.{MadeOf}
use Rattle.test_plans.proofs.preimage_tests.action_agrees.Given as goal

abbrev pub invariant-loop-b : goal.invariant-loop-b
invariant-loop-b l = MadeOf l.task l.enc
