-- The sets are still those of the task.
use Rattle.test_plans.proofs.preimage_tests.preimages_agree.Goals as goal

pub strong_pre-requires-clause-made : goal.strong_pre-requires-clause-made
strong_pre-requires-clause-made c = (c.args.task.now, c.weak_pre.ensures.made c.args.task.now c.requires.made)
