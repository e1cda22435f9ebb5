-- The sets are still those of the task.
use Rattle.test_plans.proofs.space_tests.made_preimages.Goals as goal

pub weak_pre-requires-clause-made : goal.weak_pre-requires-clause-made
weak_pre-requires-clause-made c = (c.args.task.now, c.set_of.ensures.made c.args.task.now c.requires.made)

pub strong_pre-requires-clause-made : goal.strong_pre-requires-clause-made
strong_pre-requires-clause-made c =
    (c.args.task.now, c.weak_pre.ensures.made c.args.task.now (c.set_of.ensures.made c.args.task.now c.requires.made))
