use Rattle.relaxed_reach.proofs.Soundness.{reached_can, reached_in}
use Rattle.relaxed_reach.proofs.laws.relaxed_sets_hold_what_is_reached.Goals as goal

pub returns-clause-literals : goal.returns-clause-literals
returns-clause-literals c = λ set relaxed. reached_in c.args.task.now set relaxed

pub returns-clause-conditions : goal.returns-clause-conditions
returns-clause-conditions c = λ set relaxed. reached_can c.args.task.now set relaxed
