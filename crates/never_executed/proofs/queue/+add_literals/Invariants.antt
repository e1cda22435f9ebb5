-- Each literal so far is never true.
use Rattle.relaxed_reach.specs.Literals.{has}
use Rattle.never_executed.specs.Blocked.{AreNever}
use Rattle.never_executed.proofs.queue.+add_literals.Given as goal

abbrev pub decreases-add_literals : goal.decreases-add_literals
decreases-add_literals l = goal.size-add_literals l

abbrev pub invariant-loop-part : goal.invariant-loop-part
invariant-loop-part l = AreNever (has l.literals) l.lits.items

abbrev pub invariant-loop-part-2 : goal.invariant-loop-part-2
invariant-loop-part-2 l = AreNever (has l.literals) l.lits.items
