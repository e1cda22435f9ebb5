-- Each literal so far is never true.
use Rattle.relaxed_reach.specs.Literals.{has}
use Rattle.never_executed.specs.Blocked.{AreNever}
use Rattle.never_executed.proofs.queue.add_lacks.Given as goal

abbrev pub invariant-loop-part : goal.invariant-loop-part
invariant-loop-part l = AreNever (has l.relaxed.literals.now) l.lits.items
