-- Each literal so far is never true.
use Rattle.relaxed_reach.specs.Literals.{has}
use Rattle.never_executed.specs.Blocked.{AreNever}
use Rattle.never_executed.proofs.queue.never_literals.Given as goal

abbrev pub invariant-loop-place : goal.invariant-loop-place
invariant-loop-place l = AreNever (has l.relaxed.literals.now) l.lits.items
