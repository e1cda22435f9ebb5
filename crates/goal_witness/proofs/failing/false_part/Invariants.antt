-- The parts so far are true.
use Rattle.std.proofs.Common.{drop}
use Rattle.goal_witness.proofs.Conjunctions.{TrueSoFar}
use Rattle.goal_witness.proofs.failing.false_part.Given as goal

abbrev pub invariant-loop-part : goal.invariant-loop-part
invariant-loop-part g l = TrueSoFar l.scene l.parts (drop l.part-index l.parts) l.number
