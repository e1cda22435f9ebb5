use Rattle.std.proofs.Common.{◌-◌, length}
use Rattle.sexpr_text.specs.Pending.{pending_in, trees_in}
use Rattle.sexpr_text.proofs.Turns.{IsHere}
use Rattle.sexpr_text.proofs.read.read_forms.Given as goal

abbrev pub invariant-loop-at : goal.invariant-loop-at
invariant-loop-at l = IsHere l.bytes l.at (pending_in l.nest) (trees_in l.nest) l.line l.line_start

abbrev pub decreases-loop-at : goal.decreases-loop-at
decreases-loop-at l = length l.bytes - l.at
