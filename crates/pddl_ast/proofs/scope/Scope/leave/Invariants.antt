use Rattle.std.proofs.Common.{◌≡◌, ◌≤◌, length, take}
use Rattle.pddl_ast.proofs.scope.Scope.leave.Given as goal

abbrev pub invariant-loop-self : goal.invariant-loop-self
invariant-loop-self l = (l.len ≤ length l.self) × (take l.len l.self ≡ take l.len l.fn.self)

abbrev pub decreases-loop-self : goal.decreases-loop-self
decreases-loop-self l = length l.self
