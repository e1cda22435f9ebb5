use Rattle.std.proofs.Common.{◌≡◌, length, take}
use Rattle.pddl_domain.specs.Ancestors.{which_of}
use Rattle.pddl_domain.proofs.loops.which_stand.Given as goal

abbrev pub invariant-loop-t : goal.invariant-loop-t
invariant-loop-t l = l.stands.items ≡ which_of (length l.list) (take l.t-index l.list)
