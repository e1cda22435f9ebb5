-- The set has each of the literals so far.
use Rattle.std.proofs.Common.{◌≡◌, ℕ, Bool, ◌||◌, take}
use Rattle.task_core.specs.Initial.{names_it}
use Rattle.relaxed_reach.specs.Literals.{has}
use Rattle.relaxed_reach.proofs.literals.Literals.with_all.Given as goal

abbrev pub invariant-loop-lit : goal.invariant-loop-lit
invariant-loop-lit l = (f : ℕ) (value : Bool) → has l.literals f value ≡ (names_it value f (take l.lit-index l.lits) || has l.self f value)
