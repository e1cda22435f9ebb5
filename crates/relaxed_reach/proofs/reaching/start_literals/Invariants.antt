-- The set has the literals of the facts and of each entry so far.
use Rattle.std.proofs.Common.{◌≡◌, ℕ, Bool, ◌||◌, take}
use Rattle.std.specs.List.{list_any}
use Rattle.task_core.specs.Initial.{entry_of, names_it}
use Rattle.task_core.specs.States.{truth}
use Rattle.task_core.specs.Vectors.{same_value}
use Rattle.relaxed_reach.specs.Literals.{has}
use Rattle.relaxed_reach.proofs.reaching.start_literals.Given as goal

abbrev pub invariant-loop-entry : goal.invariant-loop-entry
invariant-loop-entry l = (f : ℕ) (value : Bool) → has l.literals f value ≡ (list_any (λ entry. list_any (names_it value f) (entry_of entry.items)) (take l.entry-index l.entry-items) || same_value (truth l.task.init.facts f) value)
