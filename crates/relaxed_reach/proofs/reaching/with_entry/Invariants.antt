-- The set has the literals of each alternative so far.
use Rattle.std.proofs.Common.{◌≡◌, ℕ, Bool, ◌||◌, take}
use Rattle.std.specs.List.{list_any}
use Rattle.task_core.specs.Initial.{names_it}
use Rattle.relaxed_reach.specs.Literals.{has}
use Rattle.relaxed_reach.proofs.reaching.with_entry.Given as goal

abbrev pub invariant-loop-alternative : goal.invariant-loop-alternative
invariant-loop-alternative l = (f : ℕ) (value : Bool) → has l.more f value ≡ (list_any (λ alternative. names_it value f alternative.lits.items) (take l.alternative-index l.entry) || has l.literals f value)
