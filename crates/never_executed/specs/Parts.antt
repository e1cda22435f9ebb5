-- Parts of a condition that can't hold, by their numbers.
use Rattle.std.specs.Prelude.{◌≡◌, ℕ, List, Some, false, slice_get, true}
use Rattle.never_executed.specs.Blocked.{conjuncts}
use Rattle.relaxed_reach.specs.Literals.{LiteralSet, can_be}
use Rattle.task_core.specs.declared.conditions.Cond.{Cond}

-- the condition at this place can't hold where just the literals of the set can be true
pub record IsFalseAt (set : LiteralSet) (k : ℕ) (parts : List Cond) : Type 0 where
  pub part : Cond
  pub at : slice_get parts k ≡ Some part
  pub never : can_be part set true ≡ false

-- the part with this number can't: of a conjunction one of its parts, of any other condition itself
abbrev pub IsFalsePart : LiteralSet → ℕ → Cond → Type 0
IsFalsePart set k cond = IsFalseAt set k (conjuncts cond)
