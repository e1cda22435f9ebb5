-- Sets of literals, and what a condition can be where just these literals can be true.
use Rattle.std.specs.Prelude.{ℕ, Bool, true, false, not, if◌then◌else◌}
use Rattle.std.specs.List.{list_all, list_any}
use Rattle.task_core.specs.States.{truth}
use Rattle.task_core.specs.declared.conditions.Cond.{Cond}
use Rattle.task_core.specs.declared.conditions.Cond.TheOpen.{Cond-F, Yes, No, Is, Not, All, Any}
use Rattle.task_core.specs.declared.conditions.Cond.TheFolds.{fold-Cond}
use Rattle.relaxed_reach.specs.declared.literals.Literals.{Literals}

-- a set of literals, as the test of its members: a fluent, and the value that it can have
abbrev pub LiteralSet : Type 0
LiteralSet = ℕ → Bool → Bool

-- the set that the two states stand for: a fluent can be true where it is `possible`, and it can be
-- false unless it is `certain`
abbrev pub has : Literals → LiteralSet
has literals f value = if value then truth literals.possible f else not (truth literals.certain f)

-- one layer of a condition: whether it can have a truth value where these literals can be true, with
-- the answer for each part in its place. The parts are looked at one by one, as if none excluded
-- another
abbrev pub can_step : Cond-F (LiteralSet → Bool → Bool) → LiteralSet → Bool → Bool
can_step Yes set value = value
can_step No set value = not value
can_step (Is f) set value = set f.0 value
can_step (Not part) set value = part.value set (not value)
can_step (All parts) set value =
    if value then list_all (λ part. part set true) parts.items
    else list_any (λ part. part set false) parts.items
can_step (Any parts) set value =
    if value then list_any (λ part. part set true) parts.items
    else list_all (λ part. part set false) parts.items

-- whether a condition can have a truth value
abbrev pub can_be : Cond → LiteralSet → Bool → Bool
can_be = fold-Cond (LiteralSet → Bool → Bool) can_step
