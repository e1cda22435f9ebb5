-- Counting one fluent more.
use Rattle.std.proofs.Common.{◌≡◌, ◌+◌, ℕ, refl, add-one, if◌then◌else◌}
use Rattle.task_core.specs.declared.states.State.{State}
use Rattle.run_replay.specs.Changes.{differs, differences_below}

pub none_yet : (before after : State) → differences_below 0 before after ≡ 0
unfolding differences_below
none_yet before after = refl

pub one_more : (k : ℕ) (before after : State)
    → differences_below (k + 1) before after ≡ differences_below k before after + (if differs k before after then 1 else 0)
unfolding differences_below
one_more k before after = rw (add-one k) refl
