use Rattle.std.proofs.Common.{◌≡◌, ℕ, Bool, map, take}
use Rattle.task_core.specs.Conditions.{holds}
use Rattle.short_conditions.proofs.comparing.+comparing.Given as goal

abbrev pub invariant-are_same_lists-loop-place : goal.invariant-are_same_lists-loop-place
invariant-are_same_lists-loop-place l =
    (value : ℕ → Bool) → map (λ cond. holds cond value) (take l.place l.conds) ≡ map (λ cond. holds cond value) (take l.place l.others)
