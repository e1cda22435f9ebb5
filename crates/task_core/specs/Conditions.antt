-- Where a condition holds, which fluents it names, and how deep it is.
use Rattle.std.specs.Prelude.{◌≡◌, ℕ, ◌+◌, Bool, true, false, not, List, [], ◌∷◌, nat_lt, nat_le, max}
use Rattle.std.specs.List.{list_all, list_any}
use Rattle.task_core.specs.States.{truth}
use Rattle.task_core.specs.declared.states.State.{State}
use Rattle.task_core.specs.declared.conditions.Cond.{Cond}
use Rattle.task_core.specs.declared.conditions.Cond.TheOpen.{Cond-F, Yes, No, Is, Not, All, Any}
use Rattle.task_core.specs.declared.conditions.Cond.TheFolds.{fold-Cond}

-- one layer of a condition at the values of the fluents, with the meaning of each part in its place
abbrev pub holds_step : Cond-F ((ℕ → Bool) → Bool) → (ℕ → Bool) → Bool
holds_step Yes value = true
holds_step No value = false
holds_step (Is f) value = value f.0
holds_step (Not part) value = not (part.value value)
holds_step (All parts) value = list_all (λ part. part value) parts.items
holds_step (Any parts) value = list_any (λ part. part value) parts.items

-- whether a condition holds where the fluents have these values
abbrev pub holds : Cond → (ℕ → Bool) → Bool
holds = fold-Cond ((ℕ → Bool) → Bool) holds_step

-- it holds whatever the values are
abbrev pub AlwaysHolds : Cond → Type 0
AlwaysHolds cond = (value : ℕ → Bool) → holds cond value ≡ true

-- whether it holds in a state
abbrev pub holds_in : Cond → State → Bool
holds_in cond state = holds cond (truth state)

-- one layer of the test whether every fluent is below n
abbrev pub below_step : ℕ → Cond-F Bool → Bool
below_step n Yes = true
below_step n No = true
below_step n (Is f) = nat_lt f.0 n
below_step n (Not part) = part.value
below_step n (All parts) = list_all (λ part. part) parts.items
below_step n (Any parts) = list_all (λ part. part) parts.items

-- whether every fluent that the condition names is below n
abbrev pub ids_below : ℕ → Cond → Bool
ids_below n = fold-Cond Bool (below_step n)

-- the greatest of some numbers; 0 where there are none
abbrev pub greatest : List ℕ → ℕ
greatest [] = 0
greatest (n ∷ ns) = max n (greatest ns)

-- one layer of the depth: an `All` and an `Any` count one above the deepest of their parts; a `Not`
-- doesn't count, so that an implication, which is an `Any` of a `Not`, counts once
abbrev pub depth_step : Cond-F ℕ → ℕ
depth_step Yes = 1
depth_step No = 1
depth_step (Is f) = 1
depth_step (Not part) = part.value
depth_step (All parts) = 1 + greatest parts.items
depth_step (Any parts) = 1 + greatest parts.items

-- how many `All`s and `Any`s of a condition stand in one another at most, and one more for what is
-- innermost
abbrev pub depth : Cond → ℕ
depth = fold-Cond ℕ depth_step

-- whether a condition is at most 200 deep
abbrev pub is_shallow : Cond → Bool
is_shallow cond = nat_le (depth cond) 200

-- it names the first fluents alone, and is at most 200 deep
pub record IsConditionOver (fluents : ℕ) (cond : Cond) : Type 0 where
  pub names : ids_below fluents cond ≡ true
  pub shallow : is_shallow cond ≡ true
