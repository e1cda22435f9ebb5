-- The classes of plans that are found by layers.
use Rattle.std.specs.Prelude.{◌≡◌, ℕ, suc}
use Rattle.task_core.specs.Systems.{System, IsVector}
use Rattle.task_core.specs.Vectors.{Vector}
use Rattle.task_core.specs.declared.classes.Class.{Class}
use Rattle.task_core.specs.declared.classes.Class.TheVariants.{Weak, Strong, Cyclic}
use Rattle.plan_theory.specs.Layers.{layer}

-- weak and strong plans are
abbrev pub IsFoundByLayers : Class → Type 0
IsFoundByLayers Weak = Unit {0}
IsFoundByLayers Strong = Unit {0}
IsFoundByLayers Cyclic = ⊥

-- layer k holds the same states as the next one
abbrev pub IsStable : Class → System → ℕ → Type 0
IsStable class sys k =
    (v : Vector) → IsVector sys v → layer class sys (suc k) v ≡ layer class sys k v
