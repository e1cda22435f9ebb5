-- Private: the layers of a task's system as sets on diagrams.
use Rattle.std.specs.Prelude.{◌≡◌, ℕ, ◌<◌, ◌||◌, false, if◌then◌else◌, nat_lt}
use Rattle.std.specs.List.{list_any, range_with_len}
use Rattle.dd_nodes.specs.Subfunctions.{DependsOnly, Function}
use Rattle.dd_ops.specs.Operations.{minus_of, or_of}
use Rattle.preimage.specs.Preimages.{strong_preimage, weak_preimage}
use Rattle.task_core.specs.Systems.{IsVector}
use Rattle.task_core.specs.Tasks.{action_count, fluent_count, system_of}
use Rattle.task_core.specs.Vectors.{Vector, value_of}
use Rattle.task_core.specs.declared.classes.Class.{Class}
use Rattle.task_core.specs.declared.classes.Class.TheVariants.{Weak, Strong, Cyclic}
use Rattle.task_core.specs.declared.tasks.Task.{Task}
use Rattle.plan_theory.specs.Layers.{covers, layer}
use Rattle.plan_theory.specs.LayerPlans.{takers}

-- where an action leads into a set as the class wants it
abbrev pub class_preimage : Class → Task → ℕ → Function → Function
class_preimage Weak = weak_preimage
class_preimage Strong = strong_preimage
class_preimage Cyclic = weak_preimage

-- a set with its preimages under the first n actions
abbrev pub grown : Class → Task → Function → ℕ → Function
grown class task set n values =
    set values || list_any (λ a. class_preimage class task a set values) (range_with_len 0 n)

-- what the first n actions take: each what it took before, and what it leads into the set and no
-- action before it does
abbrev pub taken_by : Class → Task → Function → (ℕ → Function) → ℕ → ℕ → Function
taken_by class task set before n a =
    if nat_lt a n
    then or_of (before a) (minus_of (class_preimage class task a set) (grown class task set a))
    else before a

-- the set holds the states of layer k
pub record IsLayerSet (class : Class) (task : Task) (k : ℕ) (set : Function) : Type 0 where
  pub depends : DependsOnly 0 (fluent_count task) set
  pub agrees : (v : Vector) → IsVector (system_of task) v
      → set (value_of v) ≡ layer class (system_of task) k v

-- for each action, the states within layer k that take it
pub record AreTakers (class : Class) (task : Task) (k : ℕ) (taken : ℕ → Function) : Type 0 where
  pub takes : (a : ℕ) (v : Vector) → a < action_count task → IsVector (system_of task) v
      → taken a (value_of v) ≡ takers class (system_of task) k a v

-- the sets are those of layer k, and no layer before it holds every initial state
pub record IsRound (class : Class) (task : Task) (k : ℕ) (set : Function)
    (taken : ℕ → Function) : Type 0 where
  pub is_layer : IsLayerSet class task k set
  pub are_takers : AreTakers class task k taken
  pub before : (j : ℕ) → j < k → covers class (system_of task) j ≡ false
