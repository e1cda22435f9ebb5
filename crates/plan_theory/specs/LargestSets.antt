-- The largest set of pairs that strong cyclic plans are made of (Cimatti, Pistore, Roveri, Traverso
-- 2003: what is left of all pairs where no pair leads out of the set, and where from each state the
-- goal is still reached).
use Rattle.std.specs.Prelude.{◌≡◌, ℕ, true, false, ◌||◌, Bool}
use Rattle.std.specs.List.{list_all}
use Rattle.task_core.specs.Vectors.{Vector}
use Rattle.task_core.specs.Systems.{System, Exec, HasOutcome, IsVector}
use Rattle.task_core.specs.Cubes.{SetOfVectors}
use Rattle.task_core.specs.declared.classes.Class.TheVariants.{Weak}
use Rattle.plan_theory.specs.Layers.{layer}
use Rattle.plan_theory.specs.Pairs.{Pairs, has_pair, is_goal, restricted}

-- the states in which nothing more is to be done or some pair is to be taken
abbrev pub goal_or_pair : System → Pairs → SetOfVectors
goal_or_pair sys pairs v = is_goal sys v || has_pair sys pairs v

-- each pair can be executed, lies outside the goal, and leads, by every outcome, to a goal state or
-- a state of a pair; and from its state the goal is reached in some number of steps by pairs of the
-- set
pub record IsStrongCyclicSet (sys : System) (pairs : Pairs) : Type 0 where
  pub executable : (v : Vector) (a : ℕ) → IsVector sys v → pairs v a ≡ true → Exec sys v a
  pub outside : (v : Vector) (a : ℕ) → IsVector sys v → pairs v a ≡ true → is_goal sys v ≡ false
  pub stays : (v : Vector) (a : ℕ) (t : Vector) → IsVector sys v → pairs v a ≡ true
      → HasOutcome sys v a t → goal_or_pair sys pairs t ≡ true
  pub connected : (v : Vector) (a : ℕ) → IsVector sys v → pairs v a ≡ true
      → (k : ℕ) × (layer Weak (restricted sys pairs) k v ≡ true)

-- the largest of these sets
pub record IsLargestSet (sys : System) (pairs : Pairs) : Type 0 where
  pub proper : IsStrongCyclicSet sys pairs
  pub largest : (others : Pairs) → IsStrongCyclicSet sys others → (v : Vector) (a : ℕ)
      → IsVector sys v → others v a ≡ true → pairs v a ≡ true

-- each initial state is a goal state or has a pair
abbrev pub covers : System → Pairs → Bool
covers sys pairs = list_all (goal_or_pair sys pairs) sys.initial
