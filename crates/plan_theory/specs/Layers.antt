-- The layers of states from which the goal is reached, by the class of plans (Cimatti, Pistore,
-- Roveri, Traverso 2003: the preimages of the goal, step by step).
use Rattle.std.specs.Prelude.{◌≡◌, ℕ, zero, suc, ◌+◌, ◌<◌, Bool, true, false, ◌&&◌, ◌||◌, List}
use Rattle.std.specs.Prelude.{Option}
use Rattle.std.specs.List.{list_any, list_all, find, range_with_len}
use Rattle.task_core.specs.Vectors.{Vector, same_vector}
use Rattle.task_core.specs.Systems.{System, goal_states}
use Rattle.task_core.specs.Cubes.{SetOfVectors}
use Rattle.task_core.specs.declared.classes.Class.{Class}
use Rattle.task_core.specs.declared.classes.Class.TheVariants.{Weak, Strong, Cyclic}

-- the numbers of the actions, rising
abbrev pub action_numbers : System → List ℕ
action_numbers sys = range_with_len 0 sys.actions

-- whether some outcome of the action lies in the set
abbrev pub may_lead : System → SetOfVectors → Vector → ℕ → Bool
may_lead sys set v a = list_any set (sys.next v a)

-- whether the action can be executed, and every outcome of it lies in the set
abbrev pub must_lead : System → SetOfVectors → Vector → ℕ → Bool
must_lead sys set v a = may_lead sys set v a && list_all set (sys.next v a)

-- how an action is to lead into a set: by some outcome for weak plans, by every one for strong
-- plans. Strong cyclic plans have layers of another kind as well, of which nothing here speaks
abbrev pub leads_by : Class → System → SetOfVectors → Vector → ℕ → Bool
leads_by Weak = may_lead
leads_by Strong = must_lead
leads_by Cyclic = may_lead

-- layer 0 is the goal; layer k + 1 is layer k with all states in which some action leads into layer
-- k
abbrev pub layer : Class → System → ℕ → SetOfVectors
layer class sys zero v = list_any (same_vector v) (goal_states sys)
layer class sys (suc k) v =
    layer class sys k v || list_any (leads_by class sys (layer class sys k) v) (action_numbers sys)

-- the rank of a state: the first of the layers 0 to K that holds it
abbrev pub rank_within : Class → System → ℕ → Vector → Option ℕ
rank_within class sys K v = find (λ k. layer class sys k v) (range_with_len 0 (K + 1))

-- layer k holds every initial state
abbrev pub covers : Class → System → ℕ → Bool
covers class sys k = list_all (layer class sys k) sys.initial

-- K is the first layer that holds every initial state
pub record IsLastLayer (class : Class) (sys : System) (K : ℕ) : Type 0 where
  pub covered : covers class sys K ≡ true
  pub first : (k : ℕ) → k < K → covers class sys k ≡ false
