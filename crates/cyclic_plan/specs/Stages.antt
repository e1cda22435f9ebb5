-- Private: what the slots of a search hold, as sets of states. The goal states stand at place 0,
-- the states that are left at 1, those of them outside the goal at 2, the states near the goal at 3
-- and the next ones at 4, where an action leads into them at 5 and what is made on the way to an
-- action's set, as what is new of that, at 6. From 7 on there are, for each action, the states of the
-- pairs that are kept, and then those that take it.
use Rattle.std.specs.Prelude.{◌≡◌, ℕ, suc, ◌+◌, ◌<◌, ◌==◌, Bool, true, false, not, ◌&&◌, ◌||◌}
use Rattle.std.specs.Prelude.{List, [], ◌∷◌}
use Rattle.std.specs.Prelude.{if◌then◌else◌, nat_lt}
use Rattle.std.specs.List.{list_any, range_with_len}
use Rattle.dd_nodes.specs.Subfunctions.{Function}
use Rattle.dd_sets.specs.LiveSets.{IsSets}
use Rattle.dd_sets.specs.declared.slots.SetId.{SetId}
use Rattle.encode_task.specs.Slots.{Encoded}
use Rattle.task_core.specs.Cubes.{SetOfVectors}
use Rattle.task_core.specs.Systems.{IsVector, System}
use Rattle.task_core.specs.Tasks.{action_count, system_of}
use Rattle.task_core.specs.Vectors.{Vector, value_of}
use Rattle.task_core.specs.declared.classes.Class.TheVariants.{Weak}
use Rattle.plan_theory.specs.Layers.{layer, may_lead}
use Rattle.plan_theory.specs.LayerPlans.{takers}
use Rattle.slot_board.specs.Board.{AllNothing, At, IsSmall, Start, set_at}
use Rattle.plan_theory.specs.Pairs.{is_goal, restricted}
use Rattle.plan_theory.specs.PairRounds.{kept, round}
use Rattle.cyclic_plan.specs.WorkingSets.{BoundsCyclicSets}

-- a set on diagrams has the states of a set
abbrev pub Agrees : Start → Function → SetOfVectors → Type 0
Agrees start f set = (v : Vector) → IsVector (system_of start.task) v → f (value_of v) ≡ set v

-- for each action, the states that take it
abbrev pub Takings : Type 0
Takings = ℕ → SetOfVectors

abbrev pub none_taken : Takings
none_taken a v = false

-- the system in which only the pairs of a round can be executed
abbrev pub kept_system : Start → SetOfVectors → System
kept_system start left = let sys = system_of start.task in restricted sys (kept sys left)

-- how many places there are for so many actions
abbrev pub place_count : ℕ → ℕ
place_count actions = 7 + actions + actions

-- the places of sets that are no working sets: the states outside the goal, and what is new
abbrev pub rough_places : List ℕ
rough_places = 2 ∷ 6 ∷ []

-- the width of a search is one for its working sets, and other sets stand at these places alone
pub record IsFit (start : Start) : Type 0 where
  pub wide : BoundsCyclicSets start.width start.task
  pub rough : start.rough ≡ rough_places

-- a set of vectors is small by the width of a search
abbrev pub IsSmallSet : Start → SetOfVectors → Type 0
IsSmallSet start set = (f : Function) → Agrees start f set → IsSmall start f

-- the states that are left are those that some round leaves
abbrev pub IsLeft : Start → SetOfVectors → Type 0
IsLeft start left = (r : ℕ) × (left ≡ round (system_of start.task) r)

-- the states near the goal are those of some step over the pairs that are kept
abbrev pub IsNear : Start → SetOfVectors → SetOfVectors → Type 0
IsNear start left near = (k : ℕ) × (near ≡ layer Weak (kept_system start left) k)

-- there is a slot at each place, and no set yet
pub record HasNothing (start : Start) (now : Encoded) (slots : List SetId) : Type 0 where
  pub at : At start now slots
  pub fit : IsFit start
  pub places : start.places ≡ place_count (action_count start.task)
  pub holds_nothing : AllNothing now.sets slots

-- the states that are left stand at their place
pub record HasRound (start : Start) (now : Encoded) (slots : List SetId) (left : SetOfVectors)
    (taken : Takings) : Type 0 where
  pub at : At start now slots
  pub fit : IsFit start
  pub places : start.places ≡ place_count (action_count start.task)
  pub sound : IsSets now.sets
  pub is_left : IsLeft start left
  pub holds_goal : Agrees start (set_at now.sets slots 0) (is_goal (system_of start.task))
  pub holds_left : Agrees start (set_at now.sets slots 1) left
  pub holds_taken : (a : ℕ) → a < action_count start.task
      → Agrees start (set_at now.sets slots (7 + action_count start.task + a)) (taken a)

-- the pairs of the first n actions, too
pub record HasPairs (start : Start) (now : Encoded) (slots : List SetId) (left : SetOfVectors)
    (taken : Takings) (n : ℕ) : Type 0 where
  pub round : HasRound start now slots left taken
  pub holds_outside : Agrees start (set_at now.sets slots 2)
      (λ v. left v && not (is_goal (system_of start.task) v))
  pub holds_pairs : (a : ℕ) → a < n → a < action_count start.task
      → Agrees start (set_at now.sets slots (7 + a))
      (λ v. kept (system_of start.task) left v a)

-- the pairs of all actions, and the states near the goal
pub record HasNear (start : Start) (now : Encoded) (slots : List SetId) (left : SetOfVectors)
    (taken : Takings) (near : SetOfVectors) : Type 0 where
  pub round : HasRound start now slots left taken
  pub holds_pairs : (a : ℕ) → a < action_count start.task
      → Agrees start (set_at now.sets slots (7 + a))
      (λ v. kept (system_of start.task) left v a)
  pub holds_near : Agrees start (set_at now.sets slots 3) near

-- and the next ones
pub record HasNext (start : Start) (now : Encoded) (slots : List SetId) (left : SetOfVectors)
    (taken : Takings) (near next : SetOfVectors) : Type 0 where
  pub by_near : HasNear start now slots left taken near
  pub is_near : IsNear start left near
  pub holds_next : Agrees start (set_at now.sets slots 4) next

-- and where an action leads into the near ones by kept pairs
pub record HasHits (start : Start) (now : Encoded) (slots : List SetId) (left : SetOfVectors)
    (taken : Takings) (near next hits : SetOfVectors) : Type 0 where
  pub by_next : HasNext start now slots left taken near next
  pub holds_hits : Agrees start (set_at now.sets slots 5) hits

-- one action taken in some states more
abbrev pub taken_also : Takings → ℕ → SetOfVectors → Takings
taken_also taken a set b v = if b == a then taken b v || set v else taken b v

abbrev pub taken_if : Bool → Takings → ℕ → SetOfVectors → Takings
taken_if taking taken a set b v = if taking then taken_also taken a set b v else taken b v

-- the near states with those that the first n actions lead into them
abbrev pub next_by : System → SetOfVectors → ℕ → SetOfVectors
next_by sys near n v = near v || list_any (may_lead sys near v) (range_with_len 0 n)

-- what the first n actions take: each what it took before, and where it leads into the near states
-- and no action before it does
abbrev pub taken_by : Bool → System → SetOfVectors → Takings → ℕ → Takings
taken_by taking sys near taken n a v =
    if taking && nat_lt a n then taken a v || (may_lead sys near v a && not (next_by sys near a v))
    else taken a v

-- what action a adds to the next states, and to those that take it where actions are to be taken,
-- makes small sets of both
abbrev pub AddsToSmall : Start → Bool → SetOfVectors → Takings → SetOfVectors → SetOfVectors → ℕ
    → Type 0
AddsToSmall start taking left taken near next a =
    IsSmallSet start (λ v. next v || may_lead (kept_system start left) near v a)
    × (taking ≡ true → IsSmallSet start
    (taken_also taken a (λ v. may_lead (kept_system start left) near v a && not (next v)) a))

-- the near states are those of some step, and where actions are to be taken, what each takes after
-- one step more is a small set
abbrev pub IsStep : Start → Bool → SetOfVectors → Takings → SetOfVectors → Type 0
IsStep start taking left taken near =
    IsNear start left near
    × (taking ≡ true → (a : ℕ) → a < action_count start.task → IsSmallSet start
    (taken_by true (kept_system start left) near taken (action_count start.task) a))

-- the states within k steps of the goal that take an action
abbrev pub takers_within : Bool → System → ℕ → Takings
takers_within taking sys k a v = taking && takers Weak sys k a v

-- where actions are to be taken, these are small sets for each number of steps
abbrev pub AreTakersSmall : Start → Bool → SetOfVectors → Type 0
AreTakersSmall start taking left =
    taking ≡ true → (k a : ℕ) → a < action_count start.task
    → IsSmallSet start (takers Weak (kept_system start left) k a)

-- after a round, the states that it left stand at 3, and those of the round before at 1
abbrev pub HasRounds : Start → Encoded → List SetId → ℕ → Type 0
HasRounds start now slots r = let sys = system_of start.task in
    HasNear start now slots (round sys r) none_taken (round sys (suc r))
