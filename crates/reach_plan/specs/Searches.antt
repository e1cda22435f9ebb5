-- Private: what the board of a search has. In the first pass there are this layer, the next one,
-- where an action leads into this one, and the next one with that. In the second there is a place for
-- what each of the first n actions takes; behind these stand this layer, the next one, where an
-- action leads into this one, and what is new of that.
use Rattle.std.specs.Prelude.{◌≡◌, ◌≢◌, ◌⊎◌, ℕ, suc, ◌+◌, ◌<◌, Bool, true, false, List, [], ◌∷◌}
use Rattle.std.specs.Prelude.{◌++◌, Contains, length, slice_index_or, take}
use Rattle.dd_nodes.specs.NodeList.{Values}
use Rattle.dd_nodes.specs.Subfunctions.{Function}
use Rattle.dd_ops.specs.Operations.{minus_of, or_of}
use Rattle.dd_sets.specs.LiveSets.{IsSets}
use Rattle.dd_sets.specs.declared.slots.SetId.{SetId}
use Rattle.encode_task.specs.Slots.{Encoded}
use Rattle.encode_task.specs.TaskSets.{exec_set}
use Rattle.slot_board.specs.Board.{At, Fits, IsSmall, Start, set_at}
use Rattle.task_core.specs.Solutions.{HasNoSolution}
use Rattle.task_core.specs.Tasks.{action_count, system_of}
use Rattle.task_core.specs.declared.classes.Class.{Class}
use Rattle.task_core.specs.declared.literals.ActionId.{ActionId}
use Rattle.task_core.specs.declared.tasks.Task.{Task}
use Rattle.plan_theory.specs.Classes.{IsStable}
use Rattle.plan_theory.specs.Layers.{IsLastLayer, covers}
use Rattle.reach_plan.specs.LayerSets.{AreTakers, IsLayerSet, IsRound, grown, taken_by}
use Rattle.reach_plan.specs.Steps.{HaveLed, IsWithinRound, LeadToLast, Progress, after_step}
use Rattle.reach_plan.specs.Steps.{after_steps, at_goal, untaken}
use Rattle.reach_plan.specs.WorkingSets.{BoundsReachSets}
use Rattle.reach_plan.specs.declared.search.Round.{Round}
use Rattle.reach_plan.specs.declared.search.Round.TheVariants.{Covered, Stable, More}
use Rattle.slot_board.specs.declared.steps.Step.{Step}
use Rattle.slot_board.specs.declared.steps.Step.TheVariants.{Grow}

-- this layer is f, and the actions take h
pub record HasLayer (start : Start) (now : Encoded) (slots : List SetId) (n : ℕ) (f : Function)
    (h : ℕ → Function) : Type 0 where
  pub at : At start now slots
  pub sound : IsSets now.sets
  pub holds_layer : set_at now.sets slots n ≡ f
  pub holds_taken : (a : ℕ) → a < n → set_at now.sets slots a ≡ h a

-- and the next one is g
pub record HasNext (start : Start) (now : Encoded) (slots : List SetId) (n : ℕ) (f : Function)
    (h : ℕ → Function) (g : Function) : Type 0 where
  pub by_layer : HasLayer start now slots n f h
  pub holds_next : set_at now.sets slots (n + 1) ≡ g

-- and an action leads into this one from hits, which may be joined to the next one
pub record HasHits (start : Start) (now : Encoded) (slots : List SetId) (n : ℕ) (f : Function)
    (h : ℕ → Function) (g hits : Function) : Type 0 where
  pub by_next : HasNext start now slots n f h g
  pub holds_hits : set_at now.sets slots (n + 2) ≡ hits
  pub joined : IsSmall start (or_of g hits)

-- the board is where a search stands
abbrev pub HasProgress : Start → Encoded → List SetId → ℕ → Progress → Type 0
HasProgress start now slots n here = HasNext start now slots n here.layer here.taken here.next

-- the hits are joined to the next layer, which is noted as a step of the action unless they were in
-- it already
pub record HasJoined (start : Start) (now : Encoded) (slots : List SetId) (f g hits : Function)
    (a : ActionId) (before after : List Step) : Type 0 where
  pub by_next : HasNext start now slots 0 f untaken (or_of g hits)
  pub noted : (after ≡ before ++ Grow a ∷ []) ⊎ ((after ≡ before) × (or_of g hits ≡ g))

-- each action that is spent can be executed in states of a set alone
pub record AreSpent (task : Task) (set : Function) (spent : List Bool) : Type 0 where
  pub long : length spent ≡ action_count task
  pub inside : (a : ℕ) → slice_index_or spent a false ≡ true → (values : Values)
      → exec_set task a values ≡ true → set values ≡ true

-- f is layer k, the actions take h within it, and a search makes working sets alone, which are small
pub record IsKnown (class : Class) (start : Start) (k : ℕ) (f : Function) (h : ℕ → Function)
    : Type 0 where
  pub wide : BoundsReachSets start.width class start.task
  pub is_layer : IsLayerSet class start.task k f
  pub are_takers : AreTakers class start.task k h

-- this layer is f, of rank k, and the steps so far lead to it and to what the actions take within it
pub record BeginsRound (class : Class) (start : Start) (now : Encoded) (slots : List SetId) (k : ℕ)
    (f : Function) (h : ℕ → Function) (steps : List Step) (spent : List Bool) : Type 0 where
  pub by_layer : HasLayer start now slots 0 f untaken
  pub known : IsKnown class start k f h
  pub led : HaveLed class start.task k steps (record { layer = f; taken = h; next = f })
  pub are_spent : AreSpent start.task f spent

-- and the next one has what the first m actions lead into this one
pub record HasGrown (class : Class) (start : Start) (now : Encoded) (slots : List SetId) (k : ℕ)
    (f : Function) (h : ℕ → Function) (m : ℕ) (steps : List Step) (spent : List Bool)
    : Type 0 where
  pub by_next : HasNext start now slots 0 f untaken (grown class start.task f m)
  pub known : IsKnown class start k f h
  pub led : HaveLed class start.task (suc k) steps (record {
    layer = f;
    taken = taken_by class start.task f h m;
    next = grown class start.task f m;
  })
  pub are_spent : AreSpent start.task (grown class start.task f m) spent

-- this layer is layer k, and no layer before it holds every initial state
pub record HasRound (class : Class) (start : Start) (now : Encoded) (slots : List SetId) (k : ℕ)
    (steps : List Step) (spent : List Bool) : Type 0 where
  pub f : Function
  pub h : ℕ → Function
  pub begins : BeginsRound class start now slots k f h steps spent
  pub round : IsRound class start.task k f h

-- layer k holds every initial state
pub record IsCovered (class : Class) (start : Start) (now : Encoded) (slots : List SetId) (k : ℕ)
    (steps : List Step) (spent : List Bool) : Type 0 where
  pub has : HasRound class start now slots k steps spent
  pub covered : covers class (system_of start.task) k ≡ true

-- it doesn't, and the next layer is the same set
pub record IsStill (class : Class) (start : Start) (now : Encoded) (slots : List SetId) (k : ℕ)
    : Type 0 where
  pub at : At start now slots
  pub is_layer : IsLayerSet class start.task k (set_at now.sets slots 0)
  pub stable : IsStable class (system_of start.task) k
  pub short : covers class (system_of start.task) k ≡ false

-- it doesn't, and the next layer is another set, which stands in its place
pub record IsMore (class : Class) (start : Start) (before : Function) (now : Encoded)
    (slots : List SetId) (k : ℕ) (steps : List Step) (spent : List Bool) : Type 0 where
  pub has : HasRound class start now slots (suc k) steps spent
  pub differs : set_at now.sets slots 0 ≢ before

-- what a round leaves, where the layer was this set before it
abbrev pub RoundLeft : Class → Start → Function → Encoded → List SetId → ℕ → List Step → List Bool
    → Round → Type 0
RoundLeft class start before now slots k steps spent Covered =
    IsCovered class start now slots k steps spent
RoundLeft class start before now slots k steps spent Stable = IsStill class start now slots k
RoundLeft class start before now slots k steps spent More =
    IsMore class start before now slots k steps spent

-- a search found the last layer, and the steps to it, or that there is no solution and which layer is
-- the same as the next one
pub record FoundLast (class : Class) (start : Start) (now : Encoded) (slots : List SetId)
    (steps : List Step) : Type 0 where
  pub at : At start now slots
  pub leads : LeadToLast class start.task steps

pub record FoundNone (class : Class) (start : Start) (now : Encoded) (slots : List SetId)
    : Type 0 where
  pub at : At start now slots
  pub none : HasNoSolution class (system_of start.task)
  pub rank : ℕ
  pub stable : IsStable class (system_of start.task) rank
  pub is_layer : IsLayerSet class start.task rank (set_at now.sets slots 0)

abbrev pub SearchLeft : Class → Start → Encoded → List SetId → List Step → Bool → Type 0
SearchLeft class start now slots steps true = FoundLast class start now slots steps
SearchLeft class start now slots steps false = FoundNone class start now slots

-- an action may take what is new of the hits: that is put behind these, and joined to what it takes
pub record MayTake (start : Start) (n a : ℕ) (before g hits : Function) : Type 0 where
  pub new : Fits start (n + 3) (minus_of hits g)
  pub taken : Fits start a (or_of before (minus_of hits g))

-- the second pass may make a step: there is a plan, and it leads from within a round to within one, of
-- the plan's layers; and the place of what
-- is new of the hits may hold a rough set
pub record MayStep (class : Class) (start : Start) (n : ℕ) (here : Progress) (step : Step)
    : Type 0 where
  pub wide : BoundsReachSets start.width class start.task
  pub rough : Contains start.rough (n + 3)
  pub layers : ℕ
  pub last : IsLastLayer class (system_of start.task) layers
  pub from : IsWithinRound class start.task layers here
  pub into : IsWithinRound class start.task layers (after_step class start.task here step)

-- it may make all of these
pub record MayRetrace (class : Class) (start : Start) (n : ℕ) (steps : List Step) : Type 0 where
  pub wide : BoundsReachSets start.width class start.task
  pub rough : Contains start.rough (n + 3)
  pub layers : ℕ
  pub last : IsLastLayer class (system_of start.task) layers
  pub along : (i : ℕ)
      → IsWithinRound class start.task layers (after_steps class start.task (at_goal start.task)
      (take i steps))
