-- Private: the steps of a round that changed something, in the first pass over its pairs and in the
-- second.
use Rattle.std.specs.Prelude.{◌≡◌, ◌⊎◌, ℕ, suc, ◌+◌, ◌<◌, ◌≤◌, ◌||◌, Bool, true, false, List, []}
use Rattle.std.specs.Prelude.{◌∷◌, ◌++◌, length, slice_index_or}
use Rattle.dd_sets.specs.declared.slots.SetId.{SetId}
use Rattle.encode_task.specs.Slots.{Encoded}
use Rattle.task_core.specs.Cubes.{SetOfVectors}
use Rattle.task_core.specs.Systems.{IsVector}
use Rattle.task_core.specs.Tasks.{action_count, system_of}
use Rattle.task_core.specs.Vectors.{Vector}
use Rattle.task_core.specs.declared.classes.Class.TheVariants.{Weak}
use Rattle.task_core.specs.declared.literals.ActionId.{ActionId}
use Rattle.plan_theory.specs.Layers.{layer, may_lead}
use Rattle.plan_theory.specs.PairRounds.{connected, kept}
use Rattle.slot_board.specs.Board.{Start}
use Rattle.cyclic_plan.specs.Rounds.{ArePairsAmong}
use Rattle.cyclic_plan.specs.Stages.{HasNear, HasNext, kept_system, next_by, none_taken, taken_by}
use Rattle.cyclic_plan.specs.Stages.{takers_within}
use Rattle.slot_board.specs.declared.steps.Step.{Step}
use Rattle.slot_board.specs.declared.steps.Step.TheVariants.{Advance, Grow}

-- the states within k steps of the goal by the pairs that are kept, and those with what the first n
-- actions lead into them
abbrev pub near_at : Start → SetOfVectors → ℕ → SetOfVectors
near_at start left k = layer Weak (kept_system start left) k

abbrev pub next_at : Start → SetOfVectors → ℕ → ℕ → SetOfVectors
next_at start left k n = next_by (kept_system start left) (near_at start left k) n

-- in step k an action leads no state into the near ones but what is among them, or an action before
-- it led into them
abbrev pub AddsNothing : Start → SetOfVectors → ℕ → ℕ → Type 0
AddsNothing start left k a = (v : Vector) → IsVector (system_of start.task) v
    → may_lead (kept_system start left) (near_at start left k) v a ≡ true
    → next_at start left k a v ≡ true

-- the states within k steps are all from which the goal is reached
abbrev pub AreAll : Start → SetOfVectors → ℕ → Type 0
AreAll start left k = (v : Vector) → IsVector (system_of start.task) v
    → near_at start left k v
    ≡ connected (system_of start.task) (kept (system_of start.task) left) v

-- after the first n actions of step k, these steps leave out only what adds nothing, and they end
-- where the states within so many steps are all
abbrev pub AreStepsFrom : Start → SetOfVectors → ℕ → ℕ → List Step → Type 0
AreStepsFrom start left k n [] = (n ≡ 0) × AreAll start left k
AreStepsFrom start left k n (Grow a ∷ rest) =
    (n ≤ a.0) × (a.0 < action_count start.task)
    × ((b : ℕ) → n ≤ b → b < a.0 → AddsNothing start left k b)
    × AreStepsFrom start left k (a.0 + 1) rest
AreStepsFrom start left k n (Advance ∷ rest) =
    (n ≤ action_count start.task)
    × ((b : ℕ) → n ≤ b → b < action_count start.task → AddsNothing start left k b)
    × AreStepsFrom start left (suc k) 0 rest

-- these steps lead from the goal to there: what follows there follows them from the goal on
abbrev pub HasLed : Start → SetOfVectors → ℕ → ℕ → List Step → Type 0
HasLed start left k n steps =
    (rest : List Step) → AreStepsFrom start left k n rest → AreStepsFrom start left 0 0 (steps ++ rest)

-- the states of the kept pairs of each action that is spent are among some states
pub record AreSpent (start : Start) (left set : SetOfVectors) (spent : List Bool) : Type 0 where
  pub long : length spent ≡ action_count start.task
  pub among : (a : ℕ) → a < action_count start.task → slice_index_or spent a false ≡ true
      → ArePairsAmong (system_of start.task) left set a

-- the near states are those within k steps, to which these steps lead
pub record BeginsStep (start : Start) (now : Encoded) (slots : List SetId) (left : SetOfVectors)
    (k : ℕ) (steps : List Step) (spent : List Bool) : Type 0 where
  pub by_near : HasNear start now slots left none_taken (near_at start left k)
  pub led : HasLed start left k 0 steps
  pub are_spent : AreSpent start left (near_at start left k) spent

-- and the next ones have what the first n actions lead into these
pub record HasGrown (start : Start) (now : Encoded) (slots : List SetId) (left : SetOfVectors)
    (k n : ℕ) (steps : List Step) (spent : List Bool) : Type 0 where
  pub by_next : HasNext start now slots left none_taken (near_at start left k)
      (next_at start left k n)
  pub led : HasLed start left k n steps
  pub are_spent : AreSpent start left (next_at start left k n) spent

-- the hits are joined to the next states, which is noted as a step of the action unless they were
-- among these already
pub record HasJoined (start : Start) (now : Encoded) (slots : List SetId)
    (left near next hits : SetOfVectors) (a : ActionId) (before after : List Step)
    : Type 0 where
  pub by_next : HasNext start now slots left none_taken near (λ v. next v || hits v)
  pub noted : (after ≡ before ++ Grow a ∷ []) ⊎ ((after ≡ before)
      × ((v : Vector) → IsVector (system_of start.task) v → hits v ≡ true → next v ≡ true))

-- in the second pass: the first n actions of step k are taken where they are new, and the rest of the
-- steps follows
pub record HasRetraced (start : Start) (now : Encoded) (slots : List SetId) (left : SetOfVectors)
    (k n : ℕ) (rest : List Step) : Type 0 where
  pub by_next : HasNext start now slots left (taken_by true (kept_system start left)
      (near_at start left k) (takers_within true (kept_system start left) k) n)
      (near_at start left k) (next_at start left k n)
  pub follows : AreStepsFrom start left k n rest

-- the second pass is somewhere, from which the rest follows
abbrev pub RetracedOn : Start → Encoded → List SetId → SetOfVectors → List Step → Type 0
RetracedOn start now slots left rest = (k : ℕ) × (n : ℕ) × HasRetraced start now slots left k n rest
