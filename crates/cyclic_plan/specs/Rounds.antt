-- Private: how a round begins with the pairs of the one before.
use Rattle.std.specs.Prelude.{◌≡◌, ℕ, suc, ◌+◌, ◌<◌, ◌≤◌, ◌&&◌, true, List}
use Rattle.dd_sets.specs.declared.slots.SetId.{SetId}
use Rattle.encode_task.specs.Slots.{Encoded}
use Rattle.task_core.specs.Cubes.{SetOfVectors}
use Rattle.task_core.specs.Systems.{IsVector, System}
use Rattle.task_core.specs.Tasks.{action_count, system_of}
use Rattle.task_core.specs.Vectors.{Vector}
use Rattle.slot_board.specs.Board.{Start, set_at}
use Rattle.plan_theory.specs.PairRounds.{kept}
use Rattle.plan_theory.specs.PairRounds.{round as round_of}
use Rattle.cyclic_plan.specs.Stages.{Agrees, HasRound, none_taken}

-- the states of an action's kept pairs are among some states
abbrev pub ArePairsAmong : System → SetOfVectors → SetOfVectors → ℕ → Type 0
ArePairsAmong sys left set a =
    (v : Vector) → IsVector sys v → kept sys left v a ≡ true → set v ≡ true

-- round r + 1 keeps all pairs of the action that round r kept in states that are left
abbrev pub LosesNone : System → ℕ → ℕ → Type 0
LosesNone sys r a = (v : Vector) → IsVector sys v
    → kept sys (round_of sys (suc r)) v a ≡ (kept sys (round_of sys r) v a && round_of sys (suc r) v)

-- the states that round r left stand at 1 and at 3; the first n actions have the pairs that are
-- kept of them, and the others those that round r kept
pub record HasDropped (start : Start) (now : Encoded) (slots : List SetId) (r n : ℕ) : Type 0 where
  pub round : HasRound start now slots (round_of (system_of start.task) (suc r)) none_taken
  pub holds_near : Agrees start (set_at now.sets slots 3) (round_of (system_of start.task) (suc r))
  pub holds_kept : (a : ℕ) → a < n → a < action_count start.task
      → Agrees start (set_at now.sets slots (7 + a))
      (λ v. kept (system_of start.task) (round_of (system_of start.task) (suc r)) v a)
  pub holds_before : (a : ℕ) → n ≤ a → a < action_count start.task
      → Agrees start (set_at now.sets slots (7 + a))
      (λ v. kept (system_of start.task) (round_of (system_of start.task) r) v a)

-- and of the states of action n's pairs in round r, those that are left stand at 6
pub record HasMet (start : Start) (now : Encoded) (slots : List SetId) (r n : ℕ) : Type 0 where
  pub round : HasRound start now slots (round_of (system_of start.task) (suc r)) none_taken
  pub holds_near : Agrees start (set_at now.sets slots 3) (round_of (system_of start.task) (suc r))
  pub holds_kept : (a : ℕ) → a < n → a < action_count start.task
      → Agrees start (set_at now.sets slots (7 + a))
      (λ v. kept (system_of start.task) (round_of (system_of start.task) (suc r)) v a)
  pub holds_met : Agrees start (set_at now.sets slots 6)
      (λ v. kept (system_of start.task) (round_of (system_of start.task) r) v n
      && round_of (system_of start.task) (suc r) v)
  pub holds_before : (a : ℕ) → n ≤ a → a < action_count start.task
      → Agrees start (set_at now.sets slots (7 + a))
      (λ v. kept (system_of start.task) (round_of (system_of start.task) r) v a)
