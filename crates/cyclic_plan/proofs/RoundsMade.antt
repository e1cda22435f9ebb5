-- The rounds on sets of states: from one to the next, and the last one.
use Rattle.std.proofs.Common.{◌≡◌, ℕ, suc, ◌+◌, ◌<◌, List, refl, sym, ap, ◌∙◌, arith}
use Rattle.dd_nodes.specs.Subfunctions.{Function}
use Rattle.dd_sets.specs.declared.slots.SetId.{SetId}
use Rattle.encode_task.specs.Slots.{Encoded}
use Rattle.encode_task.proofs.StateVectors.{same_functions}
use Rattle.task_core.specs.Cubes.{SetOfVectors}
use Rattle.task_core.specs.Systems.{IsVector}
use Rattle.task_core.specs.Tasks.{action_count, fluent_count, system_of}
use Rattle.task_core.specs.Vectors.{all_vectors, value_of}
use Rattle.slot_board.proofs.BoardSlots.{depends}
use Rattle.slot_board.specs.Board.{set_at}
use Rattle.slot_board.specs.Board.{Moved, Start}
use Rattle.plan_theory.specs.PairRounds.{IsLastRound, round}
use Rattle.cyclic_plan.specs.Stages.{HasNear, HasPairs, HasRound, HasRounds, IsLeft, Takings}
use Rattle.plan_theory.proofs.FewerStates.{fewer}
use Rattle.plan_theory.proofs.RoundSteps.{held, round_shrinks}
use Rattle.cyclic_plan.proofs.StageSteps.{here, still}

-- whatever stands at the near states' place
pub some_near : (start : Start) (now : Encoded) (slots : List SetId) (left : SetOfVectors) (taken : Takings) → HasPairs start now slots left taken (action_count start.task) → HasNear start now slots left taken (λ v. set_at now.sets slots 3 (value_of v))
some_near start now slots left taken h = record {
  round = h.round;
  holds_pairs = λ a l. h.holds_pairs a l l;
  holds_near = λ v is. refl;
}

-- the states of the last round in the place of those before
pub left_copied : (start : Start) (enc now : Encoded) (old new : List SetId) (left : SetOfVectors) (taken : Takings) (near : SetOfVectors) → HasNear start enc old left taken near → IsLeft start near
    → Moved start enc.sets old now new 1 (set_at enc.sets old 3) → HasRound start now new near taken
left_copied start enc now old new left taken near h is m = record {
  at = m.at;
  fit = h.round.fit;
  places = h.round.places;
  sound = m.sound;
  is_left = is;
  holds_goal = still start enc now old new 1 _ m h.round.places 0 _ (omega arith) (λ e. absurd (omega arith)) h.round.holds_goal;
  holds_left = here start enc now old new 1 _ m h.round.places near h.holds_near;
  holds_taken = λ k l. still start enc now old new 1 _ m h.round.places (7 + action_count start.task + k) (taken k) (omega arith) (λ e. absurd (omega arith)) (h.round.holds_taken k l);
}

-- where a round left the same states as the one before, it is the last
pub round_last : (start : Start) (now : Encoded) (slots : List SetId) (r : ℕ) → HasRounds start now slots r → set_at now.sets slots 3 ≡ set_at now.sets slots 1 → IsLastRound (system_of start.task) r
round_last start now slots r h same v is =
    sym (h.holds_near v is) ∙ ap (λ (f : Function). f (value_of v)) same ∙ h.round.holds_left v is

-- and where it left others, fewer are left
pub round_less : (start : Start) (enc now : Encoded) (old new : List SetId) (r n : ℕ) → HasRounds start enc old r → (set_at enc.sets old 3 ≡ set_at enc.sets old 1 → ⊥) → n ≡ fluent_count start.task → (taken : Takings) (near : SetOfVectors)
    → HasNear start now new (round (system_of start.task) (suc r)) taken near
    → held (λ v. set_at now.sets new 1 (value_of v)) (all_vectors n) < held (λ v. set_at enc.sets old 1 (value_of v)) (all_vectors n)
round_less start enc now old new r n h differ is_n taken near after =
    fewer n (λ v. set_at enc.sets old 1 (value_of v)) (λ v. set_at now.sets new 1 (value_of v))
    (λ v long inside.
    let is : IsVector (system_of start.task) v = long ∙ is_n in
    h.round.holds_left v is ∙ round_shrinks (system_of start.task) r v (sym (after.round.holds_left v is) ∙ inside))
    (λ same. differ (same_functions (fluent_count start.task) (set_at enc.sets old 3) (set_at enc.sets old 1)
    (depends start enc old h.round.at h.round.sound 3) (depends start enc old h.round.at h.round.sound 1)
    (λ v is. h.holds_near v is ∙ sym (after.round.holds_left v is) ∙ same v (is ∙ sym is_n))))
