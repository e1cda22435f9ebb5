-- The sets that are made for an action, by their sizes.
use Rattle.std.proofs.Common.{◌≡◌, ℕ, ◌&&◌, [], ◌∷◌, List, take, Contains, sym, subst}
use Rattle.std.specs.List.{list_any}
use Rattle.dd_nodes.specs.Subfunctions.{Function}
use Rattle.dd_nodes.proofs.Dependence.{sub_self}
use Rattle.dd_ops.specs.Operations.{and_of}
use Rattle.dd_sets.specs.Frames.{Owns}
use Rattle.dd_sets.specs.LiveSets.{LiveSets, set_of}
use Rattle.dd_sets.specs.Rooms.{Rough, Small}
use Rattle.dd_sets.specs.declared.slots.SetId.{SetId}
use Rattle.dd_sets.proofs.OperationSizes.{meet_rough}
use Rattle.task_core.specs.Conditions.{holds}
use Rattle.task_core.specs.declared.actions.GroundAction.{GroundAction}
use Rattle.task_core.specs.declared.actions.Outcome.{Outcome}
use Rattle.task_core.specs.declared.conditions.Cond.{Cond}
use Rattle.encode_task.specs.Made.{Holds}
use Rattle.encode_task.specs.Tables.{AllPaired}
use Rattle.encode_task.specs.WorkingSets.{AreSmall, IsMadeForAction, IsMadeForOutcome, IsPartOf}
use Rattle.encode_task.specs.WorkingSets.IsMadeForAction.{allowed, first_outcomes, led, of_outcome, precondition}
use Rattle.encode_task.proofs.LandsLemmas.{first_lands, land_at}
use Rattle.encode_task.proofs.PartLemmas.{small_own}
use Rattle.encode_task.specs.TaskSets.{lands_of}

-- the same over another number of fluents that is equal
pub action_at : (w m n : ℕ) (invariant : Cond) (action : GroundAction) → m ≡ n → AreSmall n w (IsMadeForAction n invariant action) → AreSmall m w (IsMadeForAction m invariant action)
action_at w m n invariant action same small = subst (λ v. AreSmall v w (IsMadeForAction v invariant action)) (sym same) small

pub precondition_small : (w n : ℕ) (invariant : Cond) (action : GroundAction) → AreSmall n w (IsMadeForAction n invariant action) → AreSmall n w (IsPartOf action.exec)
precondition_small w n invariant action small set of_part = small set (precondition set of_part)

pub outcome_small : (w n : ℕ) (invariant : Cond) (action : GroundAction) (outcomes : List Outcome) (outcome : Outcome) → outcomes ≡ action.outcomes.items → Contains outcomes outcome → AreSmall n w (IsMadeForAction n invariant action)
    → AreSmall n w (IsMadeForOutcome n outcome)
outcome_small w n invariant action outcomes outcome same among small set made = small set (of_outcome outcome set (subst (λ l. Contains l outcome) same among) made)

pub lands_small : (w n : ℕ) (invariant : Cond) (action : GroundAction) (o : Outcome) → Contains action.outcomes.items o → AreSmall n w (IsMadeForAction n invariant action) → Small n w (lands_of invariant o)
lands_small w n invariant action o among small = small (lands_of invariant o) (led o (holds invariant) among (sub_self n (holds invariant)))

-- what is allowed, and is in one of the first slots
pub first_slots_small : (w : ℕ) (start before : LiveSets) (invariant : Cond) (action : GroundAction) (lands : List SetId) (slot : SetId) (j : ℕ) → Owns start before ((slot.0, and_of (holds invariant) (holds action.exec)) ∷ [])
    → AllPaired (λ slot o. Holds start slot (lands_of invariant o)) lands action.outcomes.items → AreSmall start.vars w (IsMadeForAction start.vars invariant action)
    → Small before.vars w (λ values. list_any (λ other. set_of before slot.0 values && set_of before other.0 values) (take j lands))
first_slots_small w start before invariant action lands slot j owns each small =
    subst (λ (f : Function). Small before.vars w f) (sym (first_lands start before invariant action.outcomes.items lands (set_of before slot.0) j owns.kept each))
    (small_own w (λ allow values. allow values && list_any (λ o. lands_of invariant o values) (take j action.outcomes.items)) start before slot (and_of (holds invariant) (holds action.exec)) owns (small _ (first_outcomes j)))

-- and what is allowed, and is in one slot
pub slot_rough : (w : ℕ) (start before : LiveSets) (invariant : Cond) (action : GroundAction) (lands : List SetId) (slot other : SetId) → Owns start before ((slot.0, and_of (holds invariant) (holds action.exec)) ∷ [])
    → AllPaired (λ slot o. Holds start slot (lands_of invariant o)) lands action.outcomes.items → Contains lands other → AreSmall start.vars w (IsMadeForAction start.vars invariant action)
    → Rough before.vars w (and_of (set_of before slot.0) (set_of before other.0))
slot_rough w start before invariant action lands slot other owns each among small =
    let found = land_at start before invariant action.outcomes.items lands other owns.kept each among in
    meet_rough before.vars w (set_of before slot.0) (set_of before other.0)
    (small_own w (λ set. set) start before slot (and_of (holds invariant) (holds action.exec)) owns (small _ allowed))
    (subst (λ (f : Function). Small before.vars w f) (sym found.2) (subst (λ v. Small v w (lands_of invariant found.0)) (sym owns.kept.vars) (lands_small w start.vars invariant action found.0 found.1 small)))
