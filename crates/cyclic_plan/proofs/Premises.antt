-- What each step of a search puts at a place fits there.
use Rattle.std.proofs.Common.{◌≡◌, ◌≢◌, ℕ, suc, ◌+◌, ◌<◌, ◌==◌, ◌&&◌, ◌||◌, not, List, length, inl, refl, sym, ap, subst, ◌∙◌, arith}
use Rattle.std.proofs.lemmas.Bool.{cond-true, eq-eqb}
use Rattle.dd_nodes.specs.Subfunctions.{Function}
use Rattle.dd_ops.specs.Operations.{and_of, minus_of, or_of}
use Rattle.dd_sets.specs.LiveSets.{nothing, set_of}
use Rattle.dd_sets.specs.declared.slots.SetId.{SetId}
use Rattle.encode_task.specs.Slots.{Encoded}
use Rattle.std.specs.Prelude.{Some}
use Rattle.task_core.specs.Cubes.{SetOfVectors}
use Rattle.task_core.specs.Tasks.{action_count, system_of}
use Rattle.task_core.specs.Vectors.{value_of}
use Rattle.plan_theory.specs.PairRounds.{round}
use Rattle.slot_board.specs.Board.{Fits, IsSmall, LeadFits, Moved, Start, TestFits, led, set_at}
use Rattle.slot_board.specs.declared.board.Outcomes.TheVariants as Outcomes
use Rattle.slot_board.proofs.BoardSlots.{depends}
use Rattle.cyclic_plan.specs.Rounds.{HasMet}
use Rattle.cyclic_plan.specs.Stages.{HasHits, HasNext, HasNothing, HasPairs, HasRound, IsSmallSet, Takings, taken_also}
use Rattle.cyclic_plan.proofs.Fitting.{close_fits, goal_small, hits_small, left_fits, met_fits, new_fits, nothing_small, outside_fits, pairs_small, small_at, test_fits}
use Rattle.cyclic_plan.proofs.Narrowing.{kept_agree}
use Rattle.cyclic_plan.proofs.PlanMade.{goal_held}
use Rattle.cyclic_plan.proofs.StageSteps.{hits_agree, pairs_agree, taken_agree}

-- the goal states
pub goal_fits : (start : Start) (enc : Encoded) (slots : List SetId) (goal : SetId) → HasNothing start enc slots → enc.goal ≡ Some goal → Fits start 0 (set_of enc.sets goal.0)
goal_fits start enc slots goal h is =
    let held = goal_held start goal (sym (ap (λ (e : Encoded). e.goal) h.at.same) ∙ is) in
    inl (goal_small start h.fit (set_of enc.sets goal.0) (λ v at. ap (λ (f : Function). f (value_of v)) (h.at.working.kept.sets goal.0 held.0) ∙ held.1 v at))

module _ (start : Start) (now : Encoded) (slots : List SetId) (left : SetOfVectors) (taken : Takings) (h : HasRound start now slots left taken) where
  -- the places of working sets
  pub at_place : (place : ℕ) → place < 7 + action_count start.task + action_count start.task → place ≢ 2 → place ≢ 6 → IsSmall start (set_at now.sets slots place)
  at_place place within not_outside not_new =
      let long : length slots ≡ 7 + action_count start.task + action_count start.task = h.at.long ∙ h.places in
      small_at start h.fit now slots h.at place (omega arith) not_outside not_new

  pub copy_goal : (to : ℕ) → Fits start to (set_at now.sets slots 0)
  copy_goal to = inl (at_place 0 (omega arith) (λ e. absurd (omega arith)) (λ e. absurd (omega arith)))

  pub copy_near : (to : ℕ) → Fits start to (set_at now.sets slots 3)
  copy_near to = inl (at_place 3 (omega arith) (λ e. absurd (omega arith)) (λ e. absurd (omega arith)))

  pub copy_next : (to : ℕ) → Fits start to (set_at now.sets slots 4)
  copy_next to = inl (at_place 4 (omega arith) (λ e. absurd (omega arith)) (λ e. absurd (omega arith)))

  -- the states that are left outside the goal, and where an action leads into what is left alone
  pub outside_made : Fits start 2 (minus_of (set_at now.sets slots 1) (set_at now.sets slots 0))
  outside_made = outside_fits start h.fit _ _ (at_place 1 (omega arith) (λ e. absurd (omega arith)) (λ e. absurd (omega arith))) (at_place 0 (omega arith) (λ e. absurd (omega arith)) (λ e. absurd (omega arith)))

  pub left_lead : (a : ℕ) → a < action_count start.task → LeadFits start Outcomes.Every a (set_at now.sets slots 1)
  left_lead a within = left_fits start h.fit left h.is_left (set_at now.sets slots 1) (depends start now slots h.at h.sound 1) h.holds_left a within

  -- the test of the initial states
  pub test_near : TestFits start (set_at now.sets slots 3)
  test_near = test_fits start h.fit (set_at now.sets slots 3) (at_place 3 (omega arith) (λ e. absurd (omega arith)) (λ e. absurd (omega arith)))

  pub test_left : TestFits start (set_at now.sets slots 1)
  test_left = test_fits start h.fit (set_at now.sets slots 1) (at_place 1 (omega arith) (λ e. absurd (omega arith)) (λ e. absurd (omega arith)))

  -- an action's pairs of the round before, of states that are left
  pub met_made : (a : ℕ) → a < action_count start.task → Fits start 6 (and_of (set_at now.sets slots (7 + a)) (set_at now.sets slots 1))
  met_made a within = met_fits start h.fit _ _ (at_place (7 + a) (omega arith) (λ e. absurd (omega arith)) (λ e. absurd (omega arith))) (at_place 1 (omega arith) (λ e. absurd (omega arith)) (λ e. absurd (omega arith)))

  pub empty_fits : (to : ℕ) → set_at now.sets slots 6 ≡ nothing → Fits start to (set_at now.sets slots 6)
  empty_fits to none = inl (subst (IsSmall start) (sym none) (nothing_small start h.fit))

-- an action's pairs
pub pairs_made : (start : Start) (enc mid : Encoded) (old half : List SetId) (a to : ℕ) (left : SetOfVectors) (taken : Takings) → a < action_count start.task → HasPairs start enc old left taken a
    → Moved start enc.sets old mid half (7 + a) (led Outcomes.Every start.task a (set_at enc.sets old 1)) → Fits start to (and_of (set_at mid.sets half (7 + a)) (set_at mid.sets half 2))
pairs_made start enc mid old half a to left taken l h first = inl (pairs_small start h.round.fit left h.round.is_left a l _ (pairs_agree start enc mid old half a left taken l h first))

pub kept_made : (start : Start) (enc mid : Encoded) (old half : List SetId) (r a to : ℕ) → a < action_count start.task → HasMet start enc old r a → Moved start enc.sets old mid half 5 (led Outcomes.Every start.task a (set_at enc.sets old 1))
    → Fits start to (and_of (set_at mid.sets half 5) (set_at mid.sets half 6))
kept_made start enc mid old half r a to l h first = inl (pairs_small start h.round.fit (round (system_of start.task) (suc r)) h.round.is_left a l _ (kept_agree start enc mid old half r a h first))

-- and their copy
pub kept_copied : (start : Start) (enc mid now : Encoded) (old half new : List SetId) (r a to : ℕ) → a < action_count start.task → HasMet start enc old r a → Moved start enc.sets old mid half 5 (led Outcomes.Every start.task a (set_at enc.sets old 1))
    → Moved start mid.sets half now new 5 (and_of (set_at mid.sets half 5) (set_at mid.sets half 6)) → Fits start to (set_at now.sets new 5)
kept_copied start enc mid now old half new r a to l h first second = subst (Fits start to) (sym second.here) (kept_made start enc mid old half r a to l h first)

-- where an action leads into the near states
pub near_lead : (start : Start) (now : Encoded) (slots : List SetId) (left : SetOfVectors) (taken : Takings) (near next : SetOfVectors) → HasNext start now slots left taken near next → (a : ℕ) → a < action_count start.task → LeadFits start Outcomes.Some a (set_at now.sets slots 3)
near_lead start now slots left taken near next h a within =
    let round = h.by_near.round in
    close_fits start round.fit left near round.is_left h.is_near (set_at now.sets slots 3) (depends start now slots round.at round.sound 3) h.by_near.holds_near a within

pub hits_made : (start : Start) (enc mid : Encoded) (old half : List SetId) (a to : ℕ) (left : SetOfVectors) (taken : Takings) (near next : SetOfVectors) → a < action_count start.task → HasNext start enc old left taken near next
    → Moved start enc.sets old mid half 5 (led Outcomes.Some start.task a (set_at enc.sets old 3)) → Fits start to (and_of (set_at mid.sets half 5) (set_at mid.sets half (7 + a)))
hits_made start enc mid old half a to left taken near next l h first =
    let round = h.by_near.round in
    inl (hits_small start round.fit left near round.is_left h.is_near a l _ (hits_agree start enc mid old half a left taken near next l h first))

-- what is new of an action's hits
pub new_made : (start : Start) (now : Encoded) (slots : List SetId) (left : SetOfVectors) (taken : Takings) → HasRound start now slots left taken → Fits start 6 (minus_of (set_at now.sets slots 5) (set_at now.sets slots 4))
new_made start now slots left taken h =
    new_fits start h.fit _ _ (at_place start now slots left taken h 5 (omega arith) (λ e. absurd (omega arith)) (λ e. absurd (omega arith))) (at_place start now slots left taken h 4 (omega arith) (λ e. absurd (omega arith)) (λ e. absurd (omega arith)))

-- what an action takes
pub taken_fits : (start : Start) (enc mid : Encoded) (old half : List SetId) (a to : ℕ) (left : SetOfVectors) (taken : Takings) (near next hits : SetOfVectors) → a < action_count start.task → HasHits start enc old left taken near next hits
    → Moved start enc.sets old mid half 6 (minus_of (set_at enc.sets old 5) (set_at enc.sets old 4)) → IsSmallSet start (taken_also taken a (λ v. hits v && not (next v)) a)
    → Fits start to (or_of (set_at mid.sets half (7 + action_count start.task + a)) (set_at mid.sets half 6))
taken_fits start enc mid old half a to left taken near next hits l h first small =
    inl (small _ (λ v is. taken_agree start enc mid old half a left taken near next hits l h first v is ∙ sym (cond-true (a == a) (taken a v || (hits v && not (next v))) (taken a v) (eq-eqb a a refl))))

-- the next states with the hits
pub joined_fits : (start : Start) (now : Encoded) (slots : List SetId) (to : ℕ) (left : SetOfVectors) (taken : Takings) (near next hits : SetOfVectors) → HasHits start now slots left taken near next hits → IsSmallSet start (λ v. next v || hits v)
    → Fits start to (or_of (set_at now.sets slots 4) (set_at now.sets slots 5))
joined_fits start now slots to left taken near next hits h small =
    inl (small _ (λ v is. ap (λ x. x || set_at now.sets slots 5 (value_of v)) (h.by_next.holds_next v is) ∙ ap (λ x. next v || x) (h.holds_hits v is)))
