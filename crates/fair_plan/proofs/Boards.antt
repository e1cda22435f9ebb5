-- Every set is small by the width of a search, so that each step can be made; and what a call leaves.
use Rattle.std.specs.Prelude.{⊤}
use Rattle.std.proofs.Common.{◌≡◌, ℕ, ◌+◌, ◌*◌, ◌<◌, ◌≤◌, List, [], ◌∷◌, length, Result, Ok, refl, sym, subst, ◌∙◌, inl, arith}
use Rattle.dd_nodes.specs.Subfunctions.{DependsOnly, Function}
use Rattle.dd_sets.specs.Rooms.{Small}
use Rattle.dd_sets.proofs.SizeLemmas.{every_small}
use Rattle.dd_sets.specs.declared.errors.SetErr.{SetErr}
use Rattle.dd_sets.specs.declared.slots.SetId.{SetId}
use Rattle.encode_task.specs.Slots.{Encoded}
use Rattle.slot_board.specs.Board.{At, ConditionFits, LeadFits, Left, Moved, Scene}
use Rattle.slot_board.specs.declared.board.Outcomes.{Outcomes}
use Rattle.slot_board.proofs.BoardSlots.{depends, left_with, made_at, went}
use Rattle.board_steps.specs.Steps.{CanMake, CanMakeAll, Placed, Shows, after_step, after_steps}
use Rattle.board_steps.specs.declared.steps.Step.{Step}
use Rattle.board_steps.specs.declared.steps.Step.TheVariants.{Whole, Fluent, Fix, Kept, Copy, Combine, Lead}
use Rattle.task_core.specs.Tasks.{fluent_count}
use Rattle.task_core.specs.declared.conditions.Cond.{Cond}
use Rattle.fair_plan.specs.Boards.{AreStepsOf, IsAfter, IsStepOf, IsThere, Leaves, Puts, Origin, actions_of, set_in}
use Rattle.fair_plan.specs.Places.{pairs_end}

-- sizes play no part
pub small : (origin : Origin) (f : Function) → Small (fluent_count origin.start.task) origin.start.width f
small origin f = subst (λ (w : ℕ). Small (fluent_count origin.start.task) w f) (sym origin.widest) (every_small (fluent_count origin.start.task) f)

lead_fits : (origin : Origin) (outcomes : Outcomes) (a : ℕ) (f : Function) → LeadFits origin.start outcomes a f
lead_fits origin outcomes a f = record {
  wide = origin.start.wide;
  given = small origin f;
  exec = small origin _;
  lands = λ o l. small origin _;
  firsts = λ j. small origin _;
  led = λ o l part sub. small origin _;
}

pub condition_fits : (origin : Origin) (cond : Cond) → ConditionFits origin.start cond
condition_fits origin cond set is = small origin set

can_one : (origin : Origin) (placed : Placed) (step : Step) → IsStepOf origin step → CanMake origin.start placed step
can_one origin placed (Whole k) is = is
can_one origin placed (Fluent k f) is = (is.0, is.1, inl (small origin _))
can_one origin placed (Fix k f value) is = (is.0, is.1, inl (small origin _))
can_one origin placed (Kept k slot) is = (is.0, is.1, inl (small origin _))
can_one origin placed (Copy k from) is = (is.0, is.1, inl (small origin _))
can_one origin placed (Combine k operation a b) is = (is.0, is.1, is.2, inl (small origin _))
can_one origin placed (Lead k outcomes action from) is = (is.0, is.1, is.2, lead_fits origin outcomes action.0 (placed from))

pub can_all : (origin : Origin) (placed : Placed) (steps : List Step) → AreStepsOf origin steps → CanMakeAll origin.start placed steps
can_all origin placed [] are = tt
can_all origin placed (step ∷ steps) are = (can_one origin placed step are.0, can_all origin (after_step origin.start placed step) steps are.1)

-- the places that there are
pub in_at : (origin : Origin) (now : Encoded) (slots : List SetId) → At origin.start now slots → (k : ℕ) → k < origin.start.places → k < length slots
in_at origin now slots at k l = let long : length slots ≡ origin.start.places = at.long in omega arith

pub in_start : (origin : Origin) (x : Scene) → IsThere origin x → (k : ℕ) → k < length x.1 → k < origin.start.places
in_start origin x there k l = let long : length x.1 ≡ origin.start.places = there.at.long in omega arith

pub le_start : (origin : Origin) (x : Scene) → IsThere origin x → (k : ℕ) → k ≤ length x.1 → k ≤ origin.start.places
le_start origin x there k l = let long : length x.1 ≡ origin.start.places = there.at.long in omega arith

pub pairs_in : (origin : Origin) → pairs_end (actions_of origin) + 2 ≤ origin.start.places
pairs_in origin = go ((origin.count + 1) * actions_of origin) origin.places
  where
    go : (t : ℕ) → origin.start.places ≡ pairs_end (actions_of origin) + 2 + 2 * origin.count + t → pairs_end (actions_of origin) + 2 ≤ origin.start.places
    go t e = omega arith

pub low : (origin : Origin) (k : ℕ) → k < 8 → k < origin.start.places
low origin k l = let p = pairs_in origin in omega arith

pub pair_in : (origin : Origin) (a : ℕ) → a < actions_of origin → 8 + a < origin.start.places
pair_in origin a l = let p = pairs_in origin in omega arith

pub low_in : (origin : Origin) (now : Encoded) (slots : List SetId) → At origin.start now slots → (k : ℕ) → k < 8 → k < length slots
low_in origin now slots at k l = in_at origin now slots at k (low origin k l)

-- the actions that there are
pub action_in : (origin : Origin) (x : Scene) → IsThere origin x → (a : ℕ) → a < length x.0.actions → a < actions_of origin
action_in origin x there a l = let e : length x.0.actions ≡ actions_of origin = (made_at origin.start x.0 x.1 there.at).actions in omega arith

pub actions_are : (origin : Origin) (x : Scene) → IsThere origin x → length x.0.actions ≡ actions_of origin
actions_are origin x there = (made_at origin.start x.0 x.1 there.at).actions

-- a set depends on the fluents alone
pub only : (origin : Origin) (x : Scene) → IsThere origin x → (k : ℕ) → DependsOnly 0 (fluent_count origin.start.task) (set_in x k)
only origin x there k = depends origin.start x.0 x.1 there.at there.sound k

-- steps that were made
pub shown : (origin : Origin) (x : Scene) → IsThere origin x → Shows origin.start x.0 x.1 (set_in x)
shown origin x there = record { at = there.at; sound = there.sound; sets = λ k l. refl }

pub made : (origin : Origin) (x y : Scene) (steps : List Step) (result : Result Unit SetErr) → Left origin.start y.0 y.1 (Shows origin.start y.0 y.1 (after_steps origin.start (set_in x) steps)) result → Leaves origin y (IsAfter origin x y steps) result
made origin x y steps result left =
    left_with origin.start y.0 y.1 _ _ result (λ (shows : Shows origin.start y.0 y.1 (after_steps origin.start (set_in x) steps)).
    let there : IsThere origin y = record { at = shows.at; sound = shows.sound } in
    let after : IsAfter origin x y steps = λ k l. shows.sets k l in
    (there, after)) left

-- a call that moved one place
pub puts : (origin : Origin) (x y : Scene) (place : ℕ) (set : Function) (result : Result Unit SetErr) → Left origin.start y.0 y.1 (Moved origin.start x.0.sets x.1 y.0 y.1 place set) result → Leaves origin y (Puts origin x y place set) result
puts origin x y place set result left =
    left_with origin.start y.0 y.1 _ _ result (λ (m : Moved origin.start x.0.sets x.1 y.0 y.1 place set).
    let there : IsThere origin y = record { at = m.at; sound = m.sound } in
    let put : Puts origin x y place set = record { here = m.here; others = λ k l d. m.others k (in_at origin y.0 y.1 m.at k l) d } in
    (there, put)) left

-- what a call left, where it answered
pub done : {T : Type 0} (origin : Origin) (y : Scene) (Fact : Type 0) (result : Result T SetErr) (x : T) → result ≡ Ok x → Leaves origin y Fact result → IsThere origin y × Fact
done origin y Fact result x is left = went origin.start y.0 y.1 (IsThere origin y × Fact) result x is left

-- a fact from another one
pub leaves_with : {T : Type 0} (origin : Origin) (y : Scene) (P Q : Type 0) (result : Result T SetErr) → (IsThere origin y → P → Q) → Leaves origin y P result → Leaves origin y Q result
leaves_with origin y P Q result f left = left_with origin.start y.0 y.1 (IsThere origin y × P) (IsThere origin y × Q) result (λ p. (p.0, f p.0 p.1)) left

pub le_length : (origin : Origin) (x : Scene) → IsThere origin x → (k : ℕ) → k ≤ origin.start.places → k ≤ length x.1
le_length origin x there k l = let long : length x.1 ≡ origin.start.places = there.at.long in omega arith

-- what calls keep
pub actions_same : (origin : Origin) (x y : Scene) → IsThere origin x → IsThere origin y → (n : ℕ) → n ≡ length x.0.actions → n ≡ length y.0.actions
actions_same origin x y first second n e = e ∙ actions_are origin x first ∙ sym (actions_are origin y second)

pub action_still : (origin : Origin) (x y : Scene) → IsThere origin x → IsThere origin y → (a : ℕ) → a < length x.0.actions → a < length y.0.actions
action_still origin x y first second a l = let e = actions_are origin x first in let f = actions_are origin y second in omega (arith, e, f)

pub place_still : (origin : Origin) (x y : Scene) → IsThere origin x → IsThere origin y → (k : ℕ) → k < length x.1 → k < length y.1
place_still origin x y first second k l = let e : length x.1 ≡ origin.start.places = first.at.long in let f : length y.1 ≡ origin.start.places = second.at.long in omega arith

pub places_still : (origin : Origin) (x y : Scene) → IsThere origin x → IsThere origin y → (k : ℕ) → k ≤ length x.1 → k ≤ length y.1
places_still origin x y first second k l = let e : length x.1 ≡ origin.start.places = first.at.long in let f : length y.1 ≡ origin.start.places = second.at.long in omega arith

-- an answer that says nothing more
pub leaves_nothing : {T : Type 0} (origin : Origin) (y : Scene) (P : Type 0) (result : Result T SetErr) → Leaves origin y P result → Leaves origin y ⊤ result
leaves_nothing origin y P result left = leaves_with origin y P ⊤ result (λ now p. tt) left

-- the same where it isn't known yet that the sets are sets
pub actions_at : (origin : Origin) (enc now : Encoded) (old new : List SetId) → At origin.start enc old → At origin.start now new → (n : ℕ) → n ≡ length enc.actions → n ≡ length now.actions
actions_at origin enc now old new first second n e = e ∙ (made_at origin.start enc old first).actions ∙ sym (made_at origin.start now new second).actions

pub vars_at : (origin : Origin) (enc now : Encoded) (old new : List SetId) → At origin.start enc old → At origin.start now new → enc.sets.vars ≡ now.sets.vars
vars_at origin enc now old new first second = first.working.kept.vars ∙ sym second.working.kept.vars
