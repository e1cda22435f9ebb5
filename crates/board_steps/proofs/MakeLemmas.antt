-- What a call on a board leaves, as a step; and steps in turn.
use Rattle.std.proofs.Common.{◌≡◌, ℕ, zero, suc, ◌+◌, ◌<◌, List, [], ◌∷◌, drop, get_or, length, Result, refl, sym, ap, subst, ◌∙◌, arith}
use Rattle.std.proofs.Math.Seq.{drop-cons}
use Rattle.dd_nodes.specs.Subfunctions.{Function}
use Rattle.dd_sets.specs.declared.errors.SetErr.{SetErr}
use Rattle.dd_sets.specs.declared.slots.SetId.{SetId}
use Rattle.encode_task.specs.Slots.{Encoded}
use Rattle.task_core.specs.Tasks.{action_count, fluent_count}
use Rattle.slot_board.specs.Board.{Left, Moved, Start}
use Rattle.slot_board.proofs.BoardSizes.{vars_now}
use Rattle.slot_board.proofs.BoardSlots.{left_with, made_at}
use Rattle.board_steps.specs.Steps.{CanMakeAll, Placed, Shows, after_steps, with_set}
use Rattle.board_steps.specs.declared.steps.Step.{Step}
use Rattle.board_steps.proofs.StepLemmas.{shows_moved}

-- what the calls ask
pub place_within : (start : Start) (enc : Encoded) (slots : List SetId) (placed : Placed) (k : ℕ) → Shows start enc slots placed → k < start.places → k < length slots
place_within start enc slots placed k shows within = let long : length slots ≡ start.places = shows.at.long in omega arith

pub fluent_within : (start : Start) (enc : Encoded) (slots : List SetId) (placed : Placed) (f : ℕ) → Shows start enc slots placed → f < fluent_count start.task → f < enc.sets.vars
fluent_within start enc slots placed f shows low = let e : enc.sets.vars ≡ fluent_count start.task = vars_now start enc slots shows.at in omega arith

pub action_is_within : (start : Start) (enc : Encoded) (slots : List SetId) (placed : Placed) (a : ℕ) → Shows start enc slots placed → a < action_count start.task → a < length enc.actions
action_is_within start enc slots placed a shows low = let e : length enc.actions ≡ action_count start.task = (made_at start enc slots shows.at).actions in omega arith

-- a call that moved one place
pub made_by : (start : Start) (enc now : Encoded) (old new : List SetId) (placed : Placed) (place : ℕ) (set wanted : Function) (result : Result Unit SetErr)
    → Shows start enc old placed → set ≡ wanted → Left start now new (Moved start enc.sets old now new place set) result → Left start now new (Shows start now new (with_set placed place wanted)) result
made_by start enc now old new placed place set wanted result shows is left =
    left_with start now new (Moved start enc.sets old now new place set) (Shows start now new (with_set placed place wanted)) result
    (λ moved. subst (λ (s : Function). Shows start now new (with_set placed place s)) is (shows_moved start enc now old new placed place set shows moved)) left

-- how far a list of steps is made
pub record Halfway (start : Start) (now : Encoded) (slots : List SetId) (placed : Placed) (rest steps : List Step) : Type 0 where
  pub here : Placed
  pub shows : Shows start now slots here
  pub can : CanMakeAll start here rest
  pub leads : after_steps start here rest ≡ after_steps start placed steps

pub drop_more : {X : Type 0} (xs : List X) (i : ℕ) (d : X) → i < length xs → drop i xs ≡ get_or xs i d ∷ drop (i + 1) xs
drop_more xs i d within = let e : suc i ≡ i + 1 = omega arith in drop-cons xs i d within ∙ ap (λ k. get_or xs i d ∷ drop k xs) e

-- the next item of a loop
pub drop_item : {X : Type 0} (xs : List X) (i : ℕ) (x : X) → i < length xs → x ≡ get_or xs i x → drop i xs ≡ x ∷ drop (i + 1) xs
drop_item xs i x within is = drop_more xs i x within ∙ ap (λ y. y ∷ drop (i + 1) xs) (sym is)

-- an item that there is, whatever the default
pub at_any : {X : Type 0} (xs : List X) (i : ℕ) (d e : X) → i < length xs → get_or xs i d ≡ get_or xs i e
at_any [] i d e within = absurd (omega (arith, within))
at_any (x ∷ xs) zero d e within = refl
at_any (x ∷ xs) (suc i) d e within = at_any xs i d e (omega (arith, within))
