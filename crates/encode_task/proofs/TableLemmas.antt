-- The tables of slots, step by step, and what they are for a whole task.
use Rattle.std.proofs.Common.{◌≡◌, ℕ, zero, suc, ◌+◌, ◌<◌, true, false, not, ◌&&◌, inl, inr, ⊎_elim, List, [], ◌∷◌, ◌++◌, map, length, get_or, take, Some, None, is_some, slice_get, unwrap_or, refl, sym, ap, subst, ◌∙◌, arith}
use Rattle.std.proofs.lemmas.Bool.{or_left, or_right}
use Rattle.std.proofs.lemmas.List.{map-append, take_more}
use Rattle.std.specs.List.{list_any}
use Rattle.std.specs.Option.{option_map_or}
use Rattle.task_core.specs.Actions.{after_value}
use Rattle.task_core.specs.Conditions.{AlwaysHolds, holds}
use Rattle.task_core.specs.declared.conditions.Cond.{Cond}
use Rattle.task_core.specs.declared.actions.GroundAction.{GroundAction}
use Rattle.task_core.specs.declared.actions.Outcome.{Outcome}
use Rattle.task_core.specs.declared.literals.FluentId.{FluentId}
use Rattle.dd_sets.specs.Calls.{KeepsSets}
use Rattle.dd_sets.specs.LiveSets.{LiveSets, AllLive, listed_set}
use Rattle.dd_sets.specs.declared.slots.SetId.{SetId}
use Rattle.encode_task.specs.Counts.{leaves, action_leaves, some_leaves}
use Rattle.encode_task.specs.Made.{Holds, HoldsLands}
use Rattle.encode_task.specs.Slots.{ActionSlots, changed_in, lands_in, outcomes_in}
use Rattle.encode_task.specs.Tables.{ActionMade, AllPaired, LandsMade, OutcomeMade}
use Rattle.encode_task.proofs.MadeLemmas.{holds_kept, outcome_kept}
use Rattle.encode_task.specs.TaskSets.{lands_of}

-- related lists: one pair more, a weaker relation, one length
pub paired_more : {X Y : Type 0} (R : X → Y → Type 0) (xs : List X) (ys : List Y) (x : X) (y : Y) → AllPaired R xs ys → R x y → AllPaired R (xs ++ x ∷ []) (ys ++ y ∷ [])
paired_more R [] [] x y all one = (one, tt)
paired_more R (a ∷ xs) (b ∷ ys) x y all one = (all.0, paired_more R xs ys x y all.1 one)
paired_more R (a ∷ xs) [] x y all one = absurd all
paired_more R [] (b ∷ ys) x y all one = absurd all

pub paired_weaker : {X Y : Type 0} (R S : X → Y → Type 0) → ((x : X) (y : Y) → R x y → S x y) → (xs : List X) (ys : List Y) → AllPaired R xs ys → AllPaired S xs ys
paired_weaker R S weaker [] [] all = tt
paired_weaker R S weaker (x ∷ xs) (y ∷ ys) all = (weaker x y all.0, paired_weaker R S weaker xs ys all.1)
paired_weaker R S weaker (x ∷ xs) [] all = absurd all
paired_weaker R S weaker [] (y ∷ ys) all = absurd all

pub paired_length : {X Y : Type 0} (R : X → Y → Type 0) (xs : List X) (ys : List Y) → AllPaired R xs ys → length xs ≡ length ys
paired_length R [] [] all = refl
paired_length R (x ∷ xs) (y ∷ ys) all = ap suc (paired_length R xs ys all.1)
paired_length R (x ∷ xs) [] all = absurd all
paired_length R [] (y ∷ ys) all = absurd all

-- one more of each list
pub made_more : {X Y Z : Type 0} (R S : Z → Y → Type 0) (f : X → Z) (xs after : List X) (x : X) (ys : List Y) (i : ℕ) (y : Y) → ((z : Z) (y : Y) → R z y → S z y) → after ≡ xs ++ x ∷ [] → i < length ys → y ≡ get_or ys i y
    → AllPaired R (map f xs) (take i ys) → S (f x) y → AllPaired S (map f after) (take (i + 1) ys)
made_more R S f xs after x ys i y stays is within at all one =
    let front : map f after ≡ map f xs ++ f x ∷ [] = ap (map f) is ∙ map-append f xs (x ∷ []) in
    let back : take (i + 1) ys ≡ take i ys ++ y ∷ [] = take_more ys i y within ∙ ap (λ z. take i ys ++ z ∷ []) (sym at) in
    subst (λ zs. AllPaired S zs (take (i + 1) ys)) (sym front)
    (subst (AllPaired S (map f xs ++ f x ∷ [])) (sym back) (paired_more S (map f xs) (take i ys) (f x) y (paired_weaker R S stays (map f xs) (take i ys) all) one))

-- what is made stays so while the sets are kept
pub outcome_stays : (before after : LiveSets) → KeepsSets before after → (changed : List (FluentId × SetId)) (outcome : Outcome) → OutcomeMade before changed outcome → OutcomeMade after changed outcome
outcome_stays before after kept changed outcome made = outcome_kept before after kept changed (after_value outcome) made

pub lands_stay : (before after : LiveSets) → KeepsSets before after → (invariant : Cond) (lands : List SetId) (outcomes : List Outcome) → LandsMade before invariant lands outcomes → LandsMade after invariant lands outcomes
lands_stay before after kept invariant lands outcomes made = ⊎_elim
    (λ (none : AlwaysHolds invariant × (lands ≡ [])). inl none)
    (λ (each : AllPaired (λ slot o. Holds before slot (lands_of invariant o)) lands outcomes).
    inr (paired_weaker (λ slot o. Holds before slot (lands_of invariant o)) (λ slot o. Holds after slot (lands_of invariant o)) (λ slot o. holds_kept before after kept slot (lands_of invariant o)) lands outcomes each))
    made

pub action_stays : (invariant : Cond) (before after : LiveSets) → KeepsSets before after → (slots : ActionSlots) (action : GroundAction) → ActionMade invariant before slots action → ActionMade invariant after slots action
action_stays invariant before after kept slots action made = record {
  exec = holds_kept before after kept slots.exec _ made.exec;
  outcomes = paired_weaker (OutcomeMade before) (OutcomeMade after) (outcome_stays before after kept) slots.outcomes action.outcomes.items made.outcomes;
  lands = lands_stay before after kept invariant slots.lands action.outcomes.items made.lands;
}

-- the outcomes of an action in a list
abbrev pub outcomes_of : List GroundAction → ℕ → List Outcome
outcomes_of actions a = option_map_or (λ action. action.outcomes.items) (slice_get actions a) []

-- a fluent that an outcome doesn't list is left alone by it
leaves_at : (f : ℕ) (outcomes : List (List (FluentId × SetId))) (o : ℕ) → o < length outcomes → listed_set (unwrap_or (slice_get outcomes o) []) f ≡ None → list_any (leaves f) outcomes ≡ true
leaves_at f [] o within unlisted = absurd (omega arith)
leaves_at f (x ∷ outcomes) zero within unlisted = or_left (leaves f x) (list_any (leaves f) outcomes) (ap (λ s. not (is_some s)) unlisted)
leaves_at f (x ∷ outcomes) (suc o) within unlisted = or_right (leaves f x) (list_any (leaves f) outcomes) (leaves_at f outcomes o (omega arith) unlisted)

pub left_at : (f : ℕ) (slots : List ActionSlots) (a o : ℕ) → a < length slots → o < length (outcomes_in slots a) → listed_set (changed_in slots a o) f ≡ None → some_leaves slots f ≡ true
left_at f [] a o action outcome unlisted = absurd (omega arith)
left_at f (x ∷ slots) zero o action outcome unlisted = or_left (action_leaves f x) (some_leaves slots f) (leaves_at f x.outcomes o outcome unlisted)
left_at f (x ∷ slots) (suc a) o action outcome unlisted = or_right (action_leaves f x) (some_leaves slots f) (left_at f slots a o (omega arith) outcome unlisted)

-- the outcome with a number
pub found_at : (outcomes : List Outcome) (o : ℕ) → o < length outcomes → (outcome : Outcome) × (slice_get outcomes o ≡ Some outcome)
found_at [] o within = absurd (omega arith)
found_at (y ∷ outcomes) zero within = (y, refl)
found_at (y ∷ outcomes) (suc o) within = found_at outcomes o (omega arith)

module _ (invariant : Cond) (sets : LiveSets) where
  none_live : AllLive sets []
  none_live k d within = absurd (omega arith)

  outcome_live : (slots : List (List (FluentId × SetId))) (outcomes : List Outcome) → AllPaired (OutcomeMade sets) slots outcomes → (o : ℕ) → AllLive sets (unwrap_or (slice_get slots o) [])
  outcome_live [] [] all o = none_live
  outcome_live (x ∷ slots) (y ∷ outcomes) all zero = all.0.live
  outcome_live (x ∷ slots) (y ∷ outcomes) all (suc o) = outcome_live slots outcomes all.1 o
  outcome_live (x ∷ slots) [] all o = absurd all
  outcome_live [] (y ∷ outcomes) all o = absurd all

  pub changed_live : (slots : List ActionSlots) (actions : List GroundAction) → AllPaired (ActionMade invariant sets) slots actions → (a o : ℕ) → AllLive sets (changed_in slots a o)
  changed_live [] [] all a o = none_live
  changed_live (x ∷ slots) (y ∷ actions) all zero o = outcome_live x.outcomes y.outcomes.items all.0.outcomes o
  changed_live (x ∷ slots) (y ∷ actions) all (suc a) o = changed_live slots actions all.1 a o
  changed_live (x ∷ slots) [] all a o = absurd all
  changed_live [] (y ∷ actions) all a o = absurd all

  pub outcome_counts : (slots : List ActionSlots) (actions : List GroundAction) → AllPaired (ActionMade invariant sets) slots actions → (a : ℕ) → length (outcomes_in slots a) ≡ length (outcomes_of actions a)
  outcome_counts [] [] all a = refl
  outcome_counts (x ∷ slots) (y ∷ actions) all zero = paired_length (OutcomeMade sets) x.outcomes y.outcomes.items all.0.outcomes
  outcome_counts (x ∷ slots) (y ∷ actions) all (suc a) = outcome_counts slots actions all.1 a
  outcome_counts (x ∷ slots) [] all a = absurd all
  outcome_counts [] (y ∷ actions) all a = absurd all

  pub exec_at : (slots : List ActionSlots) (actions : List GroundAction) → AllPaired (ActionMade invariant sets) slots actions → (a : ℕ) → a < length actions
      → Holds sets (option_map_or (λ (action : ActionSlots). action.exec) (slice_get slots a) (record { 0 = 0 })) (λ values. holds invariant values && option_map_or (λ (action : GroundAction). holds action.exec values) (slice_get actions a) false
      && list_any (λ o. lands_of invariant o values) (outcomes_of actions a))
  exec_at [] [] all a within = absurd (omega arith)
  exec_at (x ∷ slots) (y ∷ actions) all zero within = all.0.exec
  exec_at (x ∷ slots) (y ∷ actions) all (suc a) within = exec_at slots actions all.1 a (omega arith)
  exec_at (x ∷ slots) [] all a within = absurd all
  exec_at [] (y ∷ actions) all a within = absurd all

  one_outcome : (slots : List (List (FluentId × SetId))) (outcomes : List Outcome) → AllPaired (OutcomeMade sets) slots outcomes → (o : ℕ) → o < length outcomes
      → (outcome : Outcome) × (slice_get outcomes o ≡ Some outcome) × OutcomeMade sets (unwrap_or (slice_get slots o) []) outcome
  one_outcome [] [] all o within = absurd (omega arith)
  one_outcome (x ∷ slots) (y ∷ outcomes) all zero within = (y, refl, all.0)
  one_outcome (x ∷ slots) (y ∷ outcomes) all (suc o) within = one_outcome slots outcomes all.1 o (omega arith)
  one_outcome (x ∷ slots) [] all o within = absurd all
  one_outcome [] (y ∷ outcomes) all o within = absurd all

  pub outcome_at : (slots : List ActionSlots) (actions : List GroundAction) → AllPaired (ActionMade invariant sets) slots actions → (a o : ℕ) → o < length (outcomes_of actions a)
      → (outcome : Outcome) × (slice_get (outcomes_of actions a) o ≡ Some outcome) × OutcomeMade sets (changed_in slots a o) outcome
  outcome_at [] [] all a o within = absurd (omega arith)
  outcome_at (x ∷ slots) (y ∷ actions) all zero o within = one_outcome x.outcomes y.outcomes.items all.0.outcomes o within
  outcome_at (x ∷ slots) (y ∷ actions) all (suc a) o within = outcome_at slots actions all.1 a o within
  outcome_at (x ∷ slots) [] all a o within = absurd all
  outcome_at [] (y ∷ actions) all a o within = absurd all

  one_lands : (lands : List SetId) (outcomes : List Outcome) → AllPaired (λ slot o. Holds sets slot (lands_of invariant o)) lands outcomes → (o : ℕ) → o < length outcomes
      → (outcome : Outcome) × (slice_get outcomes o ≡ Some outcome) × HoldsLands sets (slice_get lands o) (lands_of invariant outcome)
  one_lands [] [] all o within = absurd (omega arith)
  one_lands (x ∷ lands) (y ∷ outcomes) all zero within = (y, refl, all.0)
  one_lands (x ∷ lands) (y ∷ outcomes) all (suc o) within = one_lands lands outcomes all.1 o (omega arith)
  one_lands (x ∷ lands) [] all o within = absurd all
  one_lands [] (y ∷ outcomes) all o within = absurd all

  action_lands : (lands : List SetId) (outcomes : List Outcome) → LandsMade sets invariant lands outcomes → (o : ℕ) → o < length outcomes
      → (outcome : Outcome) × (slice_get outcomes o ≡ Some outcome) × HoldsLands sets (slice_get lands o) (lands_of invariant outcome)
  action_lands lands outcomes made o within = ⊎_elim
      (λ (none : AlwaysHolds invariant × (lands ≡ [])).
      let found = found_at outcomes o within in (
        found.0,
        found.1,
        subst (λ l. HoldsLands sets (slice_get l o) (lands_of invariant found.0)) (sym none.1) (λ i values. none.0 (after_value found.0 values) i),
      ))
      (λ (each : AllPaired (λ slot o. Holds sets slot (lands_of invariant o)) lands outcomes). one_lands lands outcomes each o within)
      made

  pub lands_at : (slots : List ActionSlots) (actions : List GroundAction) → AllPaired (ActionMade invariant sets) slots actions → (a o : ℕ) → o < length (outcomes_of actions a)
      → (outcome : Outcome) × (slice_get (outcomes_of actions a) o ≡ Some outcome) × HoldsLands sets (lands_in slots a o) (lands_of invariant outcome)
  lands_at [] [] all a o within = absurd (omega arith)
  lands_at (x ∷ slots) (y ∷ actions) all zero o within = action_lands x.lands y.outcomes.items all.0.lands o within
  lands_at (x ∷ slots) (y ∷ actions) all (suc a) o within = lands_at slots actions all.1 a o within
  lands_at (x ∷ slots) [] all a o within = absurd all
  lands_at [] (y ∷ actions) all a o within = absurd all
