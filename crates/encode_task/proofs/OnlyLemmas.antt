-- Which slots are live: a caller's, and those that were live before.
use Rattle.std.proofs.Common.{◌≡◌, ℕ, ◌==◌, Bool, true, false, ◌||◌, List, [], ◌∷◌, ◌++◌, Option, Some, None, sym, ap, subst, ◌∙◌, ⊎_elim, ◌⊎◌}
use Rattle.std.specs.List.{list_any}
use Rattle.std.proofs.lemmas.Bool.{or_cases, or_left, or_right}
use Rattle.std.proofs.lemmas.List.Folds.{list_any-append}
use Rattle.list_laws.proofs.Booleans.{or_false}
use Rattle.dd_nodes.specs.Subfunctions.{Function}
use Rattle.dd_sets.specs.Frames.{Owns}
use Rattle.dd_sets.specs.LiveSets.{LiveSets, is_live}
use Rattle.dd_sets.specs.declared.slots.SetId.{SetId}
use Rattle.dd_ops.specs.Operations.{variable}
use Rattle.encode_task.specs.Slots.{ActionSlots, is_listed, is_of_action, is_one_of, is_slot}
use Rattle.encode_task.specs.Tables.{AddsOnly, IsSharedSlot}

-- no slot more
pub only_same : (sets : LiveSets) (own : ℕ → Bool) → AddsOnly sets sets own
only_same sets own slot live = or_right (own slot) (is_live sets slot) live

-- first some, then some more, all of which are the caller's
pub only_chain : (a b c : LiveSets) (first second own : ℕ → Bool) → AddsOnly a b first → AddsOnly b c second → ((slot : ℕ) → first slot ≡ true → own slot ≡ true) → ((slot : ℕ) → second slot ≡ true → own slot ≡ true)
    → AddsOnly a c own
only_chain a b c first second own before after firsts seconds slot live = ⊎_elim
    (λ (is : second slot ≡ true). or_left (own slot) (is_live a slot) (seconds slot is))
    (λ (was : is_live b slot ≡ true). ⊎_elim
    (λ (is : first slot ≡ true). or_left (own slot) (is_live a slot) (firsts slot is))
    (λ (old : is_live a slot ≡ true). or_right (own slot) (is_live a slot) old)
    (or_cases (first slot) (is_live a slot) (before slot was)))
    (or_cases (second slot) (is_live b slot) (after slot live))

-- the slot that a call answered
pub only_owned : (before after : LiveSets) (slot : ℕ) (set : Function) → Owns before after ((slot, set) ∷ []) → AddsOnly before after (λ other. slot == other)
only_owned before after slot set owns other live = ap (λ b. b || is_live before other) (sym (or_false (slot == other))) ∙ sym (owns.live other) ∙ live

-- of a list the elements so far, and one more
pub any_front : {X : Type 0} (p : X → Bool) (xs ys : List X) → list_any p xs ≡ true → list_any p (xs ++ ys) ≡ true
any_front p xs ys is = list_any-append p xs ys ∙ or_left (list_any p xs) (list_any p ys) is

pub any_last : {X : Type 0} (p : X → Bool) (xs : List X) (x : X) → p x ≡ true → list_any p (xs ++ x ∷ []) ≡ true
any_last p xs x is = list_any-append p xs (x ∷ []) ∙ or_right (list_any p xs) (p x || false) (or_left (p x) false is)

-- a list of slots with one element more
pub only_more : {X : Type 0} (a b c : LiveSets) (has : ℕ → X → Bool) (xs after : List X) (x : X) → after ≡ xs ++ x ∷ [] → AddsOnly a b (λ slot. list_any (has slot) xs) → AddsOnly b c (λ slot. has slot x)
    → AddsOnly a c (λ slot. list_any (has slot) after)
only_more a b c has xs after x is first second =
    subst (λ ys. AddsOnly a c (λ slot. list_any (has slot) ys)) (sym is)
    (only_chain a b c (λ slot. list_any (has slot) xs) (λ slot. has slot x) (λ slot. list_any (has slot) (xs ++ x ∷ [])) first second
    (λ slot was. any_front (has slot) xs (x ∷ []) was) (λ slot is. any_last (has slot) xs x is))

-- the slot of a shared fluent is the only new one
pub only_shared : (before after : LiveSets) (left : Bool) (f : ℕ) (slot : Option SetId) → IsSharedSlot before after left f slot → AddsOnly before after (λ other. is_slot other slot)
only_shared before after left f (Some slot) is = only_owned before after slot.0 (variable f) is.1
only_shared before after left f None is = subst (λ (s : LiveSets). AddsOnly before s (λ other. false)) (sym is.1) (only_same before (λ other. false))

-- the fluents that an action's outcomes change, then what they lead to states, then where it can be
-- executed
pub only_action : (s0 s1 s2 s3 : LiveSets) (action : ActionSlots) → AddsOnly s0 s1 (λ slot. list_any (is_listed slot) action.outcomes) → AddsOnly s1 s2 (λ slot. is_one_of slot action.lands)
    → AddsOnly s2 s3 (λ slot. action.exec.0 == slot) → AddsOnly s0 s3 (λ slot. is_of_action slot action)
only_action s0 s1 s2 s3 action one two three =
    only_chain s0 s2 s3 (λ slot. is_of_action slot action) (λ slot. action.exec.0 == slot) (λ slot. is_of_action slot action)
    (only_chain s0 s1 s2 (λ slot. list_any (is_listed slot) action.outcomes) (λ slot. is_one_of slot action.lands) (λ slot. is_of_action slot action) one two
    (λ slot is. or_left _ (is_one_of slot action.lands) (or_right (action.exec.0 == slot) (list_any (is_listed slot) action.outcomes) is))
    (λ slot is. or_right (action.exec.0 == slot || list_any (is_listed slot) action.outcomes) (is_one_of slot action.lands) is))
    three
    (λ slot is. is)
    (λ slot is. or_left _ (is_one_of slot action.lands) (or_left (action.exec.0 == slot) (list_any (is_listed slot) action.outcomes) is))

-- the states, then the initial states, then the goal, then the actions, then the fluents that outcomes
-- share
abbrev all_slots : SetId → SetId → Option SetId → List (Option SetId) → List ActionSlots → ℕ → Bool
all_slots space initial goal shared actions slot = space.0 == slot || initial.0 == slot || is_slot slot goal || list_any (is_slot slot) shared || list_any (is_of_action slot) actions

pub only_whole : (s0 s1 s2 s3 s4 s5 : LiveSets) (space initial : SetId) (goal : Option SetId) (shared : List (Option SetId)) (actions : List ActionSlots) → AddsOnly s0 s1 (λ slot. space.0 == slot)
    → AddsOnly s1 s2 (λ slot. initial.0 == slot) → AddsOnly s2 s3 (λ slot. is_slot slot goal) → AddsOnly s3 s4 (λ slot. list_any (is_of_action slot) actions) → AddsOnly s4 s5 (λ slot. list_any (is_slot slot) shared)
    → AddsOnly s0 s5 (all_slots space initial goal shared actions)
only_whole s0 s1 s2 s3 s4 s5 space initial goal shared actions one two three four five =
    only_chain s0 s4 s5 all (λ slot. list_any (is_slot slot) shared) all
    (only_chain s0 s3 s4 all (λ slot. list_any (is_of_action slot) actions) all
    (only_chain s0 s2 s3 all (λ slot. is_slot slot goal) all
    (only_chain s0 s1 s2 (λ slot. space.0 == slot) (λ slot. initial.0 == slot) all one two
    (λ slot is. or_left _ (list_any (is_of_action slot) actions) (or_left _ (list_any (is_slot slot) shared) (or_left _ (is_slot slot goal) (or_left (space.0 == slot) (initial.0 == slot) is))))
    (λ slot is. or_left _ (list_any (is_of_action slot) actions) (or_left _ (list_any (is_slot slot) shared) (or_left _ (is_slot slot goal) (or_right (space.0 == slot) (initial.0 == slot) is)))))
    three
    (λ slot is. is)
    (λ slot is. or_left _ (list_any (is_of_action slot) actions) (or_left _ (list_any (is_slot slot) shared) (or_right (space.0 == slot || initial.0 == slot) (is_slot slot goal) is))))
    four
    (λ slot is. is)
    (λ slot is. or_right (((space.0 == slot || initial.0 == slot) || is_slot slot goal) || list_any (is_slot slot) shared) (list_any (is_of_action slot) actions) is))
    five
    (λ slot is. is)
    (λ slot is. or_left _ (list_any (is_of_action slot) actions) (or_right ((space.0 == slot || initial.0 == slot) || is_slot slot goal) (list_any (is_slot slot) shared) is))
  where
    all : ℕ → Bool
    all = all_slots space initial goal shared actions
