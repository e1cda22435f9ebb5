-- Worked examples of the definitions that compute.
use Rattle.std.proofs.Common.{◌≡◌, ◌==◌, true, false, [], ◌∷◌, Some, None, refl}
use Rattle.encode_task.specs.Images.{assigned, entry_image, image}
use Rattle.encode_task.specs.Slots.{Encoded, lands_slot, next_slot}
use Rattle.encode_task.specs.TaskSets.{first_values, set_of_states}

state_of_values : first_values 2 (λ f. f == 1) ≡ false ∷ true ∷ []
state_of_values = refl

in_the_set : set_of_states 2 ((false ∷ true ∷ []) ∷ (true ∷ true ∷ []) ∷ []) (λ f. f == 1) ≡ true
in_the_set = refl

not_in_the_set : set_of_states 2 ((true ∷ true ∷ []) ∷ []) (λ f. f == 1) ≡ false
not_in_the_set = refl

-- fluent 0 made true, in the set of the state in which fluent 1 alone is true
assigned_member : assigned 0 true (set_of_states 2 ((false ∷ true ∷ []) ∷ [])) (λ f. true) ≡ true
assigned_member = refl

not_assigned : assigned 0 true (set_of_states 2 ((false ∷ true ∷ []) ∷ [])) (λ f. f == 1) ≡ false
not_assigned = refl

-- an alternative that both deletes and adds fluent 0 adds it
adding_wins : image (record { fluent = record { 0 = 0 }; positive = true } ∷ record { fluent = record { 0 = 0 }; positive = false } ∷ []) (λ values. true) (λ f. true) ≡ true
adding_wins = refl

-- an entry of two alternatives has both images
either_way : entry_image (set_of_states 1 ((true ∷ []) ∷ [])) ((record { fluent = record { 0 = 0 }; positive = false } ∷ []) ∷ [] ∷ []) (λ f. true) ≡ true
either_way = refl

-- one action with one outcome, which changes fluent 0 and leaves fluent 1 alone
small : Encoded
small = record {
  sets = record { vars = 2; limit = 9; order = []; nodes = []; live = [] };
  fluents = 2;
  space = record { 0 = 4 };
  initial = record { 0 = 5 };
  goal = None;
  shared = None ∷ Some (record { 0 = 7 }) ∷ [];
  actions = record { exec = record { 0 = 6 }; outcomes = ((record { 0 = 0 }, record { 0 = 8 }) ∷ []) ∷ []; lands = record { 0 = 3 } ∷ [] } ∷ [];
}

changed_fluent : next_slot small 0 0 0 ≡ Some (record { 0 = 8 })
unfolding small
changed_fluent = refl

outcome_lands : lands_slot small 0 0 ≡ Some (record { 0 = 3 })
unfolding small
outcome_lands = refl

fluent_left_alone : next_slot small 0 0 1 ≡ Some (record { 0 = 7 })
unfolding small
fluent_left_alone = refl
