-- What a step leaves on a board, and which steps can be made.
use Rattle.std.proofs.Common.{◌≡◌, ◌≢◌, ℕ, ◌==◌, List, [], ◌∷◌, ◌++◌, length, refl, sym, ap, ◌∙◌, ⊎_elim, arith}
use Rattle.std.proofs.lemmas.Bool.{cases_eq, cond-false, cond-true, eq-eqb, ne_eqb}
use Rattle.dd_nodes.specs.Subfunctions.{Function}
use Rattle.dd_sets.specs.declared.slots.SetId.{SetId}
use Rattle.encode_task.specs.Slots.{Encoded}
use Rattle.slot_board.specs.Board.{Moved, Start, set_at}
use Rattle.board_steps.specs.Steps.{CanMakeAll, Placed, Shows, after_step, after_steps, with_set}
use Rattle.board_steps.specs.declared.steps.Step.{Step}

pub with_here : (placed : Placed) (place : ℕ) (set : Function) (k : ℕ) → k ≡ place → with_set placed place set k ≡ set
with_here placed place set k same = cond-true (k == place) set (placed k) (eq-eqb k place same)

pub with_other : (placed : Placed) (place : ℕ) (set : Function) (k : ℕ) → k ≢ place → with_set placed place set k ≡ placed k
with_other placed place set k differs = cond-false (k == place) set (placed k) (ne_eqb k place differs)

-- one place has another set
pub shows_moved : (start : Start) (enc now : Encoded) (old new : List SetId) (placed : Placed) (place : ℕ) (set : Function) → Shows start enc old placed → Moved start enc.sets old now new place set → Shows start now new (with_set placed place set)
shows_moved start enc now old new placed place set shows moved = record {
  at = moved.at;
  sound = moved.sound;
  sets = λ k l. ⊎_elim
      (λ (same : k ≡ place). ap (set_at now.sets new) same ∙ moved.here ∙ sym (with_here placed place set k same))
      (λ (differs : k ≢ place).
      let long : length new ≡ start.places = moved.at.long in
      moved.others k (omega arith) differs ∙ shows.sets k l ∙ sym (with_other placed place set k differs))
      (cases_eq k place);
}

-- steps after steps
pub after_append : (start : Start) (placed : Placed) (xs ys : List Step) → after_steps start placed (xs ++ ys) ≡ after_steps start (after_steps start placed xs) ys
after_append start placed [] ys = refl
after_append start placed (x ∷ xs) ys = after_append start (after_step start placed x) xs ys

pub can_append : (start : Start) (placed : Placed) (xs ys : List Step) → CanMakeAll start placed xs → CanMakeAll start (after_steps start placed xs) ys → CanMakeAll start placed (xs ++ ys)
can_append start placed [] ys first second = second
can_append start placed (x ∷ xs) ys first second = (first.0, can_append start (after_step start placed x) xs ys first.1 second)
