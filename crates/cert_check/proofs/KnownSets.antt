-- The sets at the places of a board, where those at some are known.
use Rattle.std.proofs.Common.{◌≡◌, ◌≢◌, ℕ, List, refl, sym, ap, ◌∙◌, ⊎_elim, arith}
use Rattle.std.proofs.lemmas.Bool.{cases_eq}
use Rattle.dd_nodes.specs.Subfunctions.{Function}
use Rattle.dd_sets.specs.declared.slots.SetId.{SetId}
use Rattle.encode_task.specs.Slots.{Encoded}
use Rattle.slot_board.specs.Board.{Start, set_at}
use Rattle.board_steps.specs.Steps.{Placed, Shows, with_set}
use Rattle.board_steps.proofs.StepLemmas.{with_here, with_other}
use Rattle.cert_check.specs.Sizes.{HasLeft, HasSet, HasUnion}

unfoldable pub of_union : Encoded → List SetId → Function → Placed
of_union now slots f = with_set (set_at now.sets slots) 0 f

unfoldable pub of_set : Encoded → List SetId → Function → Function → Placed
of_set now slots f g = with_set (of_union now slots f) 1 g

unfoldable pub of_left : Encoded → List SetId → Function → Function → Function → Placed
of_left now slots f g b = with_set (of_set now slots f g) 4 b

shows_known : (start : Start) (now : Encoded) (slots : List SetId) (placed : Placed) (place : ℕ) (set : Function) → Shows start now slots placed → set_at now.sets slots place ≡ set → Shows start now slots (with_set placed place set)
shows_known start now slots placed place set shows is = record {
  at = shows.at;
  sound = shows.sound;
  sets = λ k l. ⊎_elim
      (λ (same : k ≡ place). ap (set_at now.sets slots) same ∙ is ∙ sym (with_here placed place set k same))
      (λ (differs : k ≢ place). shows.sets k l ∙ sym (with_other placed place set k differs))
      (cases_eq k place);
}

pub shows_union : (start : Start) (now : Encoded) (slots : List SetId) (f : Function) → HasUnion start now slots f → Shows start now slots (of_union now slots f)
unfolding of_union
shows_union start now slots f has = shows_known start now slots (set_at now.sets slots) 0 f (record { at = has.at; sound = has.sound; sets = λ k l. refl }) has.union

pub shows_set : (start : Start) (now : Encoded) (slots : List SetId) (f g : Function) → HasSet start now slots f g → Shows start now slots (of_set now slots f g)
unfolding of_set
shows_set start now slots f g has = shows_known start now slots (of_union now slots f) 1 g (shows_union start now slots f has.by_union) has.set

pub shows_left : (start : Start) (now : Encoded) (slots : List SetId) (f g b : Function) → HasLeft start now slots f g b → Shows start now slots (of_left now slots f g b)
unfolding of_left
shows_left start now slots f g b has = shows_known start now slots (of_set now slots f g) 4 b (shows_set start now slots f g has.by_set) has.left

-- and back
pub union_shown : (start : Start) (now : Encoded) (slots : List SetId) (placed : Placed) (f : Function) → start.places ≡ 5 → Shows start now slots placed → placed 0 ≡ f → HasUnion start now slots f
union_shown start now slots placed f five shows is = record { at = shows.at; sound = shows.sound; union = shows.sets 0 (omega arith) ∙ is }

pub set_shown : (start : Start) (now : Encoded) (slots : List SetId) (placed : Placed) (f g : Function) → start.places ≡ 5 → Shows start now slots placed → placed 0 ≡ f → placed 1 ≡ g → HasSet start now slots f g
set_shown start now slots placed f g five shows is_f is_g = record { by_union = union_shown start now slots placed f five shows is_f; set = shows.sets 1 (omega arith) ∙ is_g }

pub left_shown : (start : Start) (now : Encoded) (slots : List SetId) (placed : Placed) (f g b : Function) → start.places ≡ 5 → Shows start now slots placed → placed 0 ≡ f → placed 1 ≡ g → placed 4 ≡ b → HasLeft start now slots f g b
left_shown start now slots placed f g b five shows is_f is_g is_b = record { by_set = set_shown start now slots placed f g five shows is_f is_g; left = shows.sets 4 (omega arith) ∙ is_b }
