-- What the programs leave on the board, by what it had.
use Rattle.std.proofs.Common.{◌≡◌, ◌↔◌, IsTrue, ℕ, ◌<◌, Bool, false, not, List, [], ◌∷◌, length, Result, refl, sym, ap, subst, ◌∙◌, arith}
use Rattle.std.proofs.lemmas.List.Elements.{All-head}
use Rattle.dd_nodes.specs.Subfunctions.{DependsOnly, Function}
use Rattle.dd_ops.specs.Operations.{and_of}
use Rattle.dd_sets.specs.LiveSets.{IsLive, nothing, set_of}
use Rattle.dd_sets.specs.declared.errors.SetErr.{SetErr}
use Rattle.dd_sets.specs.declared.slots.SetId.{SetId}
use Rattle.encode_task.specs.Slots.{Encoded, exec_slot}
use Rattle.encode_task.specs.TaskSets.{cube_set, exec_set, space_set}
use Rattle.task_core.specs.Cubes.{Cube}
use Rattle.task_core.specs.Tasks.{action_count, fluent_count}
use Rattle.task_core.specs.declared.classes.Class.{Class}
use Rattle.task_core.specs.declared.literals.ActionId.{ActionId}
use Rattle.plan_rules.specs.Plans.{IsCubeOf}
use Rattle.plan_certs.specs.Certificates.{CubeSet}
use Rattle.slot_board.specs.Board.{At, Left, Moved, Start, set_at}
use Rattle.slot_board.proofs.BoardSlots.{action_within, depends, left_with}
use Rattle.cert_check.specs.Programs.{common_steps, fix_steps, set_steps, way_out_steps}
use Rattle.cert_check.specs.Sets.{contradicts, meets, states_in, way_out_set}
use Rattle.cert_check.specs.Sizes.{CommonFits, CubesFit, HasLeft, HasSet, HasUnion, LeaveFits, SetFits}
use Rattle.board_steps.specs.Steps.{CanMakeAll, Placed, Shows, after_steps, with_set}
use Rattle.board_steps.specs.declared.steps.Step.{Step}
use Rattle.cert_check.proofs.LeftLemmas.{common_can, common_is, common_kept, fix_can, fix_kept, literals_fixed, way_can, way_is, way_kept}
use Rattle.cert_check.proofs.LookLemmas.{common_found, cube_found, fixed}
use Rattle.cert_check.proofs.ProgramLemmas.{set_can, set_joined, set_kept}
use Rattle.cert_check.proofs.KnownSets.{left_shown, of_left, of_set, of_union, set_shown, union_shown}

pub run_can : (start : Start) (placed : Placed) (steps wanted : List Step) → steps ≡ wanted → CanMakeAll start placed wanted → CanMakeAll start placed steps
run_can start placed steps wanted is can = subst (CanMakeAll start placed) (sym is) can

pub run_left : {T : Type 0} (start : Start) (now : Encoded) (slots : List SetId) (placed : Placed) (steps wanted : List Step) (Q : Type 0) (result : Result T SetErr)
    → steps ≡ wanted → (Shows start now slots (after_steps start placed wanted) → Q) → Left start now slots (Shows start now slots (after_steps start placed steps)) result → Left start now slots Q result
run_left start now slots placed steps wanted Q result is f left =
    left_with start now slots (Shows start now slots (after_steps start placed steps)) Q result (λ shows. f (subst (λ (s : List Step). Shows start now slots (after_steps start placed s)) is shows)) left

-- the slots that are kept
pub space_live : (start : Start) (enc : Encoded) (slots : List SetId) → At start enc slots → IsLive start.enc.sets enc.space.0
space_live start enc slots at = subst (λ (s : SetId). IsLive start.enc.sets s.0) (sym (ap (λ (e : Encoded). e.space) at.same)) start.made.space.live

pub space_holds : (start : Start) (enc : Encoded) (slots : List SetId) → At start enc slots → set_of start.enc.sets enc.space.0 ≡ space_set start.task
space_holds start enc slots at = ap (λ (e : Encoded). set_of start.enc.sets e.space.0) at.same ∙ start.made.space.holds

pub exec_live : (start : Start) (enc : Encoded) (slots : List SetId) (a : ℕ) → At start enc slots → a < action_count start.task → IsLive start.enc.sets (exec_slot enc a).0
exec_live start enc slots a at low = subst (λ (s : SetId). IsLive start.enc.sets s.0) (sym (ap (λ (e : Encoded). exec_slot e a) at.same)) (start.made.exec a low).live

pub exec_holds : (start : Start) (enc : Encoded) (slots : List SetId) (a : ℕ) → At start enc slots → a < action_count start.task → set_of start.enc.sets (exec_slot enc a).0 ≡ exec_set start.task a
exec_holds start enc slots a at low = ap (λ (e : Encoded). set_of start.enc.sets (exec_slot e a).0) at.same ∙ (start.made.exec a low).holds

-- a set
module _ (start : Start) (enc : Encoded) (slots : List SetId) (f : Function) (set : CubeSet) (union : HasUnion start enc slots f) (fits : SetFits start set) where
  pub set_program : CanMakeAll start (of_union enc slots f) (set_steps enc.space set)
  set_program = set_can start set fits enc.space (space_live start enc slots union.at) (space_holds start enc slots union.at) (of_union enc slots f)

  pub set_done : (now : Encoded) (new : List SetId) → Shows start now new (after_steps start (of_union enc slots f) (set_steps enc.space set)) → HasSet start now new f (states_in start.task set)
  unfolding of_union
  set_done now new shows =
      set_shown start now new (after_steps start (of_union enc slots f) (set_steps enc.space set)) f (states_in start.task set) fits.board.five shows
      (set_kept start set fits enc.space (space_live start enc slots union.at) (space_holds start enc slots union.at) (of_union enc slots f))
      (set_joined start set fits enc.space (space_live start enc slots union.at) (space_holds start enc slots union.at) (of_union enc slots f))

-- what is in common
module _ (start : Start) (enc : Encoded) (slots : List SetId) (f h : Function) (kept : SetId) (union : HasUnion start enc slots f) (fits : CommonFits start f h kept) where
  pub common_program : CanMakeAll start (of_union enc slots f) (common_steps kept)
  unfolding of_union
  common_program = common_can start f h kept fits (of_union enc slots f) refl

  pub common_done : (now : Encoded) (new : List SetId) → Shows start now new (after_steps start (of_union enc slots f) (common_steps kept)) → HasUnion start now new f × (set_at now.sets new 4 ≡ and_of f h)
  unfolding of_union
  common_done now new shows =
      let five : start.places ≡ 5 = fits.board.five in (
        union_shown start now new (after_steps start (of_union enc slots f) (common_steps kept)) f five shows (common_kept start f h kept fits (of_union enc slots f)),
        shows.sets 4 (omega arith) ∙ common_is start f h kept fits (of_union enc slots f) refl,
      )

-- what is left once a cube is fixed
module _ (start : Start) (enc : Encoded) (slots : List SetId) (f g b : Function) (cube : Cube) (left : HasLeft start enc slots f g b) (fits : CubesFit start b (cube ∷ [])) where
  pub cube_in_task : IsCubeOf (fluent_count start.task) cube
  cube_in_task = All-head (IsCubeOf (fluent_count start.task)) cube [] fits.in_task

  pub fix_program : CanMakeAll start (of_left enc slots f g b) (fix_steps cube)
  unfolding of_left
  fix_program = fix_can start fits.board (of_left enc slots f g b) cube cube_in_task fits.rough

  pub fix_done : (now : Encoded) (new : List SetId) → Shows start now new (after_steps start (of_left enc slots f g b) (fix_steps cube)) → HasLeft start now new f g b × (set_at now.sets new 2 ≡ fixed cube b)
  unfolding of_left of_set of_union
  fix_done now new shows =
      let five : start.places ≡ 5 = fits.board.five in
      let placed : Placed = with_set (of_left enc slots f g b) 2 b in (
        left_shown start now new (after_steps start (of_left enc slots f g b) (fix_steps cube)) f g b five shows
            (fix_kept start fits.board placed cube 0 (λ e. absurd (omega (arith, e)))) (fix_kept start fits.board placed cube 1 (λ e. absurd (omega (arith, e)))) (fix_kept start fits.board placed cube 4 (λ e. absurd (omega (arith, e)))),
        shows.sets 2 (omega arith) ∙ literals_fixed start fits.board placed cube,
      )

  -- whether something is left
  pub fix_found : (now : Encoded) (new : List SetId) (found : Bool) → HasLeft start now new f g b × (set_at now.sets new 2 ≡ fixed cube b)
      → (IsTrue found ↔ (((set_at now.sets new 2 ≡ nothing) → ⊥) × (contradicts cube ≡ false))) → found ≡ meets (fluent_count start.task) (cube_set cube) b
  fix_found now new found done is =
      let at = done.0.by_set.by_union.at in
      let sound = done.0.by_set.by_union.sound in
      cube_found (fluent_count start.task) cube b cube_in_task
      (subst (DependsOnly 0 (fluent_count start.task)) done.0.left (depends start now new at sound 4))
      (subst (DependsOnly 0 (fluent_count start.task)) done.1 (depends start now new at sound 2))
      (set_at now.sets new 2) done.1 found is

-- whether something is in common
pub common_answer : (start : Start) (now : Encoded) (slots : List SetId) (f h : Function) (empty : Bool) → HasUnion start now slots f → set_at now.sets slots 4 ≡ and_of f h → (IsTrue empty ↔ (set_at now.sets slots 4 ≡ nothing)) → not empty ≡ meets (fluent_count start.task) f h
common_answer start now slots f h empty union is found = common_found (fluent_count start.task) (set_at now.sets slots 4) f h (depends start now slots union.at union.sound 4) is empty found

-- where an action is a way out
module _ (start : Start) (enc : Encoded) (slots : List SetId) (class : Class) (f : Function) (set : CubeSet) (a : ActionId) (has : HasSet start enc slots f (states_in start.task set)) (fits : LeaveFits start class f set) (low : a.0 < length enc.actions) where
  below : a.0 < action_count start.task
  below = action_within start enc slots a.0 has.by_union.at low

  pub way_program : CanMakeAll start (of_set enc slots f (states_in start.task set)) (way_out_steps class (exec_slot enc a.0) a)
  unfolding of_set of_union
  way_program =
      way_can start f set (exec_slot enc a.0) a below (exec_live start enc slots a.0 has.by_union.at below) (exec_holds start enc slots a.0 has.by_union.at below) class (of_set enc slots f (states_in start.task set)) fits refl refl

  pub way_done : (now : Encoded) (new : List SetId) → Shows start now new (after_steps start (of_set enc slots f (states_in start.task set)) (way_out_steps class (exec_slot enc a.0) a))
      → HasLeft start now new f (states_in start.task set) (way_out_set class start.task f (states_in start.task set) a.0)
  unfolding of_set of_union
  way_done now new shows =
      let live = exec_live start enc slots a.0 has.by_union.at below in
      let holds = exec_holds start enc slots a.0 has.by_union.at below in
      let kept = way_kept start f set (exec_slot enc a.0) a below live holds class (of_set enc slots f (states_in start.task set)) in
      left_shown start now new (after_steps start (of_set enc slots f (states_in start.task set)) (way_out_steps class (exec_slot enc a.0) a)) f (states_in start.task set) (way_out_set class start.task f (states_in start.task set) a.0)
      fits.by_set.board.five shows kept.0 kept.1
      (way_is start f set (exec_slot enc a.0) a below live holds class (of_set enc slots f (states_in start.task set)) refl refl)

-- the union after a call at its place
pub union_moved : (start : Start) (enc now : Encoded) (old new : List SetId) (set wanted : Function) → Moved start enc.sets old now new 0 set → set ≡ wanted → HasUnion start now new wanted
union_moved start enc now old new set wanted moved is = record { at = moved.at; sound = moved.sound; union = moved.here ∙ is }
