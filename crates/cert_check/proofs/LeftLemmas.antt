-- The steps that make what may be left can be made, and make it.
use Rattle.std.proofs.Common.{◌≡◌, ◌≢◌, ℕ, ◌<◌, [], ◌∷◌, map, refl, sym, ap, subst, ◌∙◌, inl, inr, arith}
use Rattle.std.proofs.lemmas.List.Elements.{All-head, All-tail}
use Rattle.dd_nodes.specs.Subfunctions.{Function}
use Rattle.dd_ops.specs.Operations.{and_of, minus_of, or_of}
use Rattle.dd_sets.specs.LiveSets.{IsLive, set_of}
use Rattle.dd_sets.specs.Rooms.{Rough}
use Rattle.dd_sets.specs.declared.slots.SetId.{SetId}
use Rattle.dd_sets.proofs.OperationSizes.{cofactor_rough, difference_rough, meet_rough}
use Rattle.encode_task.specs.TaskSets.{exec_set}
use Rattle.task_core.specs.Cubes.{Cube}
use Rattle.task_core.specs.Tasks.{action_count, fluent_count}
use Rattle.task_core.specs.declared.classes.Class.{Class}
use Rattle.task_core.specs.declared.classes.Class.TheVariants.{Weak, Strong, Cyclic}
use Rattle.task_core.specs.declared.literals.ActionId.{ActionId}
use Rattle.task_core.specs.declared.literals.Lit.{Lit}
use Rattle.preimage.specs.Preimages.{strong_preimage, weak_preimage}
use Rattle.preimage.proofs.SizeLemmas.{weak_small}
use Rattle.plan_rules.specs.Plans.{IsCubeOf}
use Rattle.plan_certs.specs.Certificates.{CubeSet}
use Rattle.slot_board.specs.Board.{IsSmall, LeadFits, Start}
use Rattle.slot_board.specs.declared.board.Outcomes.{Outcomes}
use Rattle.cert_check.specs.Programs.{common_steps, fix_step, fix_steps, way_out_steps}
use Rattle.cert_check.specs.Sets.{states_in, way_out_set}
use Rattle.cert_check.specs.Sizes.{CommonFits, IsBoard, LeaveFits}
use Rattle.board_steps.specs.Steps.{CanMakeAll, Placed, after_step, after_steps, with_set}
use Rattle.board_steps.proofs.StepLemmas.{with_other}
use Rattle.cert_check.proofs.LookLemmas.{fixed}

-- what the union has in common with a set that is kept
module _ (start : Start) (f h : Function) (kept : SetId) (fits : CommonFits start f h kept) where
  pub common_can : (q : Placed) → q 0 ≡ f → CanMakeAll start q (common_steps kept)
  common_can q is =
      let five : start.places ≡ 5 = fits.board.five in
      let first : IsSmall start (q 0) = subst (IsSmall start) (sym is) fits.union in
      let second : IsSmall start (set_of start.enc.sets kept.0) = subst (IsSmall start) (sym fits.holds) fits.small in
      ((omega arith, fits.live, inl second), ((omega arith, omega arith, omega arith, inr (fits.board.left, meet_rough (fluent_count start.task) start.width (q 0) (set_of start.enc.sets kept.0) first second)), tt))

  pub common_is : (q : Placed) → q 0 ≡ f → after_steps start q (common_steps kept) 4 ≡ and_of f h
  common_is q is = ap (λ s. and_of s (set_of start.enc.sets kept.0)) is ∙ ap (and_of f) fits.holds

  pub common_kept : (q : Placed) → after_steps start q (common_steps kept) 0 ≡ q 0
  common_kept q = refl

-- what is left once the literals of a cube are fixed
module _ (start : Start) (board : IsBoard start) where
  pub literals_fix : (q : Placed) (lits : Cube) → IsCubeOf (fluent_count start.task) lits → Rough (fluent_count start.task) start.width (q 2) → CanMakeAll start q (map fix_step lits)
  literals_fix q [] below rough = tt
  literals_fix q (lit ∷ lits) below rough =
      let five : start.places ≡ 5 = board.five in
      let low : lit.fluent.0 < fluent_count start.task = All-head (λ (l : Lit). l.fluent.0 < fluent_count start.task) lit lits below in
      let next = cofactor_rough (fluent_count start.task) start.width (q 2) lit.fluent.0 lit.positive low rough in (
        (omega arith, low, inr (board.cube, next)),
        literals_fix (after_step start q (fix_step lit)) lits (All-tail (λ (l : Lit). l.fluent.0 < fluent_count start.task) lit lits below) next,
      )

  pub literals_fixed : (q : Placed) (lits : Cube) → after_steps start q (map fix_step lits) 2 ≡ fixed lits (q 2)
  unfolding fixed
  literals_fixed q [] = refl
  literals_fixed q (lit ∷ lits) = literals_fixed (after_step start q (fix_step lit)) lits

  pub fix_kept : (q : Placed) (lits : Cube) (k : ℕ) → k ≢ 2 → after_steps start q (map fix_step lits) k ≡ q k
  fix_kept q [] k other = refl
  fix_kept q (lit ∷ lits) k other = fix_kept (after_step start q (fix_step lit)) lits k other ∙ with_other q 2 _ k other

  pub fix_can : (q : Placed) (cube : Cube) → IsCubeOf (fluent_count start.task) cube → Rough (fluent_count start.task) start.width (q 4) → CanMakeAll start q (fix_steps cube)
  fix_can q cube below rough =
      let five : start.places ≡ 5 = board.five in
      ((omega arith, omega arith, inr (board.cube, rough)), literals_fix (with_set q 2 (q 4)) cube below rough)

-- the states from which an action is a way out
module _ (start : Start) (f : Function) (set : CubeSet) (exec : SetId) (a : ActionId) (low : a.0 < action_count start.task) (live : IsLive start.enc.sets exec.0) (holds : set_of start.enc.sets exec.0 ≡ exec_set start.task a.0) where
  pub way_is : (class : Class) (q : Placed) → q 0 ≡ f → q 1 ≡ states_in start.task set → after_steps start q (way_out_steps class exec a) 4 ≡ way_out_set class start.task f (states_in start.task set) a.0
  way_is Weak q union is =
      ap (λ e. minus_of e (strong_preimage start.task a.0 (q 1))) holds ∙ ap (λ s. minus_of (exec_set start.task a.0) (strong_preimage start.task a.0 s)) is
  way_is Strong q union is =
      ap (λ e. minus_of e (weak_preimage start.task a.0 (q 1))) holds ∙ ap (λ s. minus_of (exec_set start.task a.0) (weak_preimage start.task a.0 s)) is
  way_is Cyclic q union is =
      ap (λ e. minus_of (minus_of e (weak_preimage start.task a.0 (q 0))) (strong_preimage start.task a.0 (or_of (q 0) (q 1)))) holds
      ∙ ap (λ s. minus_of (minus_of (exec_set start.task a.0) (weak_preimage start.task a.0 s)) (strong_preimage start.task a.0 (or_of s (q 1)))) union
      ∙ ap (λ s. minus_of (minus_of (exec_set start.task a.0) (weak_preimage start.task a.0 f)) (strong_preimage start.task a.0 (or_of f s))) is

  pub way_kept : (class : Class) (q : Placed) → (after_steps start q (way_out_steps class exec a) 0 ≡ q 0) × (after_steps start q (way_out_steps class exec a) 1 ≡ q 1)
  way_kept Weak q = (refl, refl)
  way_kept Strong q = (refl, refl)
  way_kept Cyclic q = (refl, refl)

  pub way_can : (class : Class) (q : Placed) → LeaveFits start class f set → q 0 ≡ f → q 1 ≡ states_in start.task set → CanMakeAll start q (way_out_steps class exec a)
  way_can Weak q fits union is =
      let five : start.places ≡ 5 = fits.by_set.board.five in
      let way = fits.ways a.0 low in
      ((omega arith, live, inl (subst (IsSmall start) (sym holds) way.exec)), ((omega arith, omega arith, low, subst (LeadFits start Outcomes.Every a.0) (sym is) way), ((omega arith, omega arith, omega arith, inr (fits.by_set.board.left, subst (Rough (fluent_count start.task) start.width) (sym (way_is Weak q union is)) (fits.left a.0 low))), tt)))
  way_can Strong q fits union is =
      let five : start.places ≡ 5 = fits.by_set.board.five in
      let way = fits.ways a.0 low in
      ((omega arith, live, inl (subst (IsSmall start) (sym holds) way.exec)), ((omega arith, omega arith, low, subst (LeadFits start Outcomes.Some a.0) (sym is) way), ((omega arith, omega arith, omega arith, inr (fits.by_set.board.left, subst (Rough (fluent_count start.task) start.width) (sym (way_is Strong q union is)) (fits.left a.0 low))), tt)))
  way_can Cyclic q fits union is =
      let five : start.places ≡ 5 = fits.by_set.board.five in
      let way = fits.ways a.0 low in
      let both : or_of (q 0) (q 1) ≡ or_of f (states_in start.task set) = ap (λ s. or_of s (q 1)) union ∙ ap (or_of f) is in
      let here : IsSmall start (set_of start.enc.sets exec.0) = subst (IsSmall start) (sym holds) way.0.exec in
      let some : LeadFits start Outcomes.Some a.0 (q 0) = subst (LeadFits start Outcomes.Some a.0) (sym union) way.0 in
      let hits : IsSmall start (weak_preimage start.task a.0 (q 0)) = weak_small start.width start.task a.0 (q 0) some in
      ((omega arith, live, inl here), ((omega arith, omega arith, low, some), ((omega arith, omega arith, omega arith, inr (fits.by_set.board.left, difference_rough (fluent_count start.task) start.width (set_of start.enc.sets exec.0) (weak_preimage start.task a.0 (q 0)) here hits)), ((omega arith, omega arith, omega arith, inl (subst (IsSmall start) (sym both) fits.joined)), ((omega arith, omega arith, low, subst (LeadFits start Outcomes.Every a.0) (sym both) way.1), ((omega arith, omega arith, omega arith, inr (fits.by_set.board.left, subst (Rough (fluent_count start.task) start.width) (sym (way_is Cyclic q union is)) (fits.left a.0 low))), tt))))))
