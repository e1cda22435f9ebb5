-- What shrinks: what the steps ask and make, and that a pass that takes something leaves less.
use Rattle.std.proofs.Common.{◌≡◌, ◌≢◌, ◌↔◌, IsTrue, ℕ, ◌+◌, ◌<◌, Bool, true, false, not, ◌&&◌, ◌||◌, cond, List, [], ◌∷◌, refl, sym, ap, subst, ◌∙◌, ⊎_elim, arith}
use Rattle.std.proofs.Math.Path.{fun_ext}
use Rattle.std.proofs.lemmas.Bool.{and_parts, cases_eq, false≢true, true≢false}
use Rattle.list_laws.proofs.Booleans.{and_false, not_false}
use Rattle.dd_nodes.specs.Subfunctions.{Function}
use Rattle.dd_ops.specs.Operations.{and_of, minus_of}
use Rattle.dd_sets.specs.LiveSets.{nothing}
use Rattle.dd_sets.specs.declared.slots.SetId.{SetId}
use Rattle.encode_task.specs.Slots.{Encoded}
use Rattle.encode_task.proofs.StateVectors.{some_there}
use Rattle.slot_board.specs.Board.{LeadFits, led, set_at}
use Rattle.slot_board.specs.declared.board.Operation.{Operation}
use Rattle.slot_board.specs.declared.board.Outcomes.{Outcomes}
use Rattle.task_core.specs.Tasks.{action_count, fluent_count}
use Rattle.task_core.specs.Vectors.{all_vectors, value_of}
use Rattle.task_core.specs.declared.literals.ActionId.{ActionId}
use Rattle.plan_theory.proofs.RoundSteps.{held}
use Rattle.board_steps.specs.Steps.{CanMakeAll, Shows, after_steps}
use Rattle.board_steps.specs.declared.steps.Step.{Step}
use Rattle.board_steps.specs.declared.steps.Step.TheVariants.{Combine, Lead}
use Rattle.judge_sets.specs.Fixpoints.{IsShrunk, here_of, lost_of}
use Rattle.judge_sets.specs.Fixpoints.IsShrunk.{shrunk}
use Rattle.judge_sets.specs.Places.{HasHere, HasLost, HasMore, HasOut, HasShrunk, IsLossBy, LosesNone, Scene}
use Rattle.judge_sets.specs.TableSets.{step_set}
use Rattle.judge_sets.specs.WorkingSets.IsMadeBack.{here as here_back, lost as lost_back}
use Rattle.judge_sets.specs.WorkingSets.IsRoundSet.{shrinks}
use Rattle.judge_sets.specs.WorkingSets.IsWorkingSet.{by_round, round}
use Rattle.judge_sets.proofs.GrowSteps.{fewer_held, more_more, round_fits, steps_kept, yes_empty}
use Rattle.judge_sets.proofs.StepFacts.{fits, only_fluents, op_same, place_in, taken_in}

abbrev pub here_steps : ℕ → List Step
here_steps t = Combine 2 Operation.Meet t 6 ∷ []

abbrev pub lost_steps : ActionId → List Step
lost_steps a = Lead 3 Outcomes.Every a 6 ∷ Combine 3 Operation.Minus 2 3 ∷ []

abbrev pub drop_steps : List Step
drop_steps = Combine 6 Operation.Minus 6 3 ∷ []

module _ (scene : Scene) (from set : Function) (a t : ℕ) (enc : Encoded) (old : List SetId) (has : HasShrunk scene enc old from set)
    (low : a < action_count scene.start.task) (at : t ≡ 7 + a) where
  here_is : and_of (set_at enc.sets old t) (set_at enc.sets old 6) ≡ here_of scene.start.task scene.rules set a
  here_is = op_same Operation.Meet _ _ _ _ (ap (set_at enc.sets old) at ∙ has.by_steps.steps a low) has.stays

  pub here_can : CanMakeAll scene.start (set_at enc.sets old) (here_steps t)
  here_can = (
    (place_in scene 2 (omega arith), subst (λ k. k < scene.start.places) (sym at) (taken_in scene a low), place_in scene 6 (omega arith), fits scene 2 _ _ here_is (by_round Outcomes.Every set a _ (shrinks from set has.begin has.shrunk) low here_back)),
    tt,
  )

  module _ (now : Encoded) (new : List SetId) (shows : Shows scene.start now new (after_steps scene.start (set_at enc.sets old) (here_steps t))) where
    here_shrunk : HasShrunk scene now new from set
    here_shrunk = record {
      by_steps = steps_kept scene enc now old new (here_steps t) has.by_steps shows ((λ e. absurd (omega arith)), tt) ((λ e. absurd (omega arith)), tt) (λ b. ((λ e. absurd (omega arith)), tt));
      stays = shows.sets 6 (place_in scene 6 (omega arith)) ∙ has.stays;
      begin = has.begin;
      shrunk = has.shrunk;
    }

    pub here_told : (empty : Bool) → (IsTrue empty ↔ (set_at now.sets new 2 ≡ nothing)) → HasHere scene now new from set a (not empty)
    here_told empty told = record {
      has = here_shrunk;
      here = shows.sets 2 (place_in scene 2 (omega arith)) ∙ here_is;
      none = λ no. sym (shows.sets 2 (place_in scene 2 (omega arith)) ∙ here_is) ∙ told.0 (not_false empty no);
    }

module _ (scene : Scene) (from set : Function) (a : ActionId) (enc : Encoded) (old : List SetId) (by : HasHere scene enc old from set a.0 true)
    (low : a.0 < action_count scene.start.task) where
  lost_is : minus_of (set_at enc.sets old 2) (led Outcomes.Every scene.start.task a.0 (set_at enc.sets old 6)) ≡ lost_of scene.start.task scene.rules set a.0
  lost_is = op_same Operation.Minus _ _ _ _ by.here (ap (led Outcomes.Every scene.start.task a.0) by.has.stays)

  pub lost_can : CanMakeAll scene.start (set_at enc.sets old) (lost_steps a)
  lost_can = (
    (place_in scene 3 (omega arith), place_in scene 6 (omega arith), low, subst (LeadFits scene.start Outcomes.Every a.0) (sym by.has.stays) (round_fits scene Outcomes.Every set (shrinks from set by.has.begin by.has.shrunk) a.0 low)),
    ((place_in scene 3 (omega arith), place_in scene 2 (omega arith), place_in scene 3 (omega arith), fits scene 3 _ _ lost_is (by_round Outcomes.Every set a.0 _ (shrinks from set by.has.begin by.has.shrunk) low lost_back)), tt),
  )

  module _ (now : Encoded) (new : List SetId) (shows : Shows scene.start now new (after_steps scene.start (set_at enc.sets old) (lost_steps a))) where
    lost_shrunk : HasShrunk scene now new from set
    lost_shrunk = record {
      by_steps = steps_kept scene enc now old new (lost_steps a) by.has.by_steps shows ((λ e. absurd (omega arith)), ((λ e. absurd (omega arith)), tt)) ((λ e. absurd (omega arith)), ((λ e. absurd (omega arith)), tt)) (λ b. ((λ e. absurd (omega arith)), ((λ e. absurd (omega arith)), tt)));
      stays = shows.sets 6 (place_in scene 6 (omega arith)) ∙ by.has.stays;
      begin = by.has.begin;
      shrunk = by.has.shrunk;
    }

    lost_here : set_at now.sets new 3 ≡ lost_of scene.start.task scene.rules set a.0
    lost_here = shows.sets 3 (place_in scene 3 (omega arith)) ∙ lost_is

    pub lost_told : (empty : Bool) → (IsTrue empty ↔ (set_at now.sets new 3 ≡ nothing)) → HasOut scene now new from set a.0 (not empty)
    lost_told empty told = record {
      has = lost_shrunk;
      out = lost_here;
      none = λ no. sym lost_here ∙ told.0 (not_false empty no);
      any = λ some is. yes_empty empty some (told.1 (lost_here ∙ is));
    }

-- nothing there, nothing lost
pub lost_none : (scene : Scene) (set : Function) (a : ℕ) → here_of scene.start.task scene.rules set a ≡ nothing → lost_of scene.start.task scene.rules set a ≡ nothing
lost_none scene set a none = fun_ext (λ values. ap (λ (f : Function). f values && not (led Outcomes.Every scene.start.task a set values)) none)

pub loses_no : (scene : Scene) (now : Encoded) (slots : List SetId) (from set : Function) (a : ℕ) → HasShrunk scene now slots from set → lost_of scene.start.task scene.rules set a ≡ nothing → IsLossBy scene now slots from set a false
loses_no scene now slots from set a has none = record { set = set; has = has; fewer = λ e. absurd (false≢true e); same = λ e. (refl, none) }

module _ (scene : Scene) (from set : Function) (a : ℕ) (enc : Encoded) (old : List SetId) (by : HasOut scene enc old from set a true)
    (low : a < action_count scene.start.task) where
  next_shrunk : IsShrunk scene.start.task scene.rules from (minus_of set (lost_of scene.start.task scene.rules set a))
  next_shrunk = shrunk set a low (only_fluents scene enc old by.has.by_steps.there 6 set by.has.stays) by.has.shrunk

  drop_is : minus_of (set_at enc.sets old 6) (set_at enc.sets old 3) ≡ minus_of set (lost_of scene.start.task scene.rules set a)
  drop_is = op_same Operation.Minus _ _ _ _ by.has.stays by.out

  pub drop_can : CanMakeAll scene.start (set_at enc.sets old) drop_steps
  drop_can = ((place_in scene 6 (omega arith), place_in scene 6 (omega arith), place_in scene 3 (omega arith), fits scene 6 _ _ drop_is (round Outcomes.Every _ (shrinks from _ by.has.begin next_shrunk))), tt)

  less_there : HasMore (fluent_count scene.start.task) (minus_of set (lost_of scene.start.task scene.rules set a)) set
  less_there =
      let w = some_there (fluent_count scene.start.task) (lost_of scene.start.task scene.rules set a) (only_fluents scene enc old by.has.by_steps.there 3 _ by.out) (by.any refl) in
      let v = value_of w.0 in
      let parts = and_parts (here_of scene.start.task scene.rules set a v) (not (led Outcomes.Every scene.start.task a set v)) w.2 in
      let inside = and_parts (step_set scene.start.task scene.rules a v) (set v) parts.0 in
      record {
        part = λ values h. (and_parts (set values) (not (lost_of scene.start.task scene.rules set a values)) h).0;
        vector = w.0;
        long = w.1;
        has = inside.1;
        lacks = ap (λ b. set v && not b) w.2 ∙ and_false (set v);
      }

  pub drop_made : (now : Encoded) (new : List SetId) → Shows scene.start now new (after_steps scene.start (set_at enc.sets old) drop_steps) → IsLossBy scene now new from set a true
  drop_made now new shows = record {
    set = minus_of set (lost_of scene.start.task scene.rules set a);
    has = record {
      by_steps = steps_kept scene enc now old new drop_steps by.has.by_steps shows ((λ e. absurd (omega arith)), tt) ((λ e. absurd (omega arith)), tt) (λ b. ((λ e. absurd (omega arith)), tt));
      stays = shows.sets 6 (place_in scene 6 (omega arith)) ∙ drop_is;
      begin = by.has.begin;
      shrunk = next_shrunk;
    };
    fewer = λ e. less_there;
    same = λ e. absurd (true≢false e);
  }

-- one action more of a pass
pub lost_at_first : (scene : Scene) (now : Encoded) (slots : List SetId) (from set : Function) → HasShrunk scene now slots from set → HasLost scene now slots from set 0 false
lost_at_first scene now slots from set has = record { set = set; has = has; fewer = λ e. absurd (false≢true e); same = λ e. (refl, λ a low. absurd (omega arith)) }

pub lost_more : (scene : Scene) (enc now : Encoded) (old new : List SetId) (from before : Function) (n : ℕ) (shrank lost both : Bool) → both ≡ (shrank || lost)
    → (half : HasLost scene enc old from before n shrank) → IsLossBy scene now new from half.set n lost → HasLost scene now new from before (n + 1) both
lost_more scene enc now old new from before n shrank lost both is half by = record {
  set = by.set;
  has = by.has;
  fewer = λ e. smaller shrank lost (sym is ∙ e) half.fewer half.same by.fewer by.same;
  same = λ e. unchanged shrank lost (sym is ∙ e) half.same by.same;
}
  where
    smaller : (x y : Bool) → (x || y) ≡ true → (x ≡ true → HasMore (fluent_count scene.start.task) half.set before) → (x ≡ false → (half.set ≡ before) × LosesNone scene half.set n)
        → (y ≡ true → HasMore (fluent_count scene.start.task) by.set half.set) → (y ≡ false → (by.set ≡ half.set) × (lost_of scene.start.task scene.rules by.set n ≡ nothing)) → HasMore (fluent_count scene.start.task) by.set before
    smaller true true e m s m' s' = more_more (fluent_count scene.start.task) by.set half.set before (m' refl) (m refl)
    smaller true false e m s m' s' = subst (λ (f : Function). HasMore (fluent_count scene.start.task) f before) (sym (s' refl).0) (m refl)
    smaller false true e m s m' s' = subst (HasMore (fluent_count scene.start.task) by.set) (s refl).0 (m' refl)
    smaller false false e m s m' s' = absurd (false≢true e)

    unchanged : (x y : Bool) → (x || y) ≡ false → (x ≡ false → (half.set ≡ before) × LosesNone scene half.set n)
        → (y ≡ false → (by.set ≡ half.set) × (lost_of scene.start.task scene.rules by.set n ≡ nothing)) → (by.set ≡ before) × LosesNone scene by.set (n + 1)
    unchanged true y e s s' = absurd (true≢false e)
    unchanged false true e s s' = absurd (true≢false e)
    unchanged false false e s s' = (
      (s' refl).0 ∙ (s refl).0,
      λ a low. ⊎_elim
          (λ (same : a ≡ n). subst (λ b. lost_of scene.start.task scene.rules by.set b ≡ nothing) (sym same) (s' refl).1)
          (λ (other : a ≢ n). subst (λ (f : Function). lost_of scene.start.task scene.rules f a ≡ nothing) (sym (s' refl).0) ((s refl).1 a (let d = other in omega arith)))
          (cases_eq a n),
    )

pub shrink_less : (scene : Scene) (enc now : Encoded) (old new : List SetId) (from before : Function) (n k : ℕ) (shrank lost : Bool) → k ≡ fluent_count scene.start.task → shrank ≡ true
    → HasShrunk scene enc old from before → HasLost scene now new from before n lost
    → held (λ v. set_at now.sets new 6 (value_of v)) (all_vectors k) + cond lost 1 0 < held (λ v. set_at enc.sets old 6 (value_of v)) (all_vectors k) + cond shrank 1 0
shrink_less scene enc now old new from before n k shrank lost same_count on has after =
    subst (λ b. held (λ v. set_at now.sets new 6 (value_of v)) (all_vectors k) + cond lost 1 0 < held (λ v. set_at enc.sets old 6 (value_of v)) (all_vectors k) + cond b 1 0) (sym on)
    (by_loss lost after.fewer after.same)
  where
    by_loss : (b : Bool) → (b ≡ true → HasMore (fluent_count scene.start.task) after.set before) → (b ≡ false → (after.set ≡ before) × LosesNone scene after.set n)
        → held (λ v. set_at now.sets new 6 (value_of v)) (all_vectors k) + cond b 1 0 < held (λ v. set_at enc.sets old 6 (value_of v)) (all_vectors k) + 1
    by_loss true m s =
        let l : held (λ v. set_at now.sets new 6 (value_of v)) (all_vectors k) < held (λ v. set_at enc.sets old 6 (value_of v)) (all_vectors k) =
        fewer_held k (set_at enc.sets old 6) (set_at now.sets new 6)
        (subst (λ j. HasMore j (set_at now.sets new 6) (set_at enc.sets old 6)) (sym same_count)
        (subst (HasMore (fluent_count scene.start.task) (set_at now.sets new 6)) (sym has.stays) (subst (λ (f : Function). HasMore (fluent_count scene.start.task) f before) (sym after.has.stays) (m refl)))) in
        omega arith
    by_loss false m s =
        let e : held (λ v. set_at now.sets new 6 (value_of v)) (all_vectors k) ≡ held (λ v. set_at enc.sets old 6 (value_of v)) (all_vectors k) =
        ap (λ (f : Function). held (λ v. f (value_of v)) (all_vectors k)) (after.has.stays ∙ (s refl).0 ∙ sym has.stays) in
        omega arith
