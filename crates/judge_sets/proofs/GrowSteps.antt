-- What grows and what shrinks: what the steps ask and make, and that a pass that changes something
-- leaves more, or less.
use Rattle.std.proofs.Common.{◌≡◌, ◌≢◌, ◌↔◌, IsTrue, ℕ, ◌+◌, ◌<◌, Bool, true, false, not, ◌&&◌, ◌||◌, cond, List, [], ◌∷◌, refl, sym, ap, subst, ◌∙◌, ⊎_elim, arith}
use Rattle.std.proofs.Math.Path.{fun_ext}
use Rattle.std.proofs.lemmas.Bool.{and_parts, cases_eq, false≢true, true≢false, or_left, or_right}
use Rattle.dd_nodes.specs.Subfunctions.{Function}
use Rattle.dd_ops.specs.Operations.{and_of, minus_of, or_of}
use Rattle.dd_sets.specs.LiveSets.{nothing}
use Rattle.dd_sets.specs.declared.slots.SetId.{SetId}
use Rattle.encode_task.specs.Slots.{Encoded}
use Rattle.encode_task.proofs.StateVectors.{some_there}
use Rattle.preimage.specs.WorkingSets.{PreimageFits}
use Rattle.slot_board.specs.Board.{LeadFits, first_of, led, set_at}
use Rattle.slot_board.specs.declared.board.Operation.{Operation}
use Rattle.slot_board.specs.declared.board.Outcomes.{Outcomes}
use Rattle.task_core.specs.Tasks.{action_count, fluent_count}
use Rattle.task_core.specs.Vectors.{all_vectors, value_of}
use Rattle.task_core.specs.declared.literals.ActionId.{ActionId}
use Rattle.task_core.proofs.Vectors.{all_vectors_has}
use Rattle.plan_theory.proofs.RoundSteps.{held, holds_fewer}
use Rattle.list_laws.proofs.Booleans.{and_false, not_false, not_true}
use Rattle.list_laws.proofs.Elements.{map-agree}
use Rattle.board_steps.specs.Steps.{CanMakeAll, Shows, after_steps}
use Rattle.board_steps.specs.declared.steps.Step.{Step}
use Rattle.board_steps.specs.declared.steps.Step.TheVariants.{Combine, Lead}
use Rattle.judge_sets.specs.Fixpoints.{IsGrown, hits_of, rest_of}
use Rattle.judge_sets.specs.Fixpoints.IsGrown.{grown}
use Rattle.judge_sets.specs.Places.{GainsNone, HasGained, HasGrown, HasHits, HasMore, HasRest, HasSteps, IsGainBy, Scene}
use Rattle.judge_sets.specs.TableSets.{step_set}
use Rattle.judge_sets.specs.WorkingSets.{IsRoundSet}
use Rattle.judge_sets.specs.WorkingSets.IsMadeBack.{first_led, hits, rest}
use Rattle.judge_sets.specs.WorkingSets.IsMadeBack.{led as led_part}
use Rattle.judge_sets.specs.WorkingSets.IsRoundSet.{grows}
use Rattle.judge_sets.specs.WorkingSets.IsTaskSet.{exec, lands}
use Rattle.judge_sets.specs.WorkingSets.IsWorkingSet.{by_round, by_task, round}
use Rattle.judge_sets.proofs.StepFacts.{Spares, fits, only_fluents, op_same, place_in, taken_in, untouched}

-- the preimages of a set that is gone back from are small
pub round_fits : (scene : Scene) (outcomes : Outcomes) (set : Function) → IsRoundSet scene.start.task scene.rules outcomes set → (a : ℕ) → a < action_count scene.start.task
    → PreimageFits scene.start.width scene.start.task a (first_of outcomes) set
round_fits scene outcomes set is a low = record {
  wide = scene.wide.wide;
  given = scene.wide.each _ (round outcomes set is);
  exec = scene.wide.each _ (by_task _ (exec a low));
  lands = λ o under. scene.wide.each _ (by_task _ (lands a low o under));
  firsts = λ j. scene.wide.each _ (by_round outcomes set a _ is low (first_led j));
  led = λ o under part sub. scene.wide.each _ (by_round outcomes set a _ is low (led_part o under part sub));
}

-- the steps stay where they are
pub steps_kept : (scene : Scene) (enc now : Encoded) (old new : List SetId) (steps : List Step) → HasSteps scene enc old → Shows scene.start now new (after_steps scene.start (set_at enc.sets old) steps)
    → Spares 1 steps → Spares 5 steps → ((a : ℕ) → Spares (7 + a) steps) → HasSteps scene now new
steps_kept scene enc now old new steps has shows one five taken = record {
  there = record { at = shows.at; sound = shows.sound };
  differ = shows.sets 1 (place_in scene 1 (omega arith)) ∙ untouched scene.start (set_at enc.sets old) steps 1 one ∙ has.differ;
  followed = shows.sets 5 (place_in scene 5 (omega arith)) ∙ untouched scene.start (set_at enc.sets old) steps 5 five ∙ has.followed;
  steps = λ a low. shows.sets (7 + a) (taken_in scene a low) ∙ untouched scene.start (set_at enc.sets old) steps (7 + a) (taken a) ∙ has.steps a low;
}

pub yes_empty : (b : Bool) → not b ≡ true → (b ≡ true → ⊥)
yes_empty b h e = false≢true (sym (ap not e) ∙ h)

abbrev pub rest_steps : ℕ → List Step
rest_steps t = Combine 2 Operation.Minus t 4 ∷ []

abbrev pub hits_steps : Outcomes → ActionId → List Step
hits_steps outcomes a = Lead 3 outcomes a 4 ∷ Combine 3 Operation.Meet 3 2 ∷ []

abbrev pub join_steps : List Step
join_steps = Combine 4 Operation.Join 4 3 ∷ []

module _ (scene : Scene) (outcomes : Outcomes) (set : Function) (a t : ℕ) (enc : Encoded) (old : List SetId) (has : HasGrown scene outcomes enc old set)
    (low : a < action_count scene.start.task) (at : t ≡ 7 + a) where
  rest_is : minus_of (set_at enc.sets old t) (set_at enc.sets old 4) ≡ rest_of scene.start.task scene.rules set a
  rest_is = op_same Operation.Minus _ _ _ _ (ap (set_at enc.sets old) at ∙ has.by_steps.steps a low) has.good

  pub rest_can : CanMakeAll scene.start (set_at enc.sets old) (rest_steps t)
  rest_can = (
    (place_in scene 2 (omega arith), subst (λ k. k < scene.start.places) (sym at) (taken_in scene a low), place_in scene 4 (omega arith), fits scene 2 _ _ rest_is (by_round outcomes set a _ (grows outcomes set has.grown) low rest)),
    tt,
  )

  module _ (now : Encoded) (new : List SetId) (shows : Shows scene.start now new (after_steps scene.start (set_at enc.sets old) (rest_steps t))) where
    pub rest_grown : HasGrown scene outcomes now new set
    rest_grown = record {
      by_steps = steps_kept scene enc now old new (rest_steps t) has.by_steps shows ((λ e. absurd (omega arith)), tt) ((λ e. absurd (omega arith)), tt) (λ b. ((λ e. absurd (omega arith)), tt));
      good = shows.sets 4 (place_in scene 4 (omega arith)) ∙ has.good;
      grown = has.grown;
    }

    pub rest_told : (empty : Bool) → (IsTrue empty ↔ (set_at now.sets new 2 ≡ nothing)) → HasRest scene outcomes now new set a (not empty)
    rest_told empty told = record {
      has = rest_grown;
      rest = shows.sets 2 (place_in scene 2 (omega arith)) ∙ rest_is;
      none = λ no. sym (shows.sets 2 (place_in scene 2 (omega arith)) ∙ rest_is) ∙ told.0 (not_false empty no);
    }

module _ (scene : Scene) (outcomes : Outcomes) (set : Function) (a : ActionId) (enc : Encoded) (old : List SetId) (by : HasRest scene outcomes enc old set a.0 true)
    (low : a.0 < action_count scene.start.task) where
  hits_is : and_of (led outcomes scene.start.task a.0 (set_at enc.sets old 4)) (set_at enc.sets old 2) ≡ hits_of outcomes scene.start.task scene.rules set a.0
  hits_is = op_same Operation.Meet _ _ _ _ (ap (led outcomes scene.start.task a.0) by.has.good) by.rest

  pub hits_can : CanMakeAll scene.start (set_at enc.sets old) (hits_steps outcomes a)
  hits_can = (
    (place_in scene 3 (omega arith), place_in scene 4 (omega arith), low, subst (LeadFits scene.start outcomes a.0) (sym by.has.good) (round_fits scene outcomes set (grows outcomes set by.has.grown) a.0 low)),
    ((place_in scene 3 (omega arith), place_in scene 3 (omega arith), place_in scene 2 (omega arith), fits scene 3 _ _ hits_is (by_round outcomes set a.0 _ (grows outcomes set by.has.grown) low hits)), tt),
  )

  module _ (now : Encoded) (new : List SetId) (shows : Shows scene.start now new (after_steps scene.start (set_at enc.sets old) (hits_steps outcomes a))) where
    pub hits_grown : HasGrown scene outcomes now new set
    hits_grown = record {
      by_steps = steps_kept scene enc now old new (hits_steps outcomes a) by.has.by_steps shows ((λ e. absurd (omega arith)), ((λ e. absurd (omega arith)), tt)) ((λ e. absurd (omega arith)), ((λ e. absurd (omega arith)), tt)) (λ b. ((λ e. absurd (omega arith)), ((λ e. absurd (omega arith)), tt)));
      good = shows.sets 4 (place_in scene 4 (omega arith)) ∙ by.has.good;
      grown = by.has.grown;
    }

    hits_here : set_at now.sets new 3 ≡ hits_of outcomes scene.start.task scene.rules set a.0
    hits_here = shows.sets 3 (place_in scene 3 (omega arith)) ∙ hits_is

    pub hits_told : (empty : Bool) → (IsTrue empty ↔ (set_at now.sets new 3 ≡ nothing)) → HasHits scene outcomes now new set a.0 (not empty)
    hits_told empty told = record {
      has = hits_grown;
      hits = hits_here;
      none = λ no. sym hits_here ∙ told.0 (not_false empty no);
      any = λ yes is. yes_empty empty yes (told.1 (hits_here ∙ is));
    }

-- no rest, no hits
pub hits_none : (scene : Scene) (outcomes : Outcomes) (set : Function) (a : ℕ) → rest_of scene.start.task scene.rules set a ≡ nothing → hits_of outcomes scene.start.task scene.rules set a ≡ nothing
hits_none scene outcomes set a none = fun_ext (λ values.
    ap (λ (f : Function). led outcomes scene.start.task a set values && f values) none ∙ and_false (led outcomes scene.start.task a set values))

pub gains_no : (scene : Scene) (outcomes : Outcomes) (now : Encoded) (slots : List SetId) (set : Function) (a : ℕ) → HasGrown scene outcomes now slots set → hits_of outcomes scene.start.task scene.rules set a ≡ nothing → IsGainBy scene outcomes now slots set a false
gains_no scene outcomes now slots set a has none = record { set = set; has = has; more = λ e. absurd (false≢true e); same = λ e. (refl, none) }

module _ (scene : Scene) (outcomes : Outcomes) (set : Function) (a : ℕ) (enc : Encoded) (old : List SetId) (by : HasHits scene outcomes enc old set a true)
    (low : a < action_count scene.start.task) where
  next_grown : IsGrown outcomes scene.start.task scene.rules (or_of set (hits_of outcomes scene.start.task scene.rules set a))
  next_grown = grown set a low (only_fluents scene enc old by.has.by_steps.there 4 set by.has.good) by.has.grown

  join_is : or_of (set_at enc.sets old 4) (set_at enc.sets old 3) ≡ or_of set (hits_of outcomes scene.start.task scene.rules set a)
  join_is = op_same Operation.Join _ _ _ _ by.has.good by.hits

  pub join_can : CanMakeAll scene.start (set_at enc.sets old) join_steps
  join_can = ((place_in scene 4 (omega arith), place_in scene 4 (omega arith), place_in scene 3 (omega arith), fits scene 4 _ _ join_is (round outcomes _ (grows outcomes _ next_grown))), tt)

  more_there : HasMore (fluent_count scene.start.task) set (or_of set (hits_of outcomes scene.start.task scene.rules set a))
  more_there =
      let w = some_there (fluent_count scene.start.task) (hits_of outcomes scene.start.task scene.rules set a) (only_fluents scene enc old by.has.by_steps.there 3 _ by.hits) (by.any refl) in
      let v = value_of w.0 in
      let parts = and_parts (led outcomes scene.start.task a set v) (rest_of scene.start.task scene.rules set a v) w.2 in
      let outside = and_parts (step_set scene.start.task scene.rules a v) (not (set v)) parts.1 in
      record {
        part = λ values h. or_left (set values) (hits_of outcomes scene.start.task scene.rules set a values) h;
        vector = w.0;
        long = w.1;
        has = or_right (set v) (hits_of outcomes scene.start.task scene.rules set a v) w.2;
        lacks = not_true (set v) outside.1;
      }

  pub join_made : (now : Encoded) (new : List SetId) → Shows scene.start now new (after_steps scene.start (set_at enc.sets old) join_steps) → IsGainBy scene outcomes now new set a true
  join_made now new shows = record {
    set = or_of set (hits_of outcomes scene.start.task scene.rules set a);
    has = record {
      by_steps = steps_kept scene enc now old new join_steps by.has.by_steps shows ((λ e. absurd (omega arith)), tt) ((λ e. absurd (omega arith)), tt) (λ b. ((λ e. absurd (omega arith)), tt));
      good = shows.sets 4 (place_in scene 4 (omega arith)) ∙ join_is;
      grown = next_grown;
    };
    more = λ e. more_there;
    same = λ e. absurd (true≢false e);
  }

-- more after more
pub more_more : (n : ℕ) (f g h : Function) → HasMore n f g → HasMore n g h → HasMore n f h
more_more n f g h one two = record {
  part = λ values e. two.part values (one.part values e);
  vector = one.vector;
  long = one.long;
  has = two.part (value_of one.vector) one.has;
  lacks = one.lacks;
}

-- one action more of a pass
pub gained_none : (scene : Scene) (outcomes : Outcomes) (now : Encoded) (slots : List SetId) (set : Function) → HasGrown scene outcomes now slots set → HasGained scene outcomes now slots set 0 false
gained_none scene outcomes now slots set has = record { set = set; has = has; more = λ e. absurd (false≢true e); same = λ e. (refl, λ a low. absurd (omega arith)) }

pub gained_more : (scene : Scene) (outcomes : Outcomes) (enc now : Encoded) (old new : List SetId) (before : Function) (n : ℕ) (grew gained both : Bool) → both ≡ (grew || gained)
    → (half : HasGained scene outcomes enc old before n grew) → IsGainBy scene outcomes now new half.set n gained → HasGained scene outcomes now new before (n + 1) both
gained_more scene outcomes enc now old new before n grew gained both is half by = record {
  set = by.set;
  has = by.has;
  more = λ e. larger grew gained (sym is ∙ e) half.more half.same by.more by.same;
  same = λ e. unchanged grew gained (sym is ∙ e) half.same by.same;
}
  where
    larger : (x y : Bool) → (x || y) ≡ true → (x ≡ true → HasMore (fluent_count scene.start.task) before half.set) → (x ≡ false → (half.set ≡ before) × GainsNone outcomes scene half.set n)
        → (y ≡ true → HasMore (fluent_count scene.start.task) half.set by.set) → (y ≡ false → (by.set ≡ half.set) × (hits_of outcomes scene.start.task scene.rules by.set n ≡ nothing)) → HasMore (fluent_count scene.start.task) before by.set
    larger true true e m s m' s' = more_more (fluent_count scene.start.task) before half.set by.set (m refl) (m' refl)
    larger true false e m s m' s' = subst (HasMore (fluent_count scene.start.task) before) (sym (s' refl).0) (m refl)
    larger false true e m s m' s' = subst (λ (f : Function). HasMore (fluent_count scene.start.task) f by.set) (s refl).0 (m' refl)
    larger false false e m s m' s' = absurd (false≢true e)

    unchanged : (x y : Bool) → (x || y) ≡ false → (x ≡ false → (half.set ≡ before) × GainsNone outcomes scene half.set n)
        → (y ≡ false → (by.set ≡ half.set) × (hits_of outcomes scene.start.task scene.rules by.set n ≡ nothing)) → (by.set ≡ before) × GainsNone outcomes scene by.set (n + 1)
    unchanged true y e s s' = absurd (true≢false e)
    unchanged false true e s s' = absurd (true≢false e)
    unchanged false false e s s' = (
      (s' refl).0 ∙ (s refl).0,
      λ a low. ⊎_elim
          (λ (here : a ≡ n). subst (λ b. hits_of outcomes scene.start.task scene.rules by.set b ≡ nothing) (sym here) (s' refl).1)
          (λ (there : a ≢ n). subst (λ (f : Function). hits_of outcomes scene.start.task scene.rules f a ≡ nothing) (sym (s' refl).0) ((s refl).1 a (let d = there in omega arith)))
          (cases_eq a n),
    )

-- a set that has more lacks fewer vectors
fewer_lacks : (n : ℕ) (f g : Function) → HasMore n f g → held (λ v. not (g (value_of v))) (all_vectors n) < held (λ v. not (f (value_of v))) (all_vectors n)
fewer_lacks n f g more =
    holds_fewer (λ v. not (f (value_of v))) (λ v. not (g (value_of v))) (all_vectors n)
    (λ v c h. ap not (lacks_before (f (value_of v)) (g (value_of v)) (more.part (value_of v)) h))
    (λ same.
    let e = map-agree (λ v. not (g (value_of v))) (λ v. not (f (value_of v))) (all_vectors n) more.vector same (all_vectors_has n more.vector more.long) in
    false≢true (sym (ap not more.has) ∙ e ∙ ap not more.lacks))
  where
    lacks_before : (x y : Bool) → (x ≡ true → y ≡ true) → not y ≡ true → x ≡ false
    lacks_before true true up h = absurd (false≢true h)
    lacks_before true false up h = sym (up refl)
    lacks_before false y up h = refl

pub fewer_held : (n : ℕ) (f g : Function) → HasMore n g f → held (λ v. g (value_of v)) (all_vectors n) < held (λ v. f (value_of v)) (all_vectors n)
fewer_held n f g more =
    holds_fewer (λ v. f (value_of v)) (λ v. g (value_of v)) (all_vectors n)
    (λ v c h. more.part (value_of v) h)
    (λ same.
    let e = map-agree (λ v. g (value_of v)) (λ v. f (value_of v)) (all_vectors n) more.vector same (all_vectors_has n more.vector more.long) in
    false≢true (sym more.lacks ∙ e ∙ more.has))

pub grow_less : (scene : Scene) (outcomes : Outcomes) (enc now : Encoded) (old new : List SetId) (before : Function) (n k : ℕ) (grew gained : Bool) → k ≡ fluent_count scene.start.task → grew ≡ true
    → HasGrown scene outcomes enc old before → HasGained scene outcomes now new before n gained
    → held (λ v. not (set_at now.sets new 4 (value_of v))) (all_vectors k) + cond gained 1 0 < held (λ v. not (set_at enc.sets old 4 (value_of v))) (all_vectors k) + cond grew 1 0
grow_less scene outcomes enc now old new before n k grew gained same_count grows_on has after =
    subst (λ b. held (λ v. not (set_at now.sets new 4 (value_of v))) (all_vectors k) + cond gained 1 0 < held (λ v. not (set_at enc.sets old 4 (value_of v))) (all_vectors k) + cond b 1 0) (sym grows_on)
    (by_gain gained after.more after.same)
  where
    by_gain : (b : Bool) → (b ≡ true → HasMore (fluent_count scene.start.task) before after.set) → (b ≡ false → (after.set ≡ before) × GainsNone outcomes scene after.set n)
        → held (λ v. not (set_at now.sets new 4 (value_of v))) (all_vectors k) + cond b 1 0 < held (λ v. not (set_at enc.sets old 4 (value_of v))) (all_vectors k) + 1
    by_gain true m s =
        let l : held (λ v. not (set_at now.sets new 4 (value_of v))) (all_vectors k) < held (λ v. not (set_at enc.sets old 4 (value_of v))) (all_vectors k) =
        fewer_lacks k (set_at enc.sets old 4) (set_at now.sets new 4)
        (subst (λ j. HasMore j (set_at enc.sets old 4) (set_at now.sets new 4)) (sym same_count)
        (subst (λ (f : Function). HasMore (fluent_count scene.start.task) f (set_at now.sets new 4)) (sym has.good) (subst (HasMore (fluent_count scene.start.task) before) (sym after.has.good) (m refl)))) in
        omega arith
    by_gain false m s =
        let e : held (λ v. not (set_at now.sets new 4 (value_of v))) (all_vectors k) ≡ held (λ v. not (set_at enc.sets old 4 (value_of v))) (all_vectors k) =
        ap (λ (f : Function). held (λ v. not (f (value_of v))) (all_vectors k)) (after.has.good ∙ (s refl).0 ∙ sym has.good) in
        omega arith
