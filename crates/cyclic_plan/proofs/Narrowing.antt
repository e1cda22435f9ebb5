-- A round that begins with the pairs of the one before.
use Rattle.std.proofs.Common.{◌≡◌, ◌≢◌, ℕ, zero, suc, ◌+◌, ◌<◌, ◌^◌, Bool, true, false, not, ◌&&◌, ◌||◌, List, refl, sym, ap, subst, ◌∙◌, ⊎_elim, arith}
use Rattle.std.specs.Prelude.{⊤}
use Rattle.std.proofs.lemmas.Bool.{and_from, and_parts, cases_eq, or_cases, or_left, true≢false}
use Rattle.dd_nodes.specs.Subfunctions.{Function}
use Rattle.dd_ops.specs.Operations.{and_of}
use Rattle.dd_sets.specs.LiveSets.{nothing}
use Rattle.dd_sets.specs.declared.slots.SetId.{SetId}
use Rattle.encode_task.specs.Slots.{Encoded}
use Rattle.task_core.specs.Cubes.{SetOfVectors}
use Rattle.task_core.specs.Systems.{IsVector, IsSystem, System}
use Rattle.task_core.specs.Tasks.{action_count, system_of}
use Rattle.task_core.specs.Vectors.{Vector, value_of}
use Rattle.task_core.proofs.TaskSystem.{is_system}
use Rattle.plan_theory.specs.Layers.{action_numbers, may_lead, must_lead}
use Rattle.plan_theory.specs.PairRounds.{IsLastRound, kept, progress, round}
use Rattle.plan_theory.specs.Pairs.{Pairs, is_goal, restricted}
use Rattle.plan_theory.proofs.Restricted.{outcome_of_pair, progress_connected, progress_step}
use Rattle.plan_theory.proofs.RoundSteps.{kept_more, round_shrinks}
use Rattle.list_laws.proofs.Elements.{Contains-range_with_len-below, list_any-witness}
use Rattle.preimage.proofs.Leads.{strong_agrees}
use Rattle.slot_board.proofs.BoardSlots.{depends}
use Rattle.slot_board.specs.Board.{Moved, Start, led, set_at}
use Rattle.slot_board.specs.declared.board.Outcomes.TheVariants as Outcomes
use Rattle.cyclic_plan.specs.Stages.{Agrees, HasNear, HasRounds, none_taken}
use Rattle.cyclic_plan.specs.Rounds.{HasDropped, HasMet, LosesNone}
use Rattle.cyclic_plan.proofs.Growth.{near_as}
use Rattle.list_laws.proofs.Booleans.{same_truth}
use Rattle.cyclic_plan.proofs.RoundsMade.{left_copied}
use Rattle.cyclic_plan.proofs.StageSteps.{here, round_still, still}

-- a round keeps, of the pairs of states that are left, those that don't lead out of these
pub kept_narrowed : (sys : System) (r : ℕ) (v : Vector) (a : ℕ) → kept sys (round sys (suc r)) v a ≡ (must_lead sys (round sys (suc r)) v a && (kept sys (round sys r) v a && round sys (suc r) v))
kept_narrowed sys r v a =
    let l : SetOfVectors = round sys (suc r) in
    let b : SetOfVectors = round sys r in
    same_truth (kept sys l v a) (must_lead sys l v a && (kept sys b v a && l v))
    (λ h.
    let first = and_parts (l v) (not (is_goal sys v) && must_lead sys l v a) h in
    let rest = and_parts (not (is_goal sys v)) (must_lead sys l v a) first.1 in
    and_from (must_lead sys l v a) (kept sys b v a && l v) rest.1
    (and_from (kept sys b v a) (l v) (kept_more sys (λ _. ⊤) (λ s x t d o. tt) l b (λ s d k. round_shrinks sys r s k) v a tt h) first.0))
    (λ h.
    let first = and_parts (must_lead sys l v a) (kept sys b v a && l v) h in
    let rest = and_parts (kept sys b v a) (l v) first.1 in
    let parts = and_parts (b v) (not (is_goal sys v) && must_lead sys b v a) rest.0 in
    let more = and_parts (not (is_goal sys v)) (must_lead sys b v a) parts.1 in
    and_from (l v) (not (is_goal sys v) && must_lead sys l v a) rest.1 (and_from (not (is_goal sys v)) (must_lead sys l v a) more.0 first.0))

and_none : (a b : Bool) → b ≡ false → (a && b) ≡ b
and_none true b e = refl
and_none false b e = sym e

-- where it loses no pair of a state that is left, it leaves the same states
module _ (sys : System) (ok : IsSystem sys) (r : ℕ) (none : (a : ℕ) → a < sys.actions → LosesNone sys r a) where
  pub stays : (k : ℕ) (v : Vector) → IsVector sys v → progress sys (kept sys (round sys r)) k v ≡ true → progress sys (kept sys (round sys (suc r))) k v ≡ true
  stays zero v is h = h
  stays (suc k) v is h =
      let before : Pairs = kept sys (round sys r) in
      let after : Pairs = kept sys (round sys (suc r)) in
      ⊎_elim (λ e. or_left (progress sys after k v) _ (stays k v is e))
      (λ e.
      let a = list_any-witness (may_lead (restricted sys before) (progress sys before k) v) (action_numbers sys) e in
      let t = list_any-witness (progress sys before k) ((restricted sys before).next v a.0) a.2 in
      let o = outcome_of_pair sys before v a.0 t.0 t.1 in
      let pair : after v a.0 ≡ true = none a.0 (Contains-range_with_len-below sys.actions a.0 a.1) v is ∙ and_from (before v a.0) (round sys (suc r) v) o.0 (progress_connected sys before ok (suc k) v is h) in
      progress_step sys after ok k v a.0 t.0 pair o.1 (stays k t.0 (ok.next v a.0 t.0 o.1).vector t.2))
      (or_cases (progress sys before k v) _ h)

  pub none_lost : IsLastRound sys (suc r)
  none_lost v is =
      same_truth (round sys (suc (suc r)) v) (round sys (suc r) v) (λ h. round_shrinks sys (suc r) v h)
      (λ h. progress_connected sys (kept sys (round sys (suc r))) ok (2 ^ sys.fluents) v is (stays (2 ^ sys.fluents) v is h))

-- the states that the last round left in the place of those before
pub dropped_none : (start : Start) (enc now : Encoded) (old new : List SetId) (r : ℕ) → HasRounds start enc old r
    → Moved start enc.sets old now new 1 (set_at enc.sets old 3) → HasDropped start now new r 0
dropped_none start enc now old new r h m = record {
  round = left_copied start enc now old new (round (system_of start.task) r) none_taken (round (system_of start.task) (suc r)) h (suc r, refl) m;
  holds_near = still start enc now old new 1 _ m h.round.places 3 _ (omega arith) (λ e. absurd (omega arith)) h.holds_near;
  holds_kept = λ a below within. absurd (omega arith);
  holds_before = λ a low within. still start enc now old new 1 _ m h.round.places (7 + a) _ (omega arith) (λ e. absurd (omega arith)) (h.holds_pairs a within);
}

-- the pairs of states that are left
pub pairs_met : (start : Start) (enc now : Encoded) (old new : List SetId) (r a : ℕ) → a < action_count start.task → HasDropped start enc old r a
    → Moved start enc.sets old now new 6 (and_of (set_at enc.sets old (7 + a)) (set_at enc.sets old 1)) → HasMet start now new r a
pairs_met start enc now old new r a l h m =
    let sys = system_of start.task in
    let places = h.round.places in
    record {
      round = round_still start enc now old new 6 _ m places _ none_taken h.round (λ e. absurd (omega arith)) (λ e. absurd (omega arith)) (omega arith);
      holds_near = still start enc now old new 6 _ m places 3 _ (omega arith) (λ e. absurd (omega arith)) h.holds_near;
      holds_kept = λ b below within. still start enc now old new 6 _ m places (7 + b) _ (omega arith) (λ e. absurd (omega arith)) (h.holds_kept b below within);
      holds_met = here start enc now old new 6 _ m places (λ v. kept sys (round sys r) v a && round sys (suc r) v)
          (λ v is.
          ap (λ x. x && set_at enc.sets old 1 (value_of v)) (h.holds_before a (omega arith) l v is)
          ∙ ap (λ x. kept sys (round sys r) v a && x) (h.round.holds_left v is));
      holds_before = λ b above within. still start enc now old new 6 _ m places (7 + b) _ (omega arith) (λ e. absurd (omega arith)) (h.holds_before b above within);
    }

-- there are none
module _ (start : Start) (enc now : Encoded) (old new : List SetId) (r a : ℕ) (l : a < action_count start.task) (h : HasMet start enc old r a) (none : set_at enc.sets old 6 ≡ nothing) where
  none_met : (v : Vector) → IsVector (system_of start.task) v → (kept (system_of start.task) (round (system_of start.task) r) v a && round (system_of start.task) (suc r) v) ≡ false
  none_met v is = sym (h.holds_met v is) ∙ ap (λ (f : Function). f (value_of v)) none

  pub none_loses : LosesNone (system_of start.task) r a
  none_loses v is =
      let sys = system_of start.task in
      kept_narrowed sys r v a ∙ and_none (must_lead sys (round sys (suc r)) v a) (kept sys (round sys r) v a && round sys (suc r) v) (none_met v is)

  pub none_dropped : Moved start enc.sets old now new (7 + a) (set_at enc.sets old 6) → HasDropped start now new r (a + 1)
  none_dropped m =
      let sys = system_of start.task in
      let places = h.round.places in
      record {
        round = round_still start enc now old new (7 + a) _ m places _ none_taken h.round (λ e. absurd (omega arith)) (λ e. absurd (omega arith)) (omega arith);
        holds_near = still start enc now old new (7 + a) _ m places 3 _ (omega arith) (λ e. absurd (omega arith)) h.holds_near;
        holds_kept = λ b below within.
            ⊎_elim
            (λ (same : b ≡ a).
            subst (λ k. Agrees start (set_at now.sets new (7 + k)) (λ v. kept sys (round sys (suc r)) v k)) (sym same)
            (here start enc now old new (7 + a) _ m places (λ v. kept sys (round sys (suc r)) v a) (λ v is. h.holds_met v is ∙ sym (none_loses v is))))
            (λ (differs : b ≢ a). still start enc now old new (7 + a) _ m places (7 + b) _ (omega arith) (λ e. differs (omega arith)) (h.holds_kept b (let d = differs in omega arith) within))
            (cases_eq b a);
        holds_before = λ b above within. still start enc now old new (7 + a) _ m places (7 + b) _ (omega arith) (λ e. absurd (omega arith)) (h.holds_before b (omega arith) within);
      }

-- there are some, of which those that don't lead out
pub kept_agree : (start : Start) (enc mid : Encoded) (old half : List SetId) (r a : ℕ) → HasMet start enc old r a → Moved start enc.sets old mid half 5 (led Outcomes.Every start.task a (set_at enc.sets old 1))
    → Agrees start (and_of (set_at mid.sets half 5) (set_at mid.sets half 6)) (λ v. kept (system_of start.task) (round (system_of start.task) (suc r)) v a)
kept_agree start enc mid old half r a h first v is =
    let sys = system_of start.task in
    let left : SetOfVectors = round sys (suc r) in
    let places : start.places ≡ 7 + action_count start.task + action_count start.task = h.round.places in
    ap (λ x. x && set_at mid.sets half 6 (value_of v))
    (here start enc mid old half 5 _ first places (λ w. must_lead sys left w a) (strong_agrees start.task a (set_at enc.sets old 1) left (depends start enc old h.round.at h.round.sound 1) h.round.holds_left) v is)
    ∙ ap (λ x. must_lead sys left v a && x) (still start enc mid old half 5 _ first places 6 _ (omega arith) (λ e. absurd (omega arith)) h.holds_met v is)
    ∙ sym (kept_narrowed sys r v a)

-- these stay
module _ (start : Start) (enc mid met now : Encoded) (old half third new : List SetId) (r a : ℕ) (l : a < action_count start.task) (h : HasMet start enc old r a)
    (first : Moved start enc.sets old mid half 5 (led Outcomes.Every start.task a (set_at enc.sets old 1)))
    (second : Moved start mid.sets half met third 5 (and_of (set_at mid.sets half 5) (set_at mid.sets half 6)))
    (last : Moved start met.sets third now new (7 + a) (set_at met.sets third 5)) where
  places : start.places ≡ 7 + action_count start.task + action_count start.task
  places = h.round.places

  met_kept : Agrees start (set_at met.sets third 5) (λ v. kept (system_of start.task) (round (system_of start.task) (suc r)) v a)
  met_kept = here start mid met half third 5 _ second places _ (kept_agree start enc mid old half r a h first)

  through : (k : ℕ) (set : SetOfVectors) → k < 7 + action_count start.task + action_count start.task → k ≢ 5 → k ≢ 7 + a → Agrees start (set_at enc.sets old k) set → Agrees start (set_at now.sets new k) set
  through k set within differs apart holds =
      still start met now third new (7 + a) _ last places k set within apart
      (still start mid met half third 5 _ second places k set within differs (still start enc mid old half 5 _ first places k set within differs holds))

  pub pairs_dropped : HasDropped start now new r (a + 1)
  pairs_dropped =
      let sys = system_of start.task in
      record {
        round = record {
          at = last.at;
          fit = h.round.fit;
          places = places;
          sound = last.sound;
          is_left = h.round.is_left;
          holds_goal = through 0 _ (omega arith) (λ e. absurd (omega arith)) (λ e. absurd (omega arith)) h.round.holds_goal;
          holds_left = through 1 _ (omega arith) (λ e. absurd (omega arith)) (λ e. absurd (omega arith)) h.round.holds_left;
          holds_taken = λ k below. through (7 + action_count start.task + k) (none_taken k) (omega arith) (λ e. absurd (omega arith)) (λ e. absurd (omega arith)) (h.round.holds_taken k below);
        };
        holds_near = through 3 _ (omega arith) (λ e. absurd (omega arith)) (λ e. absurd (omega arith)) h.holds_near;
        holds_kept = λ b below within.
            ⊎_elim
            (λ (same : b ≡ a). subst (λ k. Agrees start (set_at now.sets new (7 + k)) (λ v. kept sys (round sys (suc r)) v k)) (sym same) (here start met now third new (7 + a) _ last places _ met_kept))
            (λ (differs : b ≢ a). through (7 + b) _ (omega arith) (λ e. absurd (omega arith)) (λ e. differs (omega arith)) (h.holds_kept b (let d = differs in omega arith) within))
            (cases_eq b a);
        holds_before = λ b above within. through (7 + b) _ (omega arith) (λ e. absurd (omega arith)) (λ e. absurd (omega arith)) (h.holds_before b (omega arith) within);
      }

  pub same_loses_none : set_at met.sets third 5 ≡ set_at met.sets third 6 → LosesNone (system_of start.task) r a
  same_loses_none same v is =
      sym (met_kept v is) ∙ ap (λ (f : Function). f (value_of v)) same
      ∙ still start mid met half third 5 _ second places 6 _ (omega arith) (λ e. absurd (omega arith)) (still start enc mid old half 5 _ first places 6 _ (omega arith) (λ e. absurd (omega arith)) h.holds_met) v is

-- the round after them
pub round_of_kept : (start : Start) (now : Encoded) (slots : List SetId) (r : ℕ) → HasDropped start now slots r (action_count start.task) → HasNear start now slots (round (system_of start.task) (suc r)) none_taken (round (system_of start.task) (suc r))
round_of_kept start now slots r h = record {
  round = h.round;
  holds_pairs = λ a within. h.holds_kept a within within;
  holds_near = h.holds_near;
}

pub round_kept : (start : Start) (now : Encoded) (slots : List SetId) (r : ℕ) → HasDropped start now slots r (action_count start.task) → ((a : ℕ) → a < action_count start.task → LosesNone (system_of start.task) r a) → HasRounds start now slots (suc r)
round_kept start now slots r h none =
    near_as start now slots (round (system_of start.task) (suc r)) none_taken none_taken _ _ (round_of_kept start now slots r h) (λ a v l is. refl)
    (λ v is. sym (none_lost (system_of start.task) (is_system start.task) r none v is))

-- what the first n actions don't lose, and one more doesn't
pub loses_none_more : (sys : System) (r n : ℕ) (loses lost both : Bool) → both ≡ (loses || lost) → (loses ≡ false → LosesNone sys r n) → (lost ≡ false → (a : ℕ) → a < n → LosesNone sys r a) → both ≡ false → (a : ℕ) → a < n + 1 → LosesNone sys r a
loses_none_more sys r n true lost both e one all none a below = absurd (true≢false (sym e ∙ none))
loses_none_more sys r n false lost both e one all none a below =
    ⊎_elim (λ (same : a ≡ n). subst (LosesNone sys r) (sym same) (one refl))
    (λ (differs : a ≢ n). all (sym e ∙ none) a (let d = differs in omega arith))
    (cases_eq a n)
