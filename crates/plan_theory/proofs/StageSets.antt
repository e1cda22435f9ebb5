-- The sets of states near a set grow and stand still; so the stage set is the least one that is
-- closed, and each of its states has a rank and an action that leads one step nearer.
use Rattle.std.proofs.Common.{◌≡◌, ℕ, zero, suc, ◌+◌, ◌<◌, ◌≤◌, ◌^◌, Bool, true, false, None, Some, sym, ◌∙◌, ap, arith, ⊎_elim}
use Rattle.std.specs.Prelude.{not}
use Rattle.std.specs.List.{find, range_with_len}
use Rattle.std.specs.Option.{option_and_then}
use Rattle.std.proofs.lemmas.Bool.{cases_lt, false_from_ne_true, not-true, or_cases, or_left, or_parts, or_right, true≢false}
use Rattle.task_core.specs.Cubes.{SetOfVectors}
use Rattle.task_core.specs.Vectors.{Vector}
use Rattle.task_core.specs.Systems.{System, IsVector, IsSystem}
use Rattle.plan_theory.specs.Layers.{action_numbers, must_lead}
use Rattle.list_laws.proofs.Elements.{Contains-range_with_len, Contains-range_with_len-below, find-None, find-Some, find-found, list_any-from, list_any-none}
use Rattle.plan_theory.specs.Safe.{some_must_lead}
use Rattle.plan_theory.specs.StageSets.{IsLastNear, IsLeastStageSet, IsStageSet, action_at_rank, near, stage_action, stage_rank, stage_set}
use Rattle.plan_theory.proofs.Leading.{find-least, some_leads_more}
use Rattle.plan_theory.proofs.Shrinking.{stands_still}
use Rattle.plan_theory.proofs.Steps.{along}
use Rattle.list_laws.proofs.Booleans.{same_truth, same_not}

module _ (sys : System) (met : SetOfVectors) where
  pub near-grows : (v : Vector) (k m : ℕ) → k ≤ m → near sys met k v ≡ true → near sys met m v ≡ true
  near-grows v k m l h = along (λ n. near sys met n v ≡ true) k h (λ n from inside. or_left (near sys met n v) _ inside) m l

  outside_before : (k : ℕ) (v : Vector) → not (near sys met (suc k) v) ≡ true → not (near sys met k v) ≡ true
  outside_before k v h = ap not (or_parts (near sys met k v) (some_must_lead sys (near sys met k) v) (not-true (near sys met (suc k) v) h)).0

  pub near-ends : (j : ℕ) × (j ≤ 2 ^ sys.fluents) × IsLastNear sys met j
  near-ends =
      let last = stands_still sys.fluents (λ k v. not (near sys met k v)) outside_before in
      (last.0, last.1, λ v is. same_not (near sys met (suc last.0) v) (near sys met last.0 v) (last.2 v is))

  module _ (ok : IsSystem sys) where
    abbrev Stays : ℕ → Type 0
    Stays k = (v : Vector) → IsVector sys v → near sys met (suc k) v ≡ true → near sys met k v ≡ true

    stays_on : (k : ℕ) → Stays k → Stays (suc k)
    stays_on k stays v is h =
        ⊎_elim (λ e. e)
        (λ e. or_right (near sys met k v) _ (some_leads_more sys (near sys met (suc k)) (near sys met k) v (λ a t o inside. stays t (ok.next v a t o).vector inside) e))
        (or_cases (near sys met (suc k) v) _ h)

    -- where the states of k steps are those of one more, they are closed
    near-closed : (k : ℕ) → Stays k → IsStageSet sys met (near sys met k)
    near-closed k stays = record {
      holds_met = λ v is h. near-grows v 0 k (omega arith) h;
      closed = λ v is h. stays v is (or_right (near sys met k v) _ h);
    }

    -- what is closed has the states of all numbers of steps
    pub near-within : (other : SetOfVectors) → IsStageSet sys met other → (k : ℕ) (v : Vector) → IsVector sys v → near sys met k v ≡ true → other v ≡ true
    near-within other stage zero v is h = stage.holds_met v is h
    near-within other stage (suc k) v is h =
        ⊎_elim (λ e. near-within other stage k v is e)
        (λ e. stage.closed v is (some_leads_more sys (near sys met k) other v (λ a t o inside. near-within other stage k t (ok.next v a t o).vector inside) e))
        (or_cases (near sys met k v) _ h)

    pub stage_set-least : IsLeastStageSet sys met (stage_set sys met)
    stage_set-least =
        let last = near-ends in
        let stays = along Stays last.0 (λ v is h. sym (last.2 v is) ∙ h) (λ k from. stays_on k) (2 ^ sys.fluents) last.1 in
        record {
          stage = near-closed (2 ^ sys.fluents) stays;
          least = λ other stage v is h. near-within other stage (2 ^ sys.fluents) v is h;
        }

    pub in_stage_set : (k : ℕ) (v : Vector) → IsVector sys v → near sys met k v ≡ true → stage_set sys met v ≡ true
    in_stage_set = near-within (stage_set sys met) stage_set-least.stage

    pub last_near : (k : ℕ) → IsLastNear sys met k → (v : Vector) → IsVector sys v → stage_set sys met v ≡ near sys met k v
    last_near k last v is =
        same_truth (stage_set sys met v) (near sys met k v)
        (λ h. near-within (near sys met k) (near-closed k (λ w long inside. sym (last w long) ∙ inside)) (2 ^ sys.fluents) v is h)
        (λ h. in_stage_set k v is h)

  -- a state of the stage set has a rank: the least number of steps that has it
  record IsRanked (v : Vector) (r : ℕ) : Type 0 where
    rank : stage_rank sys met v ≡ Some r
    inside : near sys met r v ≡ true
    least : (m : ℕ) → near sys met m v ≡ true → r ≤ m

  ranked : (v : Vector) → stage_set sys met v ≡ true → (r : ℕ) × IsRanked v r
  ranked v h =
      let K = 2 ^ sys.fluents in
      let test : ℕ → Bool = λ k. near sys met k v in
      let some = list_any-from test (range_with_len 0 (K + 1)) K (Contains-range_with_len (K + 1) K (omega arith)) h in
      let r = find-Some test (range_with_len 0 (K + 1)) some in (
        r.0,
        record {
          rank = r.1;
          inside = (find-found test (range_with_len 0 (K + 1)) r.0 r.1).1;
          least = λ m e. find-least test 0 (K + 1) r.0 m r.1 (omega arith) e;
        },
      )

  action_of : (v : Vector) (r : ℕ) → IsRanked v r → stage_action sys met v ≡ action_at_rank sys met v r
  action_of v r is = ap (option_and_then (action_at_rank sys met v)) is.rank

  -- where the set is met, and where it can't be, there is no action
  pub no_action-met : (v : Vector) → met v ≡ true → stage_action sys met v ≡ None
  no_action-met v h =
      let r = ranked v (near-grows v 0 (2 ^ sys.fluents) (omega arith) h) in
      let none = r.1.least 0 h in
      let first : r.0 ≡ 0 = omega arith in
      action_of v r.0 r.1 ∙ ap (action_at_rank sys met v) first

  pub no_action-outside : (v : Vector) → stage_set sys met v ≡ false → stage_action sys met v ≡ None
  no_action-outside v h =
      let K = 2 ^ sys.fluents in
      let test : ℕ → Bool = λ k. near sys met k v in
      ap (option_and_then (action_at_rank sys met v))
      (find-None test (range_with_len 0 (K + 1))
      (list_any-none test (range_with_len 0 (K + 1)) (λ k c.
      let l : k < K + 1 = Contains-range_with_len-below (K + 1) k c in
      false_from_ne_true (test k) (λ e. true≢false (sym (near-grows v k K (omega arith) e) ∙ h)))))

  -- the action of a state that one step more has
  pub action-next : IsSystem sys → (k : ℕ) (v : Vector) → IsVector sys v → near sys met (suc k) v ≡ true → near sys met k v ≡ false → stage_action sys met v ≡ find (must_lead sys (near sys met k) v) (action_numbers sys)
  action-next ok k v is inside outside =
      let r = ranked v (in_stage_set ok (suc k) v is inside) in
      let least = r.1.least (suc k) inside in
      let same : r.0 ≡ suc k =
      ⊎_elim
      (λ (l : r.0 < suc k). absurd (true≢false (sym (near-grows v r.0 k (omega arith) r.1.inside) ∙ outside)))
      (λ (l : suc k ≤ r.0). omega arith)
      (cases_lt r.0 (suc k)) in
      action_of v r.0 r.1 ∙ ap (action_at_rank sys met v) same
