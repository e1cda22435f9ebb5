-- The sets of states from which a set is met in a guard grow and stand still; so the guarded set is
-- the least one that is closed, each of its states has a rank and an action that leads one step
-- nearer, and each in which the set isn't met yet is one of the guard.
use Rattle.std.proofs.Common.{◌≡◌, ℕ, zero, suc, ◌+◌, ◌<◌, ◌≤◌, ◌^◌, Bool, true, false, None, Some, sym, ◌∙◌, ap, arith, ⊎_elim}
use Rattle.std.specs.Prelude.{◌&&◌, not}
use Rattle.std.specs.List.{find, range_with_len}
use Rattle.std.specs.Option.{option_and_then}
use Rattle.std.proofs.lemmas.Bool.{and_from, and_parts, cases_lt, false_from_ne_true, not-true, or_cases, or_left, or_parts, or_right, true≢false}
use Rattle.task_core.specs.Cubes.{SetOfVectors}
use Rattle.task_core.specs.Vectors.{Vector}
use Rattle.task_core.specs.Systems.{System, IsVector, IsSystem}
use Rattle.plan_theory.specs.Layers.{action_numbers, must_lead}
use Rattle.list_laws.proofs.Elements.{Contains-range_with_len, Contains-range_with_len-below, find-None, find-Some, find-found, list_any-from, list_any-none}
use Rattle.plan_theory.specs.Safe.{some_must_lead}
use Rattle.plan_theory.specs.GuardedSets.{IsGuardedSet, IsLastGuarded, IsLeastGuardedSet, action_at_guarded_rank, guarded_action, guarded_near, guarded_rank, guarded_set}
use Rattle.plan_theory.proofs.Leading.{find-least, leads_more, some_leads_more}
use Rattle.plan_theory.proofs.Shrinking.{stands_still}
use Rattle.plan_theory.proofs.Steps.{along}
use Rattle.list_laws.proofs.Booleans.{same_truth, same_not}

module _ (sys : System) (guard met : SetOfVectors) where
  pub near-grows : (v : Vector) (k m : ℕ) → k ≤ m → guarded_near sys guard met k v ≡ true → guarded_near sys guard met m v ≡ true
  near-grows v k m l h = along (λ n. guarded_near sys guard met n v ≡ true) k h (λ n from near. or_left (guarded_near sys guard met n v) _ near) m l

  outside_before : (k : ℕ) (v : Vector) → not (guarded_near sys guard met (suc k) v) ≡ true → not (guarded_near sys guard met k v) ≡ true
  outside_before k v h = ap not (or_parts (guarded_near sys guard met k v) (guard v && some_must_lead sys (guarded_near sys guard met k) v) (not-true (guarded_near sys guard met (suc k) v) h)).0

  pub near-ends : (j : ℕ) × (j ≤ 2 ^ sys.fluents) × IsLastGuarded sys guard met j
  near-ends =
      let last = stands_still sys.fluents (λ k v. not (guarded_near sys guard met k v)) outside_before in
      (last.0, last.1, λ v is. same_not (guarded_near sys guard met (suc last.0) v) (guarded_near sys guard met last.0 v) (last.2 v is))

  module _ (ok : IsSystem sys) where
    abbrev Stays : ℕ → Type 0
    Stays k = (v : Vector) → IsVector sys v → guarded_near sys guard met (suc k) v ≡ true → guarded_near sys guard met k v ≡ true

    stays_on : (k : ℕ) → Stays k → Stays (suc k)
    stays_on k stays v is h =
        ⊎_elim (λ e. e)
        (λ e.
        let both = and_parts (guard v) (some_must_lead sys (guarded_near sys guard met (suc k)) v) e in
        or_right (guarded_near sys guard met k v) _
        (and_from (guard v) (some_must_lead sys (guarded_near sys guard met k) v) both.0
        (some_leads_more sys (guarded_near sys guard met (suc k)) (guarded_near sys guard met k) v (λ a t o inside. stays t (ok.next v a t o).vector inside) both.1)))
        (or_cases (guarded_near sys guard met (suc k) v) _ h)

    -- where the states of k steps are those of one more, they are closed
    near-closed : (k : ℕ) → Stays k → IsGuardedSet sys guard met (guarded_near sys guard met k)
    near-closed k stays = record {
      holds_met = λ v is h. near-grows v 0 k (omega arith) h;
      closed = λ v is inside h. stays v is (or_right (guarded_near sys guard met k v) _ (and_from (guard v) (some_must_lead sys (guarded_near sys guard met k) v) inside h));
    }

    -- what is closed has the states of all numbers of steps
    pub near-within : (other : SetOfVectors) → IsGuardedSet sys guard met other → (k : ℕ) (v : Vector) → IsVector sys v → guarded_near sys guard met k v ≡ true → other v ≡ true
    near-within other stage zero v is h = stage.holds_met v is h
    near-within other stage (suc k) v is h =
        ⊎_elim (λ e. near-within other stage k v is e)
        (λ e.
        let both = and_parts (guard v) (some_must_lead sys (guarded_near sys guard met k) v) e in
        stage.closed v is both.0 (some_leads_more sys (guarded_near sys guard met k) other v (λ a t o inside. near-within other stage k t (ok.next v a t o).vector inside) both.1))
        (or_cases (guarded_near sys guard met k v) _ h)

    pub guarded_set-least : IsLeastGuardedSet sys guard met (guarded_set sys guard met)
    guarded_set-least =
        let last = near-ends in
        let stays = along Stays last.0 (λ v is h. sym (last.2 v is) ∙ h) (λ k from. stays_on k) (2 ^ sys.fluents) last.1 in
        record {
          guarded = near-closed (2 ^ sys.fluents) stays;
          least = λ other stage v is h. near-within other stage (2 ^ sys.fluents) v is h;
        }

    pub in_guarded_set : (k : ℕ) (v : Vector) → IsVector sys v → guarded_near sys guard met k v ≡ true → guarded_set sys guard met v ≡ true
    in_guarded_set = near-within (guarded_set sys guard met) guarded_set-least.guarded

    pub last_near : (k : ℕ) → IsLastGuarded sys guard met k → (v : Vector) → IsVector sys v → guarded_set sys guard met v ≡ guarded_near sys guard met k v
    last_near k last v is =
        same_truth (guarded_set sys guard met v) (guarded_near sys guard met k v)
        (λ h. near-within (guarded_near sys guard met k) (near-closed k (λ w long inside. sym (last w long) ∙ inside)) (2 ^ sys.fluents) v is h)
        (λ h. in_guarded_set k v is h)

  -- a state of the stage set has a rank: the least number of steps that has it
  record IsRanked (v : Vector) (r : ℕ) : Type 0 where
    rank : guarded_rank sys guard met v ≡ Some r
    inside : guarded_near sys guard met r v ≡ true
    least : (m : ℕ) → guarded_near sys guard met m v ≡ true → r ≤ m

  ranked : (v : Vector) → guarded_set sys guard met v ≡ true → (r : ℕ) × IsRanked v r
  ranked v h =
      let K = 2 ^ sys.fluents in
      let test : ℕ → Bool = λ k. guarded_near sys guard met k v in
      let some = list_any-from test (range_with_len 0 (K + 1)) K (Contains-range_with_len (K + 1) K (omega arith)) h in
      let r = find-Some test (range_with_len 0 (K + 1)) some in (
        r.0,
        record {
          rank = r.1;
          inside = (find-found test (range_with_len 0 (K + 1)) r.0 r.1).1;
          least = λ m e. find-least test 0 (K + 1) r.0 m r.1 (omega arith) e;
        },
      )

  action_of : (v : Vector) (r : ℕ) → IsRanked v r → guarded_action sys guard met v ≡ action_at_guarded_rank sys guard met v r
  action_of v r is = ap (option_and_then (action_at_guarded_rank sys guard met v)) is.rank

  -- where the set is met, and where it can't be, there is no action
  pub no_action-met : (v : Vector) → met v ≡ true → guarded_action sys guard met v ≡ None
  no_action-met v h =
      let r = ranked v (near-grows v 0 (2 ^ sys.fluents) (omega arith) h) in
      let none = r.1.least 0 h in
      let first : r.0 ≡ 0 = omega arith in
      action_of v r.0 r.1 ∙ ap (action_at_guarded_rank sys guard met v) first

  pub no_action-outside : (v : Vector) → guarded_set sys guard met v ≡ false → guarded_action sys guard met v ≡ None
  no_action-outside v h =
      let K = 2 ^ sys.fluents in
      let test : ℕ → Bool = λ k. guarded_near sys guard met k v in
      ap (option_and_then (action_at_guarded_rank sys guard met v))
      (find-None test (range_with_len 0 (K + 1))
      (list_any-none test (range_with_len 0 (K + 1)) (λ k c.
      let l : k < K + 1 = Contains-range_with_len-below (K + 1) k c in
      false_from_ne_true (test k) (λ e. true≢false (sym (near-grows v k K (omega arith) e) ∙ h)))))

  -- the action of a state that one step more has
  pub action-next : IsSystem sys → (k : ℕ) (v : Vector) → IsVector sys v → guarded_near sys guard met (suc k) v ≡ true → guarded_near sys guard met k v ≡ false → guarded_action sys guard met v ≡ find (must_lead sys (guarded_near sys guard met k) v) (action_numbers sys)
  action-next ok k v is inside outside =
      let r = ranked v (in_guarded_set ok (suc k) v is inside) in
      let least = r.1.least (suc k) inside in
      let same : r.0 ≡ suc k =
      ⊎_elim
      (λ (l : r.0 < suc k). absurd (true≢false (sym (near-grows v r.0 k (omega arith) r.1.inside) ∙ outside)))
      (λ (l : suc k ≤ r.0). omega arith)
      (cases_lt r.0 (suc k)) in
      action_of v r.0 r.1 ∙ ap (action_at_guarded_rank sys guard met v) same

  -- a state in which the set isn't met yet is one of the guard
  pub guard_holds : (v : Vector) (k : ℕ) → guarded_near sys guard met k v ≡ true → met v ≡ false → guard v ≡ true
  guard_holds v zero h unmet = absurd (true≢false (sym h ∙ unmet))
  guard_holds v (suc k) h unmet =
      ⊎_elim (λ e. guard_holds v k e unmet)
      (λ e. (and_parts (guard v) (some_must_lead sys (guarded_near sys guard met k) v) e).0)
      (or_cases (guarded_near sys guard met k v) _ h)

  -- the action of a state in which the set isn't met yet leads one step nearer, whatever the number
  -- of steps
  pub record IsNearer (v : Vector) (a : ℕ) : Type 0 where
    pub chosen : guarded_action sys guard met v ≡ Some a
    pub leads : (m : ℕ) → guarded_near sys guard met (suc m) v ≡ true → must_lead sys (guarded_near sys guard met m) v a ≡ true

  nearer_at : (v : Vector) → met v ≡ false → (r : ℕ) → IsRanked v r → (a : ℕ) × IsNearer v a
  nearer_at v unmet zero is = absurd (true≢false (sym is.inside ∙ unmet))
  nearer_at v unmet (suc k) is =
      let some : some_must_lead sys (guarded_near sys guard met k) v ≡ true = ⊎_elim (λ e. let l = is.least k e in absurd (omega arith)) (λ e. (and_parts (guard v) (some_must_lead sys (guarded_near sys guard met k) v) e).1) (or_cases (guarded_near sys guard met k v) _ is.inside) in
      let first = find-Some (must_lead sys (guarded_near sys guard met k) v) (action_numbers sys) some in (
        first.0,
        record {
          chosen = action_of v (suc k) is ∙ first.1;
          leads = λ m e.
              let l = is.least (suc m) e in
              leads_more sys (guarded_near sys guard met k) (guarded_near sys guard met m) v first.0 (λ t o. near-grows t k m (omega arith)) (find-found (must_lead sys (guarded_near sys guard met k) v) (action_numbers sys) first.0 first.1).1;
        },
      )

  pub guarded_acts : (v : Vector) → guarded_set sys guard met v ≡ true → met v ≡ false → (a : ℕ) × IsNearer v a
  guarded_acts v h unmet = let r = ranked v h in nearer_at v unmet r.0 r.1
