-- The safe rounds shrink and stand still; so the safe set is the largest set that can be kept.
use Rattle.std.proofs.Common.{◌≡◌, ℕ, zero, suc, ◌≤◌, ◌^◌, true, ◌∙◌, arith}
use Rattle.std.proofs.lemmas.Bool.{and_from, and_parts}
use Rattle.task_core.specs.Cubes.{SetOfVectors}
use Rattle.task_core.specs.Vectors.{Vector}
use Rattle.task_core.specs.Systems.{System, IsVector, IsSystem}
use Rattle.plan_theory.specs.Safe.{IsLargestSafeSet, IsLastSafeRound, IsSafeSet, safe_round, safe_set, some_must_lead}
use Rattle.plan_theory.proofs.Leading.{some_leads_more}
use Rattle.plan_theory.proofs.Shrinking.{stands_still}
use Rattle.plan_theory.proofs.Steps.{along}
use Rattle.list_laws.proofs.Booleans.{same_truth}

module _ (sys : System) (keep : SetOfVectors) where
  round_parts : (k : ℕ) (v : Vector) → safe_round sys keep (suc k) v ≡ true → (safe_round sys keep k v ≡ true) × (some_must_lead sys (safe_round sys keep k) v ≡ true)
  round_parts k v h = and_parts (safe_round sys keep k v) (some_must_lead sys (safe_round sys keep k) v) h

  pub rounds_shrink : (v : Vector) (k m : ℕ) → k ≤ m → safe_round sys keep m v ≡ true → safe_round sys keep k v ≡ true
  rounds_shrink v k m l = along (λ n. safe_round sys keep n v ≡ true → safe_round sys keep k v ≡ true) k (λ h. h) (λ n from before h. before (round_parts n v h).0) m l

  pub rounds_end : (j : ℕ) × (j ≤ 2 ^ sys.fluents) × IsLastSafeRound sys keep j
  rounds_end = stands_still sys.fluents (safe_round sys keep) (λ k v h. (round_parts k v h).0)

  module _ (ok : IsSystem sys) where
    abbrev Stays : ℕ → Type 0
    Stays k = (v : Vector) → IsVector sys v → safe_round sys keep k v ≡ true → safe_round sys keep (suc k) v ≡ true

    stays_on : (k : ℕ) → Stays k → Stays (suc k)
    stays_on k stays v is h =
        and_from (safe_round sys keep (suc k) v) (some_must_lead sys (safe_round sys keep (suc k)) v) h
        (some_leads_more sys (safe_round sys keep k) (safe_round sys keep (suc k)) v (λ a t o inside. stays t (ok.next v a t o).vector inside) (round_parts k v h).1)

    -- where a round is the next one, its states can be kept
    safe_round-safe : (k : ℕ) → Stays k → IsSafeSet sys keep (safe_round sys keep k)
    safe_round-safe k stays = record {
      inside = λ v is h. rounds_shrink v 0 k (omega arith) h;
      stays = λ v is h. (round_parts k v (stays v is h)).1;
    }

    -- what can be kept is in each round
    pub within_rounds : (other : SetOfVectors) → IsSafeSet sys keep other → (k : ℕ) (v : Vector) → IsVector sys v → other v ≡ true → safe_round sys keep k v ≡ true
    within_rounds other safe zero v is h = safe.inside v is h
    within_rounds other safe (suc k) v is h =
        and_from (safe_round sys keep k v) (some_must_lead sys (safe_round sys keep k) v) (within_rounds other safe k v is h)
        (some_leads_more sys other (safe_round sys keep k) v (λ a t o inside. within_rounds other safe k t (ok.next v a t o).vector inside) (safe.stays v is h))

    pub safe_set-largest : IsLargestSafeSet sys keep (safe_set sys keep)
    safe_set-largest =
        let last = rounds_end in
        let stays = along Stays last.0 (λ v is h. last.2 v is ∙ h) (λ k from. stays_on k) (2 ^ sys.fluents) last.1 in
        record {
          safe = safe_round-safe (2 ^ sys.fluents) stays;
          largest = λ other safe v is h. within_rounds other safe (2 ^ sys.fluents) v is h;
        }

    -- so a round that is the next one is the safe set
    pub last_round : (k : ℕ) → IsLastSafeRound sys keep k → (v : Vector) → IsVector sys v → safe_set sys keep v ≡ safe_round sys keep k v
    last_round k last v is =
        same_truth (safe_set sys keep v) (safe_round sys keep k v)
        (λ h. within_rounds (safe_set sys keep) safe_set-largest.safe k v is h)
        (λ h. within_rounds (safe_round sys keep k) (safe_round-safe k (λ w long inside. last w long ∙ inside)) (2 ^ sys.fluents) v is h)
