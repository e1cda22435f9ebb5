-- A round that loses no pair of a state that is left makes the steps of the one before.
use Rattle.std.proofs.Common.{◌≡◌, ℕ, suc, ◌+◌, ◌<◌, ◌≤◌, ◌^◌, true, ◌&&◌, ◌||◌, List, [], ◌∷◌, sym, ap, ◌∙◌, arith}
use Rattle.std.specs.Prelude.{⊤}
use Rattle.std.specs.List.{list_any, range_with_len}
use Rattle.std.proofs.lemmas.Bool.{and_from, and_parts}
use Rattle.task_core.specs.Cubes.{SetOfVectors}
use Rattle.task_core.specs.Systems.{IsVector}
use Rattle.task_core.specs.Tasks.{action_count, system_of}
use Rattle.task_core.specs.Vectors.{Vector}
use Rattle.task_core.proofs.TaskSystem.{is_system}
use Rattle.plan_theory.specs.Layers.{may_lead}
use Rattle.plan_theory.specs.PairRounds.{kept, progress, round}
use Rattle.plan_theory.specs.Pairs.{Pairs, restricted}
use Rattle.plan_theory.proofs.Restricted.{more_pairs, progress_connected, progress_step}
use Rattle.plan_theory.proofs.RoundSteps.{kept_more, round_shrinks}
use Rattle.list_laws.proofs.Elements.{Contains-range_with_len-below, list_any-agree, list_any-witness}
use Rattle.slot_board.specs.Board.{Start}
use Rattle.cyclic_plan.specs.Rounds.{LosesNone}
use Rattle.cyclic_plan.specs.Steps.{AddsNothing, AreAll, AreStepsFrom, near_at, next_at}
use Rattle.slot_board.specs.declared.steps.Step.{Step}
use Rattle.slot_board.specs.declared.steps.Step.TheVariants.{Advance, Grow}
use Rattle.cyclic_plan.proofs.Narrowing.{stays}
use Rattle.list_laws.proofs.Booleans.{same_truth}
use Rattle.cyclic_plan.proofs.StageSteps.{may_restricted}

module _ (start : Start) (r : ℕ) (none : (a : ℕ) → a < action_count start.task → LosesNone (system_of start.task) r a) where
  abbrev before : Pairs
  before = kept (system_of start.task) (round (system_of start.task) r)

  abbrev after : Pairs
  after = kept (system_of start.task) (round (system_of start.task) (suc r))

  fewer : (v : Vector) (a : ℕ) → after v a ≡ true → before v a ≡ true
  fewer v a pair =
      let sys = system_of start.task in
      kept_more sys (λ _. ⊤) (λ s x t d o. tt) (round sys (suc r)) (round sys r) (λ s d k. round_shrinks sys r s k) v a tt pair

  near_same : (k : ℕ) (v : Vector) → IsVector (system_of start.task) v → near_at start (round (system_of start.task) r) k v ≡ near_at start (round (system_of start.task) (suc r)) k v
  near_same k v is =
      let sys = system_of start.task in
      same_truth (progress sys before k v) (progress sys after k v) (stays sys (is_system start.task) r none k v is)
      (more_pairs sys (λ _. ⊤) after before (λ s a d pair. fewer s a pair) (λ s a t d o. tt) k v tt)

  -- a state with a pair that leads into the near ones is left
  left_there : (k : ℕ) (v : Vector) (a : ℕ) → a < action_count start.task → IsVector (system_of start.task) v → may_lead (system_of start.task) (progress (system_of start.task) before k) v a ≡ true → before v a ≡ true → after v a ≡ true
  left_there k v a within is lead pair =
      let sys = system_of start.task in
      let ok = is_system start.task in
      let t = list_any-witness (progress sys before k) (sys.next v a) lead in
      let left : round sys (suc r) v ≡ true = progress_connected sys before ok (suc k) v is (progress_step sys before ok k v a t.0 pair t.1 t.2) in
      none a within v is ∙ and_from (before v a) (round sys (suc r) v) pair left

  lead_same : (k : ℕ) (v : Vector) (a : ℕ) → a < action_count start.task → IsVector (system_of start.task) v
      → may_lead (restricted (system_of start.task) before) (near_at start (round (system_of start.task) r) k) v a ≡ may_lead (restricted (system_of start.task) after) (near_at start (round (system_of start.task) (suc r)) k) v a
  lead_same k v a within is =
      let sys = system_of start.task in
      let ok = is_system start.task in
      let p : SetOfVectors = near_at start (round sys r) k in
      let q : SetOfVectors = near_at start (round sys (suc r)) k in
      let alike : may_lead sys p v a ≡ may_lead sys q v a = list_any-agree p q (sys.next v a) (λ t o. near_same k t (ok.next v a t o).vector) in
      may_restricted sys before p v a
      ∙ same_truth (may_lead sys p v a && before v a) (may_lead sys q v a && after v a)
      (λ h. let parts = and_parts (may_lead sys p v a) (before v a) h in and_from (may_lead sys q v a) (after v a) (sym alike ∙ parts.0) (left_there k v a within is parts.0 parts.1))
      (λ h. let parts = and_parts (may_lead sys q v a) (after v a) h in and_from (may_lead sys p v a) (before v a) (alike ∙ parts.0) (fewer v a parts.1))
      ∙ sym (may_restricted sys after q v a)

  next_same : (k n : ℕ) → n ≤ action_count start.task → (v : Vector) → IsVector (system_of start.task) v → next_at start (round (system_of start.task) r) k n v ≡ next_at start (round (system_of start.task) (suc r)) k n v
  next_same k n few v is =
      let sys = system_of start.task in
      let p : SetOfVectors = near_at start (round sys r) k in
      let q : SetOfVectors = near_at start (round sys (suc r)) k in
      ap (λ x. x || list_any (may_lead (restricted sys before) p v) (range_with_len 0 n)) (near_same k v is)
      ∙ ap (λ x. q v || x) (list_any-agree (may_lead (restricted sys before) p v) (may_lead (restricted sys after) q v) (range_with_len 0 n) (λ a c. lead_same k v a (let l = Contains-range_with_len-below n a c in omega arith) is))

  adds_on : (k a : ℕ) → a < action_count start.task → AddsNothing start (round (system_of start.task) r) k a → AddsNothing start (round (system_of start.task) (suc r)) k a
  adds_on k a within adds v is hit = sym (next_same k a (omega arith) v is) ∙ adds v is (lead_same k v a within is ∙ hit)

  all_on : (k : ℕ) → AreAll start (round (system_of start.task) r) k → AreAll start (round (system_of start.task) (suc r)) k
  all_on k all v is = let sys = system_of start.task in sym (near_same k v is) ∙ all v is ∙ near_same (2 ^ sys.fluents) v is

  pub follows_on : (k n : ℕ) (steps : List Step) → AreStepsFrom start (round (system_of start.task) r) k n steps → AreStepsFrom start (round (system_of start.task) (suc r)) k n steps
  follows_on k n [] f = (f.0, all_on k f.1)
  follows_on k n (Grow a ∷ rest) f = (f.0, f.1, (λ b low high. adds_on k b (let l = f.1 in omega arith) (f.2 b low high)), follows_on k (a.0 + 1) rest f.3)
  follows_on k n (Advance ∷ rest) f = (f.0, (λ b low high. adds_on k b high (f.1 b low high)), follows_on (suc k) 0 rest f.2)
