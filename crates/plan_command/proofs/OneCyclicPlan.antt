-- Two largest sets of pairs have the same pairs of states, and so the rules that are printed of
-- them are the same.
use Rattle.std.proofs.Common.{◌≡◌, ℕ, zero, suc, ◌+◌, ◌^◌, true, List, Option, map, refl, ap, ◌∙◌}
use Rattle.std.proofs.Math.Path.{fun_ext}
use Rattle.std.specs.List.{find, flat_map, range_with_len}
use Rattle.std.specs.Option.{option_and_then}
use Rattle.task_core.specs.Systems.{IsSystem, IsVector, System}
use Rattle.task_core.specs.Vectors.{Vector}
use Rattle.task_core.specs.declared.classes.Class.TheVariants.{Weak}
use Rattle.plan_rules.specs.Rules.{PlanRule}
use Rattle.plan_theory.specs.Layers.{action_numbers, may_lead, rank_within}
use Rattle.plan_theory.specs.LayerPlans.{action_of_rank, chosen_action, is_action, rules_of_action, takers}
use Rattle.list_laws.proofs.Elements.{list_any-from, list_any-witness}
use Rattle.plan_theory.specs.LargestSets.{IsLargestSet}
use Rattle.plan_theory.specs.Pairs.{Pairs, restricted}
use Rattle.plan_theory.specs.CyclicPlans.{cyclic_rules}
use Rattle.plan_theory.specs.PairRounds.{progress}
use Rattle.list_laws.proofs.Booleans.{same_truth}
use Rattle.plan_theory.proofs.Restricted.{more_pairs, outcome_of_pair, pair_outcome}
use Rattle.encode_task.proofs.StateVectors.{cubes_agree}

-- each pair of a state in the one set is in the other
abbrev AreWithin : System → Pairs → Pairs → Type 0
AreWithin sys f g = (v : Vector) (a : ℕ) → IsVector sys v → f v a ≡ true → g v a ≡ true

module _ (sys : System) (ok : IsSystem sys) (f g : Pairs) (within : AreWithin sys f g) where
  nearer : (k : ℕ) (v : Vector) → IsVector sys v → progress sys f k v ≡ true → progress sys g k v ≡ true
  nearer = more_pairs sys (IsVector sys) f g within (λ v a t s o. (ok.next v a t o).vector)

  leads_nearer : (k : ℕ) (v : Vector) (a : ℕ) → IsVector sys v → may_lead (restricted sys f) (progress sys f k) v a ≡ true → may_lead (restricted sys g) (progress sys g k) v a ≡ true
  leads_nearer k v a s h =
      let t = list_any-witness (progress sys f k) ((restricted sys f).next v a) h in
      let o = outcome_of_pair sys f v a t.0 t.1 in
      list_any-from (progress sys g k) ((restricted sys g).next v a) t.0 (pair_outcome sys g v a t.0 (within v a s o.0) o.1)
      (nearer k t.0 (ok.next v a t.0 o.1).vector t.2)

module _ (sys : System) (ok : IsSystem sys) (f g : Pairs) (there : AreWithin sys f g) (back : AreWithin sys g f) where
  same_progress : (k : ℕ) (v : Vector) → IsVector sys v → progress sys f k v ≡ progress sys g k v
  same_progress k v s = same_truth (progress sys f k v) (progress sys g k v) (nearer sys ok f g there k v s) (nearer sys ok g f back k v s)

  same_leads : (k : ℕ) (v : Vector) (a : ℕ) → IsVector sys v → may_lead (restricted sys f) (progress sys f k) v a ≡ may_lead (restricted sys g) (progress sys g k) v a
  same_leads k v a s =
      same_truth (may_lead (restricted sys f) (progress sys f k) v a) (may_lead (restricted sys g) (progress sys g k) v a)
      (leads_nearer sys ok f g there k v a s) (leads_nearer sys ok g f back k v a s)

  by_rank : (v : Vector) → IsVector sys v → (k : ℕ) → action_of_rank Weak (restricted sys f) v k ≡ action_of_rank Weak (restricted sys g) v k
  by_rank v s zero = refl
  by_rank v s (suc k) = ap (λ p. find p (action_numbers sys)) (fun_ext (λ a. same_leads k v a s))

  same_chosen : (K : ℕ) (v : Vector) → IsVector sys v → chosen_action Weak (restricted sys f) K v ≡ chosen_action Weak (restricted sys g) K v
  same_chosen K v s =
      ap (λ p. option_and_then (action_of_rank Weak (restricted sys f) v) (find p (range_with_len 0 (K + 1)))) (fun_ext (λ k. same_progress k v s))
      ∙ ap (λ (h : ℕ → Option ℕ). option_and_then h (rank_within Weak (restricted sys g) K v)) (fun_ext (by_rank v s))

  same_rules_of : (K a : ℕ) → rules_of_action Weak (restricted sys f) K a ≡ rules_of_action Weak (restricted sys g) K a
  same_rules_of K a =
      ap (map (λ cube. record { cube = cube; action = a }))
      (cubes_agree sys.fluents 0 (takers Weak (restricted sys f) K a) (takers Weak (restricted sys g) K a) (λ v s. ap (is_action a) (same_chosen K v s)))

  same_cyclic : cyclic_rules sys f ≡ cyclic_rules sys g
  same_cyclic = ap (λ (r : ℕ → List PlanRule). flat_map r (action_numbers sys)) (fun_ext (same_rules_of (2 ^ sys.fluents)))

pub one_cyclic : (sys : System) → IsSystem sys → (f g : Pairs) → IsLargestSet sys f → IsLargestSet sys g → cyclic_rules sys f ≡ cyclic_rules sys g
one_cyclic sys ok f g first second = same_cyclic sys ok f g (second.largest f first.proper) (first.largest g second.proper)
