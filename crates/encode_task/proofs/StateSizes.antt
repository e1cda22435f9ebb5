-- The sets that are made for the initial states, by their sizes.
use Rattle.std.proofs.Common.{◌≡◌, ℕ, zero, suc, ◌+◌, ◌-◌, ◌<◌, ◌≤◌, Bool, ◌&&◌, refl, ap, subst, ◌∙◌, arith}
use Rattle.std.specs.List.{list_all, range_with_len}
use Rattle.dd_nodes.specs.NodeList.{Values, with_value}
use Rattle.dd_nodes.specs.Subfunctions.{Function}
use Rattle.dd_nodes.proofs.Canonicity.{with_value_other, with_value_same}
use Rattle.dd_ops.specs.Operations.{cofactor_of}
use Rattle.dd_sets.specs.Rooms.{Small}
use Rattle.dd_sets.proofs.OperationSizes.{cofactor_small}
use Rattle.task_core.specs.States.{truth}
use Rattle.task_core.specs.Vectors.{same_value}
use Rattle.task_core.specs.declared.states.State.{State}
use Rattle.task_core.proofs.Vectors.{same_value_refl}
use Rattle.encode_task.proofs.StateLemmas.{same_from}

-- the fluents from a later one on have their values, whatever an earlier one is set to
later_same : (state : State) (values : Values) (f first k : ℕ) (b : Bool) → f < first
    → list_all (λ g. same_value (with_value values f b g) (truth state g)) (range_with_len first k) ≡ list_all (λ g. same_value (values g) (truth state g)) (range_with_len first k)
later_same state values f first zero b below = refl
later_same state values f first (suc k) b below =
    (λ i. same_value (with_value_other values f b first (λ (same : first ≡ f). (omega arith)) i) (truth state first) && later_same state values f (first + 1) k b (omega arith) i)

-- where one fluent more has the value of a state, fixed at that value
one_fixed : (state : State) (f k : ℕ) → cofactor_of (same_from state f (suc k)) f (truth state f) ≡ same_from state (f + 1) k
one_fixed state f k = λ i values. (step values) i
  where
    step : (values : Values) → same_from state f (suc k) (with_value values f (truth state f)) ≡ same_from state (f + 1) k values
    step values =
        ap (λ b. same_value b (truth state f) && same_from state (f + 1) k (with_value values f (truth state f))) (with_value_same values f (truth state f))
        ∙ ap (λ b. b && same_from state (f + 1) k (with_value values f (truth state f))) (same_value_refl (truth state f))
        ∙ later_same state values f (f + 1) k (truth state f) (omega arith)

-- the last values of a state have no more nodes than all
pub last_values_small : (w n : ℕ) (state : State) (fluents f : ℕ) → fluents ≤ n → f ≤ fluents → Small n w (same_from state 0 (fluents - 0)) → Small n w (same_from state f (fluents - f))
last_values_small w n state fluents zero few within whole = whole
last_values_small w n state fluents (suc f) few within whole =
    let before : Small n w (same_from state f (fluents - f)) = last_values_small w n state fluents f few (omega arith) whole in
    let count : fluents - f ≡ suc (fluents - suc f) = omega arith in
    let next : f + 1 ≡ suc f = omega arith in
    subst (λ m. Small n w (same_from state m (fluents - suc f))) next
    (subst (λ (set : Function). Small n w set) (one_fixed state f (fluents - suc f))
    (cofactor_small n w (same_from state f (suc (fluents - suc f))) f (truth state f) (omega arith) (subst (λ m. Small n w (same_from state f m)) count before)))
