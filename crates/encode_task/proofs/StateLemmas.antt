-- The set of one state, value by value.
use Rattle.std.proofs.Common.{◌≡◌, ℕ, zero, suc, ◌+◌, ◌-◌, ◌≤◌, Bool, true, false, ◌&&◌, [], ◌∷◌, map, refl, sym, ap, ◌∙◌, arith}
use Rattle.std.specs.List.{list_all, range_with_len}
use Rattle.list_laws.proofs.Booleans.{or_false}
use Rattle.dd_nodes.specs.NodeList.{Values}
use Rattle.dd_nodes.specs.Subfunctions.{Function}
use Rattle.dd_ops.specs.Operations.{and_of}
use Rattle.task_core.specs.States.{truth, vector}
use Rattle.task_core.specs.Vectors.{same_value, same_vector}
use Rattle.task_core.specs.declared.states.State.{State}
use Rattle.encode_task.specs.Images.{has_value}
use Rattle.encode_task.specs.TaskSets.{set_of_states}

-- where k fluents from one on have the values of a state
abbrev pub same_from : State → ℕ → ℕ → Function
same_from state first k values = list_all (λ g. same_value (values g) (truth state g)) (range_with_len first k)

swapped : (a b c : Bool) → (c && same_value a b) ≡ (same_value b a && c)
swapped true true true = refl
swapped true true false = refl
swapped true false true = refl
swapped true false false = refl
swapped false true true = refl
swapped false true false = refl
swapped false false true = refl
swapped false false false = refl

pub one_earlier : (state : State) (n first next : ℕ) (value : Bool) → next ≡ first + 1 → next ≤ n → value ≡ truth state first → and_of (same_from state next (n - next)) (has_value first value) ≡ same_from state first (n - first)
one_earlier state n first next value after within at = λ i values. (step values) i
  where
    step : (values : Values) → (same_from state next (n - next) values && has_value first value values) ≡ same_from state first (n - first) values
    step values =
        let count : suc (n - next) ≡ n - first = omega arith in
        swapped value (values first) (same_from state next (n - next) values)
        ∙ ap (λ b. same_value (values first) b && same_from state next (n - next) values) at
        ∙ ap (λ m. same_value (values first) (truth state first) && same_from state m (n - next) values) after
        ∙ (λ i. same_from state first (count i) values)

same_maps : (p q : ℕ → Bool) (first n : ℕ) → same_vector (map p (range_with_len first n)) (map q (range_with_len first n)) ≡ list_all (λ g. same_value (p g) (q g)) (range_with_len first n)
same_maps p q first zero = refl
same_maps p q first (suc n) = ap (λ b. same_value (p first) (q first) && b) (same_maps p q (first + 1) n)

pub whole_state : (state : State) (n : ℕ) → same_from state 0 n ≡ set_of_states n (vector n state ∷ [])
whole_state state n = λ i values. sym (or_false (same_vector (map values (range_with_len 0 n)) (vector n state)) ∙ same_maps values (truth state) 0 n) i
