-- The states of a task, as a set.
use Rattle.std.proofs.Common.{◌≡◌, Bool, true, false, cond, ◌&&◌, ◌||◌, List, [], ◌∷◌, refl, sym, ap, ◌∙◌, arith}
use Rattle.std.specs.List.{filter, list_any}
use Rattle.std.proofs.lemmas.Bool.{false≢true}
use Rattle.list_laws.proofs.Booleans.{and_false}
use Rattle.dd_nodes.specs.NodeList.{Values}
use Rattle.dd_nodes.specs.Subfunctions.{DependsOnly}
use Rattle.dd_ops.specs.Operations.{and_of}
use Rattle.task_core.specs.Tasks.{fluent_count, in_space, initial_vectors}
use Rattle.task_core.specs.Vectors.{Vector, same_vector, value_of}
use Rattle.task_core.specs.declared.tasks.Task.{Task}
use Rattle.task_core.proofs.Agreement.{holds_agree}
use Rattle.task_core.proofs.Vectors.{same_vector_equal}
use Rattle.encode_task.specs.TaskSets.{first_values, initial_set, set_of_states, space_set}
use Rattle.encode_task.proofs.ShownLemmas.{value_computed}

-- whether a list of truth values is a state depends on the values of the fluents alone
pub space_depends : (task : Task) → DependsOnly 0 (fluent_count task) (space_set task)
space_depends task s t same = holds_agree task.invariant (fluent_count task) s t task.invariant_within (λ f within. same f (omega arith) within)

-- so it is one where its values are a state
pub in_space_first : (task : Task) (values : Values) → in_space task (first_values (fluent_count task) values) ≡ space_set task values
in_space_first task values =
    space_depends task (value_of (first_values (fluent_count task) values)) values (λ f above within. value_computed values (fluent_count task) f within)

-- a vector is among those that pass a test where it passes and is among all
among_filtered : (p : Vector → Bool) (w : Vector) (vs : List Vector) → list_any (same_vector w) (filter p vs) ≡ (p w && list_any (same_vector w) vs)
among_filtered p w [] = sym (and_false (p w))
among_filtered p w (v ∷ vs) =
    elim (p v) as (λ b. p v ≡ b → list_any (same_vector w) (cond b (v ∷ filter p vs) (filter p vs)) ≡ (p w && (same_vector w v || list_any (same_vector w) vs))) [
      | true ↦ λ is. ap (λ r. same_vector w v || r) (among_filtered p w vs) ∙ kept (p w) (same_vector w v) (list_any (same_vector w) vs) (λ same. ap p (same_vector_equal w v same) ∙ is)
      | false ↦ λ is. among_filtered p w vs ∙ left (p w) (same_vector w v) (list_any (same_vector w) vs) (λ same. ap p (same_vector_equal w v same) ∙ is)
    ] refl
  where
    kept : (a s r : Bool) → (s ≡ true → a ≡ true) → (s || (a && r)) ≡ (a && (s || r))
    kept true s r is = refl
    kept false true r is = absurd (false≢true (is refl))
    kept false false r is = refl

    left : (a s r : Bool) → (s ≡ true → a ≡ false) → (a && r) ≡ (a && (s || r))
    left true true r is = absurd (false≢true (sym (is refl)))
    left true false r is = refl
    left false s r is = refl

-- the initial states are the vectors after all uncertain entries that are states
pub initial_is : (task : Task) → and_of (space_set task) (set_of_states (fluent_count task) (initial_vectors task)) ≡ initial_set task
initial_is task = λ i values. (step values) i
  where
    step : (values : Values) → (space_set task values && set_of_states (fluent_count task) (initial_vectors task) values) ≡ initial_set task values
    step values =
        ap (λ b. b && set_of_states (fluent_count task) (initial_vectors task) values) (sym (in_space_first task values))
        ∙ sym (among_filtered (in_space task) (first_values (fluent_count task) values) (initial_vectors task))
