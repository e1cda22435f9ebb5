-- Whether a set has the initial states, by its test.
use Rattle.std.proofs.Common.{◌≡◌, Bool, true, false, IsTrue, ◌↔◌, refl, sym, ap, ◌∙◌}
use Rattle.std.specs.List.{list_all, list_any}
use Rattle.list_laws.proofs.Elements.{list_all-from, list_any-from, list_any-witness}
use Rattle.dd_nodes.specs.NodeList.{Values}
use Rattle.dd_nodes.specs.Subfunctions.{DependsOnly, Function}
use Rattle.encode_task.specs.TaskSets.{first_values, initial_set}
use Rattle.encode_task.proofs.ShownLemmas.{first_are, value_computed}
use Rattle.task_core.specs.Tasks.{fluent_count, initial_states}
use Rattle.task_core.specs.Vectors.{same_vector, value_of}
use Rattle.task_core.specs.declared.tasks.Task.{Task}
use Rattle.task_core.proofs.TaskSystem.{is_system}
use Rattle.task_core.proofs.Vectors.{list_all_contains, same_vector_equal, same_vector_refl}

module _ (task : Task) (f : Function) (only : DependsOnly 0 (fluent_count task) f) where
  inside_all : ((values : Values) → initial_set task values ≡ true → f values ≡ true) → list_all (λ state. f (value_of state)) (initial_states task) ≡ true
  inside_all inside = list_all-from (λ state. f (value_of state)) (initial_states task) (λ s c.
      inside (value_of s)
      (ap (λ u. list_any (same_vector u) (initial_states task)) (first_are (fluent_count task) (value_of s) s ((is_system task).initial s c).vector (λ u l. refl))
      ∙ list_any-from (same_vector s) (initial_states task) s c (same_vector_refl s)))

  all_inside : list_all (λ state. f (value_of state)) (initial_states task) ≡ true → (values : Values) → initial_set task values ≡ true → f values ≡ true
  all_inside all values member =
      let w = list_any-witness (same_vector (first_values (fluent_count task) values)) (initial_states task) member in
      let e : first_values (fluent_count task) values ≡ w.0 = same_vector_equal (first_values (fluent_count task) values) w.0 w.2 in
      only values (value_of w.0) (λ u low l. sym (value_computed values (fluent_count task) u l) ∙ ap (λ v. value_of v u) e)
      ∙ list_all_contains (λ state. f (value_of state)) (initial_states task) w.0 all w.1

  pub inside_is : (inside : Bool) → (IsTrue inside ↔ ((values : Values) → initial_set task values ≡ true → f values ≡ true)) → inside ≡ list_all (λ state. f (value_of state)) (initial_states task)
  inside_is true is = sym (inside_all (is.0 refl))
  inside_is false is = go (list_all (λ state. f (value_of state)) (initial_states task)) refl
    where
      go : (b : Bool) → list_all (λ state. f (value_of state)) (initial_states task) ≡ b → false ≡ b
      go true e = is.1 (all_inside e)
      go false e = refl
