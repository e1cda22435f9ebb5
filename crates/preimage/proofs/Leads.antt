-- Where an action can be executed and leads into a set of states, by the states to which it leads.
use Rattle.std.proofs.Common.{◌≡◌, ℕ, ◌+◌, Bool, true, not, ◌&&◌, ◌||◌, List, [], ◌∷◌, Contains, refl, sym, ap, subst, ◌∙◌}
use Rattle.std.specs.List.{list_all, list_any, range_with_len}
use Rattle.std.proofs.lemmas.List.Folds.{list_any-append}
use Rattle.list_laws.proofs.Booleans.{and_yes, both_lead, or_none, or_true}
use Rattle.list_laws.proofs.Elements.{Contains-head, Contains-nil, list_all-agree, list_all-at, list_all-from, list_any-agree, list_any-from, list_any-witness}
use Rattle.list_laws.proofs.Ranges.{range-more}
use Rattle.dd_nodes.specs.Subfunctions.{DependsOnly, Function}
use Rattle.dd_sets.specs.LiveSets.{everything}
use Rattle.task_core.specs.Actions.{after_value}
use Rattle.task_core.specs.Cubes.{SetOfVectors}
use Rattle.task_core.specs.Systems.{IsVector}
use Rattle.task_core.specs.Tasks.{fluent_count, is_executable, next_states, outcomes_at, system_of}
use Rattle.task_core.specs.Vectors.{Vector, value_of}
use Rattle.task_core.specs.declared.actions.Outcome.{Outcome}
use Rattle.task_core.specs.declared.tasks.Task.{Task}
use Rattle.task_core.proofs.TaskSystem.{exec_executable, executable_exec, is_system}
use Rattle.encode_task.specs.TaskSets.{exec_set, space_set}
use Rattle.preimage.specs.Preimages.{strong_preimage, weak_preimage}
use Rattle.preimage.proofs.OutcomeLemmas.{strong_leads, weak_leads}

-- where an action can be executed
pub exec_at : (task : Task) (v : Vector) (a : ℕ) → exec_set task a (value_of v) ≡ is_executable task v a
exec_at task v a =
    sym (and_yes (exec_set task a (value_of v)) (list_all stays (outcomes_at task a)) (list_all-from stays (outcomes_at task a) (λ o has. or_true (not (space_set task (after_value o (value_of v)))))))
    ∙ strong_leads task a everything v (λ s t same. refl)
    ∙ and_yes (is_executable task v a) (list_all (λ (t : Vector). true) (next_states task v a)) (list_all-from (λ (t : Vector). true) (next_states task v a) (λ t has. refl))
  where
    stays : Outcome → Bool
    stays o = not (space_set task (after_value o (value_of v))) || everything (after_value o (value_of v))

-- an action that can be executed has an outcome
pub all_lead : (task : Task) (set : SetOfVectors) (v : Vector) (a : ℕ)
    → (is_executable task v a && list_all set (next_states task v a)) ≡ (list_any set (next_states task v a) && list_all set (next_states task v a))
all_lead task set v a = both_lead (is_executable task v a) (list_any set (next_states task v a)) (list_all set (next_states task v a)) some none
  where
    pick : (xs : List Vector) → (xs ≡ [] → ⊥) → list_all set xs ≡ true → list_any set xs ≡ true
    pick [] full h = absurd (full refl)
    pick (x ∷ xs) full h = list_any-from set (x ∷ xs) x (Contains-head x xs) (list_all-at set (x ∷ xs) x h (Contains-head x xs))

    some : list_all set (next_states task v a) ≡ true → is_executable task v a ≡ true → list_any set (next_states task v a) ≡ true
    some h e = pick (next_states task v a) (executable_exec task v a e) h

    none : list_any set (next_states task v a) ≡ true → is_executable task v a ≡ true
    none h =
        let w = list_any-witness set (next_states task v a) h in
        exec_executable task v a (λ empty. Contains-nil w.0 (subst (λ (xs : List Vector). Contains xs w.0) empty w.1))

-- the preimages of a function that has the states of a set
pub weak_agrees : (task : Task) (a : ℕ) (f : Function) (set : SetOfVectors) → DependsOnly 0 (fluent_count task) f → ((v : Vector) → IsVector (system_of task) v → f (value_of v) ≡ set v)
    → (v : Vector) → IsVector (system_of task) v → weak_preimage task a f (value_of v) ≡ list_any set (next_states task v a)
weak_agrees task a f set only same v is =
    weak_leads task a f v only
    ∙ list_any-agree (λ t. f (value_of t)) set (next_states task v a) (λ t o. same t ((is_system task).next v a t o).vector)

pub strong_agrees : (task : Task) (a : ℕ) (f : Function) (set : SetOfVectors) → DependsOnly 0 (fluent_count task) f → ((v : Vector) → IsVector (system_of task) v → f (value_of v) ≡ set v)
    → (v : Vector) → IsVector (system_of task) v → strong_preimage task a f (value_of v) ≡ (list_any set (next_states task v a) && list_all set (next_states task v a))
strong_agrees task a f set only same v is =
    strong_leads task a f v only
    ∙ ap (λ b. is_executable task v a && b) (list_all-agree (λ t. f (value_of t)) set (next_states task v a) (λ t o. same t ((is_system task).next v a t o).vector))
    ∙ all_lead task set v a

-- one action more that may pass a test
pub any_more : (p : ℕ → Bool) (n : ℕ) → (list_any p (range_with_len 0 n) || p n) ≡ list_any p (range_with_len 0 (n + 1))
any_more p n =
    ap (λ b. list_any p (range_with_len 0 n) || b) (or_none (p n))
    ∙ sym (list_any-append p (range_with_len 0 n) (n ∷ []))
    ∙ ap (list_any p) (sym (range-more n))
