-- The sets on the board as states of the system: where an action leads into a set.
use Rattle.std.proofs.Common.{◌≡◌, ℕ, zero, suc, ◌<◌, true, false, sym, subst, ◌∙◌, ⊎_elim, arith}
use Rattle.std.specs.List.{list_all, list_any, range_with_len}
use Rattle.std.proofs.lemmas.Bool.{and_parts, cases_eq, false≢true, or_cases, or_left, or_right}
use Rattle.dd_nodes.specs.NodeList.{Values}
use Rattle.dd_nodes.specs.Subfunctions.{DependsOnly, Function}
use Rattle.preimage.specs.Preimages.{strong_preimage, weak_preimage}
use Rattle.preimage.specs.WorkingSets.{some_below}
use Rattle.preimage.proofs.Leads.{all_lead}
use Rattle.preimage.proofs.OutcomeLemmas.{strong_leads, weak_leads}
use Rattle.fair_theory.specs.FairSets.{CanComeTo}
use Rattle.fair_theory.specs.FairSets.CanComeTo.{here, by}
use Rattle.list_laws.proofs.Elements.{Contains-range_with_len, Contains-range_with_len-below, list_any-from, list_any-witness}
use Rattle.plan_theory.specs.Layers.{may_lead, must_lead}
use Rattle.plan_theory.specs.Safe.{some_must_lead}
use Rattle.plan_theory.proofs.Weak.{HasOutcome-Exec}
use Rattle.task_core.specs.Cubes.{SetOfVectors}
use Rattle.task_core.specs.Systems.{IsSystem, IsVector, System}
use Rattle.task_core.specs.Tasks.{action_count, fluent_count, next_states, system_of}
use Rattle.task_core.specs.Vectors.{Vector, value_of}
use Rattle.task_core.specs.declared.tasks.Task.{Task}
use Rattle.task_core.proofs.TaskSystem.{is_system}

-- every outcome of an action leads into a set where its preimage says so
pub strong_must : (task : Task) (a : ℕ) (f : Function) (v : Vector) → DependsOnly 0 (fluent_count task) f → strong_preimage task a f (value_of v) ≡ must_lead (system_of task) (λ u. f (value_of u)) v a
strong_must task a f v only = strong_leads task a f v only ∙ all_lead task (λ u. f (value_of u)) v a

pub weak_may : (task : Task) (a : ℕ) (f : Function) (v : Vector) → DependsOnly 0 (fluent_count task) f → weak_preimage task a f (value_of v) ≡ may_lead (system_of task) (λ u. f (value_of u)) v a
weak_may task a f v only = weak_leads task a f v only

-- an action that must lead somewhere is one of the system
pub must_below : (task : Task) (set : SetOfVectors) (v : Vector) (a : ℕ) → must_lead (system_of task) set v a ≡ true → a < action_count task
must_below task set v a h =
    let w = list_any-witness set (next_states task v a) (and_parts (list_any set (next_states task v a)) (list_all set (next_states task v a)) h).0 in
    (is_system task).actions v a (HasOutcome-Exec (system_of task) v a w.0 w.1)

pub may_more : (sys : System) (f g : SetOfVectors) (v : Vector) (a : ℕ) → ((t : Vector) → f t ≡ true → g t ≡ true) → may_lead sys f v a ≡ true → may_lead sys g v a ≡ true
may_more sys f g v a more h = let w = list_any-witness f (sys.next v a) h in list_any-from g (sys.next v a) w.0 w.1 (more w.0 w.2)

-- one of the first sets
pub below_has : (sets : ℕ → Function) (n : ℕ) (values : Values) → some_below sets n values ≡ true → (a : ℕ) × (a < n) × (sets a values ≡ true)
below_has sets zero values h = absurd (false≢true h)
below_has sets (suc n) values h =
    ⊎_elim
    (λ (e : some_below sets n values ≡ true). let w = below_has sets n values e in (w.0, let l = w.1 in omega arith, w.2))
    (λ (e : sets n values ≡ true). (n, omega arith, e))
    (or_cases (some_below sets n values) (sets n values) h)

pub below_from : (sets : ℕ → Function) (n : ℕ) (values : Values) (a : ℕ) → a < n → sets a values ≡ true → some_below sets n values ≡ true
below_from sets zero values a l h = absurd (omega arith)
below_from sets (suc n) values a l h =
    ⊎_elim
    (λ (e : a ≡ n). or_right (some_below sets n values) (sets n values) (subst (λ (k : ℕ). sets k values ≡ true) e h))
    (λ (d : a ≡ n → ⊥). or_left (some_below sets n values) (sets n values) (below_from sets n values a (let e = d in omega arith) h))
    (cases_eq a n)

-- some action leads into a set, where one of the preimages says so
pub some_from : (task : Task) (f : Function) (v : Vector) → DependsOnly 0 (fluent_count task) f → some_below (λ a. strong_preimage task a f) (action_count task) (value_of v) ≡ true → some_must_lead (system_of task) (λ u. f (value_of u)) v ≡ true
some_from task f v only h =
    let w = below_has (λ a. strong_preimage task a f) (action_count task) (value_of v) h in
    list_any-from (must_lead (system_of task) (λ u. f (value_of u)) v) (range_with_len 0 (action_count task)) w.0 (Contains-range_with_len (action_count task) w.0 w.1) (sym (strong_must task w.0 f v only) ∙ w.2)

pub some_to : (task : Task) (f : Function) (v : Vector) → DependsOnly 0 (fluent_count task) f → some_must_lead (system_of task) (λ u. f (value_of u)) v ≡ true → some_below (λ a. strong_preimage task a f) (action_count task) (value_of v) ≡ true
some_to task f v only h =
    let w = list_any-witness (must_lead (system_of task) (λ u. f (value_of u)) v) (range_with_len 0 (action_count task)) h in
    below_from (λ a. strong_preimage task a f) (action_count task) (value_of v) w.0 (Contains-range_with_len-below (action_count task) w.0 w.1) (strong_must task w.0 f v only ∙ w.2)

-- a target in place of another that has the same vectors
pub comes_as : (sys : System) → IsSystem sys → (set guard f g : SetOfVectors) → ((v : Vector) → IsVector sys v → f v ≡ true → g v ≡ true) → (v : Vector) → IsVector sys v → CanComeTo sys set guard f v → CanComeTo sys set guard g v
comes_as sys ok set guard f g more v is (here _ h) = here v (more v is h)
comes_as sys ok set guard f g more v is (by _ a t inside leads outcome later) = by v a t inside leads outcome (comes_as sys ok set guard f g more t (ok.next v a t outcome).vector later)
