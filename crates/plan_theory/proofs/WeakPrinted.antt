-- The printed plan is a weak solution.
use Rattle.std.proofs.Common.{◌≡◌, ℕ, zero, suc, ◌<◌, ◌≤◌, Bool, true, false, [], ◌∷◌, Some, refl, sym, ◌∙◌, arith, ⊎_elim}
use Rattle.std.specs.List.{Contains, list_any, find}
use Rattle.std.proofs.lemmas.Bool.{true≢false, or_cases, cond-false}
use Rattle.task_core.specs.Vectors.{Vector}
use Rattle.task_core.specs.Systems.{System, IsSystem, IsVector}
use Rattle.task_core.specs.Tables.{Table, IsTable, Leads}
use Rattle.task_core.specs.Solutions.{IsWeakSolution, MayReachGoal}
use Rattle.plan_rules.specs.Denoted.{denoted, IsExecutable}
use Rattle.plan_theory.specs.Layers.{layer, may_lead, action_numbers, IsLastLayer}
use Rattle.plan_theory.specs.LayerPlans.{chosen_action, printed_rules}
use Rattle.plan_theory.proofs.ClassLayers.{chosen_advised, chosen_kept, goal_terminal, layer-zero_goal, printed_executable, step_choice}
pub use Rattle.plan_theory.proofs.Tests.{is_action-Some, is_action-from}
use Rattle.plan_rules.proofs.DenotedPairs.{denoted-from, denoted-table, can_execute-outcome}
use Rattle.list_laws.proofs.Elements.{Contains-range_with_len-below, list_any-witness, list_all-at, find-Some, find-found}
use Rattle.task_core.specs.declared.classes.Class.TheVariants.{Weak}

-- a first step before a path to the goal
prepend : (sys : System) (table : Table) (s t : Vector) → Leads sys table s t → MayReachGoal sys table t → MayReachGoal sys table s
prepend sys table s t lead m = record { end = m.end; reached = record { rest = t ∷ m.reached.rest; path = (lead, m.reached.path); ends = m.reached.ends }; terminal = m.terminal; goal = m.goal }

-- a state of layer k may reach the goal in k steps
pub printed_reaches : (sys : System) → IsSystem sys → (K k : ℕ) → k ≤ K → (v : Vector) → IsVector sys v → layer Weak sys k v ≡ true → MayReachGoal sys (denoted sys (printed_rules Weak sys K)) v
printed_reaches sys ok K zero l v is h = record { end = v; reached = record { rest = []; path = tt; ends = refl }; terminal = goal_terminal Weak sys K v h; goal = layer-zero_goal Weak sys v h }
printed_reaches sys ok K (suc k) l v is h = go (layer Weak sys k v) refl (printed_reaches sys ok K k (omega arith))
  where
    step : layer Weak sys k v ≡ false → ((t : Vector) → IsVector sys t → layer Weak sys k t ≡ true → MayReachGoal sys (denoted sys (printed_rules Weak sys K)) t) → MayReachGoal sys (denoted sys (printed_rules Weak sys K)) v
    step e after =
        let test = may_lead sys (layer Weak sys k) v in
        let some : list_any test (action_numbers sys) ≡ true = ⊎_elim (λ t. absurd (true≢false (sym t ∙ e))) (λ d. d) (or_cases (layer Weak sys k v) (list_any test (action_numbers sys)) h) in
        let first = find-Some test (action_numbers sys) some in
        let a = first.0 in
        let chosen : chosen_action Weak sys K v ≡ Some a = chosen_kept Weak sys v (suc k) K l h ∙ (step_choice Weak sys k v ∙ (cond-false (layer Weak sys k v) (chosen_action Weak sys k v) (find test (action_numbers sys)) e ∙ first.1)) in
        let found = find-found test (action_numbers sys) a first.1 in
        let below : a < sys.actions = Contains-range_with_len-below sys.actions a found.0 in
        let t = list_any-witness (layer Weak sys k) (sys.next v a) found.1 in
        let pair : Contains (denoted sys (printed_rules Weak sys K)) (v, a) = denoted-from sys (printed_rules Weak sys K) v a (record { vector = is; below = below; advised = chosen_advised Weak sys K v a is below chosen; executable = can_execute-outcome sys v a t.0 t.1 }) in
        prepend sys (denoted sys (printed_rules Weak sys K)) v t.0 (record { action = a; pair = pair; outcome = t.1 }) (after t.0 (ok.next v a t.0 t.1).vector t.2)

    go : (b : Bool) → layer Weak sys k v ≡ b → ((t : Vector) → IsVector sys t → layer Weak sys k t ≡ true → MayReachGoal sys (denoted sys (printed_rules Weak sys K)) t) → MayReachGoal sys (denoted sys (printed_rules Weak sys K)) v
    go true e after = after v is e
    go false e after = step e after

-- where layer K holds every initial state, the printed plan is a weak solution
pub printed_solves : (sys : System) (K : ℕ) → IsSystem sys → IsLastLayer Weak sys K → IsTable sys (denoted sys (printed_rules Weak sys K)) × IsWeakSolution sys (denoted sys (printed_rules Weak sys K)) × IsExecutable sys (printed_rules Weak sys K)
printed_solves sys K ok last = (denoted-table sys ok (printed_rules Weak sys K), λ s c. printed_reaches sys ok K K (omega arith) s (ok.initial s c).vector (list_all-at (layer Weak sys K) sys.initial s last.covered c), printed_executable Weak sys K)
