-- A state from which a table has a path of n steps to a goal state lies in layer n. So where a
-- table is a weak solution, some layer holds every initial state.
use Rattle.std.proofs.Common.{◌≡◌, ℕ, suc, ◌+◌, true, false, List, [], ◌∷◌, length, refl, sym, ◌∙◌, subst, arith}
use Rattle.std.specs.List.{Contains, list_all}
use Rattle.std.proofs.lemmas.Bool.{true≢false, or_right, and_from}
use Rattle.task_core.specs.Vectors.{Vector}
use Rattle.task_core.specs.Systems.{System, IsSystem, IsVector, HasOutcome, goal_states}
use Rattle.task_core.specs.Tables.{Table, IsTable, Leads}
use Rattle.task_core.specs.Paths.{IsPath, last_of}
use Rattle.task_core.specs.Solutions.{IsWeakSolution, MayReachGoal}
use Rattle.plan_theory.specs.Layers.{layer, covers, may_lead, action_numbers}
use Rattle.plan_theory.proofs.ClassLayers.{layer-grows, layer-zero, stable_no_cover}
pub use Rattle.plan_theory.proofs.Tests.{HasOutcome-Exec, same_value-true, same_vector-itself, same_vector-true}
use Rattle.list_laws.proofs.Elements.{Contains-head, Contains-cons, Contains-range_with_len, list_any-from, list_all-at, list_all-from}
use Rattle.task_core.specs.declared.classes.Class.TheVariants.{Weak}

-- a state with an outcome in a layer is in the next one
pub layer-suc : (sys : System) → IsSystem sys → (k : ℕ) (s : Vector) (a : ℕ) (t : Vector) → HasOutcome sys s a t → layer Weak sys k t ≡ true → layer Weak sys (suc k) s ≡ true
layer-suc sys ok k s a t o h = or_right (layer Weak sys k s) _ (list_any-from (may_lead sys (layer Weak sys k) s) (action_numbers sys) a (Contains-range_with_len sys.actions a (ok.actions s a (HasOutcome-Exec sys s a t o))) (list_any-from (layer Weak sys k) (sys.next s a) t o h))

-- a path of n steps to a goal state begins in layer n
pub path_in_layer : (sys : System) → IsSystem sys → (table : Table) (s : Vector) (rest : List Vector) → IsPath (Leads sys table) s rest → Contains (goal_states sys) (last_of s rest) → layer Weak sys (length rest) s ≡ true
path_in_layer sys ok table s [] p g = layer-zero Weak sys s g
path_in_layer sys ok table s (t ∷ rest) p g = layer-suc sys ok (length rest) s p.0.action t p.0.outcome (path_in_layer sys ok table t rest p.1 g)

-- from which a terminal goal state is reached lies in some layer
pub reaches_in_layer : (sys : System) → IsSystem sys → (table : Table) (s : Vector) → MayReachGoal sys table s → (k : ℕ) × (layer Weak sys k s ≡ true)
reaches_in_layer sys ok table s m = (length m.reached.rest, path_in_layer sys ok table s m.reached.rest m.reached.path (subst (λ t. Contains (goal_states sys) t) (sym m.reached.ends) m.goal))

-- finitely many states that each lie in some layer all lie in one
pub common_layer : (sys : System) (states : List Vector) → ((s : Vector) → Contains states s → (k : ℕ) × (layer Weak sys k s ≡ true)) → (k : ℕ) × (list_all (layer Weak sys k) states ≡ true)
common_layer sys [] each = (0, refl)
common_layer sys (s ∷ states) each =
    let first = each s (Contains-head s states) in
    let others = common_layer sys states (λ t c. each t (Contains-cons s states t c)) in
    (first.0 + others.0, and_from (layer Weak sys (first.0 + others.0) s) (list_all (layer Weak sys (first.0 + others.0)) states) (layer-grows Weak sys s first.0 (first.0 + others.0) (omega arith) first.1) (list_all-from (layer Weak sys (first.0 + others.0)) states (λ t c. layer-grows Weak sys t others.0 (first.0 + others.0) (omega arith) (list_all-at (layer Weak sys others.0) states t others.1 c))))

-- where a table is a weak solution, some layer holds every initial state
pub solution_covers : (sys : System) → IsSystem sys → (table : Table) → IsWeakSolution sys table → (k : ℕ) × (covers Weak sys k ≡ true)
solution_covers sys ok table solves = common_layer sys sys.initial (λ s c. reaches_in_layer sys ok table s (solves s c))

-- so where none does, there is no weak solution
pub no_cover_no_solution : (sys : System) → IsSystem sys → ((k : ℕ) → covers Weak sys k ≡ false) → (table : Table) → IsTable sys table → IsWeakSolution sys table → ⊥
no_cover_no_solution sys ok none table is solves = let w = solution_covers sys ok table solves in true≢false (sym w.1 ∙ none w.0)

-- and so where a layer that doesn't hold every initial state is as the next one
pub stable_no_solution : (sys : System) → IsSystem sys → (k : ℕ) → ((v : Vector) → IsVector sys v → layer Weak sys (suc k) v ≡ layer Weak sys k v) → covers Weak sys k ≡ false → (table : Table) → IsTable sys table → IsWeakSolution sys table → ⊥
stable_no_solution sys ok k stable short = no_cover_no_solution sys ok (stable_no_cover Weak sys ok k stable short)
