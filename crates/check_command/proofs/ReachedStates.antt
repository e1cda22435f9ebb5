-- A plan reaches something exactly where there is an initial state.
use Rattle.std.proofs.Common.{◌≡◌, ◌≢◌, ◌<◌, ℕ, zero, suc, List, [], ◌∷◌, Contains, refl, sym, subst, arith}
use Rattle.exec_graph.specs.Graphs.{IsGraphOf, PlainGraph}
use Rattle.exec_graph.proofs.Reaching.{begins, reached_first}
use Rattle.plan_rules.specs.Rules.{PlainPlan}
use Rattle.task_core.specs.ContextPlans.{Configuration, first_context}
use Rattle.task_core.specs.Systems.{System}
use Rattle.task_core.specs.Vectors.{Vector}

-- a plan reaches something exactly where there is an initial state
pub reaches_nothing : (sys : System) (plan : PlainPlan) (graph : PlainGraph) → IsGraphOf sys plan graph → graph.size ≡ 0 → sys.initial ≡ []
reaches_nothing sys plan graph is none = go sys.initial refl where
  go : (states : List Vector) → sys.initial ≡ states → states ≡ []
  go [] same = refl
  go (s ∷ rest) same =
      let x : Configuration = record { state = s; context = first_context } in
      let node = is.listed x (reached_first sys plan x (record { state = subst (λ (vs : List Vector). Contains vs s) (sym same) (0, omega arith, refl); context = refl })) in
      absurd (let below = node.below in omega (arith, below, none))

pub reaches_some : (sys : System) (plan : PlainPlan) (graph : PlainGraph) → IsGraphOf sys plan graph → (graph.size ≡ 0 → ⊥) → sys.initial ≢ []
reaches_some sys plan graph is some none =
    let first = begins sys plan (graph.configuration 0) (is.reached 0 (below graph.size some)) in
    let listed = subst (λ (vs : List Vector). Contains vs first.0) none first.1 in
    let within = listed.1 in omega (arith, within)
  where
    below : (n : ℕ) → (n ≡ 0 → ⊥) → 0 < n
    below zero some = absurd (some refl)
    below (suc n) some = omega arith
