-- What a plan may reach, step by step.
use Rattle.std.proofs.Common.{◌≡◌, Contains, List, [], ◌∷◌, ◌++◌, refl, sym, subst}
use Rattle.task_core.proofs.Paths.{last_onward, path_onward}
use Rattle.task_core.specs.Vectors.{Vector}
use Rattle.task_core.specs.Systems.{System, IsState, IsSystem}
use Rattle.task_core.specs.Tables.{Leads, Table}
use Rattle.task_core.specs.Paths.{IsPath, last_of}
use Rattle.task_core.specs.ContextPlans.{Configuration, ContextPlan, Follows, IsInitial, first_context}
use Rattle.plan_rules.specs.Denoted.{denoted, denoted_contexts}
use Rattle.plan_rules.specs.Rules.{PlainPlan, table, automaton}
use Rattle.exec_graph.specs.Executions.{GoesTo, IsReachedBy}

-- where an execution may begin, the plan has come
pub reached_first : (sys : System) (plan : PlainPlan) (x : Configuration) → IsInitial sys x → IsReachedBy sys plan x
reached_first sys (table class rules) x first =
    (record { start = x.state; initial = first.state; path = record { rest = []; path = tt; ends = refl } }, first.context)
reached_first sys (automaton contexts rules) x first = record { start = x; initial = first; rest = []; path = tt; ends = refl }

-- wherever it has come, it began in an initial state
pub begins : (sys : System) (plan : PlainPlan) (x : Configuration) → IsReachedBy sys plan x → (s : Vector) × Contains sys.initial s
begins sys (table class rules) x reached = (reached.0.start, reached.0.initial)
begins sys (automaton contexts rules) x reached = (reached.start.state, reached.initial.state)

-- and it goes on from where it has come
pub reached_next : (sys : System) (plan : PlainPlan) (x y : Configuration) → IsReachedBy sys plan x → GoesTo sys plan x y → IsReachedBy sys plan y
reached_next sys (table class rules) x y r g =
    let pairs = denoted sys rules in
    let p = r.0.path in (
      record {
        start = r.0.start;
        initial = r.0.initial;
        path = record {
          rest = p.rest ++ y.state ∷ [];
          path = path_onward (Leads sys pairs) r.0.start p.rest y.state p.path (subst (λ s. Leads sys pairs s y.state) (sym p.ends) g.0);
          ends = last_onward r.0.start p.rest y.state;
        };
      },
      g.1,
    )
reached_next sys (automaton contexts rules) x y r g = record {
  start = r.start;
  initial = r.initial;
  rest = r.rest ++ y ∷ [];
  path = path_onward (Follows sys (denoted_contexts rules)) r.start r.rest y r.path (subst (λ z. Follows sys (denoted_contexts rules) z y) (sym r.ends) g);
  ends = last_onward r.start r.rest y;
}

-- what holds where executions begin, and stays along a step, holds wherever the plan may come
module _ (sys : System) (P : Configuration → Type 0) where
  path_keeps : (pairs : Table) → ((s t : Vector) → P (record { state = s; context = first_context }) → Leads sys pairs s t → P (record { state = t; context = first_context }))
      → (s : Vector) (rest : List Vector) → P (record { state = s; context = first_context }) → IsPath (Leads sys pairs) s rest
      → P (record { state = last_of s rest; context = first_context })
  path_keeps pairs step s [] here path = here
  path_keeps pairs step s (t ∷ rest) here path = path_keeps pairs step t rest (step s t here path.0) path.1

  run_keeps : (plan : ContextPlan) → ((x y : Configuration) → P x → Follows sys plan x y → P y)
      → (x : Configuration) (rest : List Configuration) → P x → IsPath (Follows sys plan) x rest → P (last_of x rest)
  run_keeps plan step x [] here run = here
  run_keeps plan step x (y ∷ rest) here run = run_keeps plan step y rest (step x y here run.0) run.1

  pub reached_keeps : (plan : PlainPlan) → ((x : Configuration) → IsInitial sys x → P x) → ((x y : Configuration) → P x → GoesTo sys plan x y → P y)
      → (x : Configuration) → IsReachedBy sys plan x → P x
  reached_keeps (table class rules) first step x r =
      let at : Vector → Configuration = λ s. record { state = s; context = first_context } in
      let kept = path_keeps (denoted sys rules) (λ s t here leads. step (at s) (at t) here (leads, refl)) r.0.start r.0.path.rest
      (first (at r.0.start) (record { state = r.0.initial; context = refl })) r.0.path.path in
      let same : at (last_of r.0.start r.0.path.rest) ≡ x = λ i. record { state = r.0.path.ends i; context = sym r.1 i } in
      subst P same kept
  reached_keeps (automaton contexts rules) first step x r =
      subst P r.ends (run_keeps (denoted_contexts rules) step r.start r.rest (first r.start r.initial) r.path)

-- what follows is a state
pub goes_to_state : (sys : System) (plan : PlainPlan) (x y : Configuration) → IsSystem sys → GoesTo sys plan x y → IsState sys y.state
goes_to_state sys (table class rules) x y ok g = ok.next x.state g.0.action y.state g.0.outcome
goes_to_state sys (automaton contexts rules) x y ok g = ok.next x.state g.action y.state g.outcome

-- and so is every configuration that the plan may reach
pub reached_state : (sys : System) (plan : PlainPlan) (x : Configuration) → IsSystem sys → IsReachedBy sys plan x → IsState sys x.state
reached_state sys plan x ok =
    reached_keeps sys (λ (y : Configuration). IsState sys y.state) plan (λ y first. ok.initial y.state first.state) (λ y z is goes. goes_to_state sys plan y z ok goes) x
