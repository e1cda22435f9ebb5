-- The configurations that a plan with contexts may reach.
use Rattle.std.proofs.Common.{◌≡◌, ◌∙◌, ℕ, [], ◌∷◌, ◌++◌, Option, Some, refl, sym, subst}
use Rattle.std.specs.Prelude.{IsSome}
use Rattle.std.proofs.lemmas.Option.{same_Some}
use Rattle.task_core.specs.ContextPlans.{Configuration, ContextPlan, Follows, GoesOn, IsInitial, IsReachable}
use Rattle.task_core.proofs.Paths.{last_onward, path_keeps, path_onward}
use Rattle.task_core.specs.Systems.{System, HasOutcome, IsVector, IsSystem}
use Rattle.task_core.specs.Vectors.{Vector}
use Rattle.list_laws.proofs.Options.{some_value}

pub has_value : {T : Type 0} (o : Option T) (x : T) → o ≡ Some x → IsSome o
has_value o x e = subst (λ p. IsSome p) (sym e) refl

module _ (sys : System) (plan : ContextPlan) where
  pub reached_first : (x : Configuration) → IsInitial sys x → IsReachable sys plan x
  reached_first x initial = record { start = x; initial = initial; rest = []; path = tt; ends = refl }

  pub reached_next : (x y : Configuration) → IsReachable sys plan x → Follows sys plan x y → IsReachable sys plan y
  reached_next x y r follows = record {
    start = r.start;
    initial = r.initial;
    rest = r.rest ++ y ∷ [];
    path = path_onward (Follows sys plan) r.start r.rest y r.path (subst (λ z. Follows sys plan z y) (sym r.ends) follows);
    ends = last_onward r.start r.rest y;
  }

  -- what follows comes by the action that the plan takes
  pub by_action : (x y : Configuration) (a : ℕ) → plan.act x.state x.context ≡ Some a → Follows sys plan x y → HasOutcome sys x.state a y.state
  by_action x y a acts follows = subst (λ b. HasOutcome sys x.state b y.state) (same_Some follows.action a (sym follows.acts ∙ acts)) follows.outcome

  -- what holds where executions begin, and stays along a step, holds wherever the plan may come
  module _ (P : Configuration → Type 0) (next : (x y : Configuration) → P x → Follows sys plan x y → P y) where
    pub reached_keeps : ((x : Configuration) → IsInitial sys x → P x) → (x : Configuration) → IsReachable sys plan x → P x
    reached_keeps first x r = subst P r.ends (path_keeps (Follows sys plan) P next r.start r.rest (first r.start r.initial) r.path)

  pub reached_state : IsSystem sys → (x : Configuration) → IsReachable sys plan x → IsVector sys x.state
  reached_state ok = reached_keeps (λ x. IsVector sys x.state) (λ x y is follows. (ok.next x.state follows.action y.state follows.outcome).vector) (λ x initial. (ok.initial x.state initial.state).vector)

  -- where a plan goes on, each outcome of its action has a configuration that follows
  pub record Follower (x : Configuration) (t : Vector) : Type 0 where
    pub node : Configuration
    pub follows : Follows sys plan x node
    pub state : node.state ≡ t

  pub follower : (x : Configuration) (on : GoesOn sys plan x) (t : Vector) → HasOutcome sys x.state on.action t → Follower x t
  follower x on t o =
      let c = some_value (plan.ctxt x.state x.context t) (on.contexts t o) in
      record {
        node = record { state = t; context = c.0 };
        follows = record { action = on.action; acts = on.acts; outcome = o; context = c.1 };
        state = refl;
      }
