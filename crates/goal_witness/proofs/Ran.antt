-- The steps of a witness are a run.
use Rattle.std.proofs.Common.{◌≡◌, List, [], ◌∷◌, ◌++◌, sym, subst, ⊎_elim, append_assoc, append-nil}
use Rattle.ctl_syntax.specs.Goals.{CtlTree, CtlTrees, plain, negation, all, any, implication, ax, ex, af, ef, ag, eg, au, eu, aw, ew, no_goal, goal_then}
use Rattle.plan_rules.specs.Rules.{PlainPlan}
use Rattle.plan_witness.specs.Runs.{IsRunOf, PlainStep, end_of}
use Rattle.task_core.specs.ContextPlans.{Configuration}
use Rattle.task_core.specs.Systems.{System}
use Rattle.task_core.specs.declared.conditions.Cond.{Cond}
use Rattle.goal_witness.specs.Failures.{FailsAlong, FailsBy, How, PlainLink, SomePart, by_lasso, by_way, is_false}
use Rattle.goal_witness.specs.Links.{back_in, back_steps, stem_in, stem_steps}

module _ (sys : System) (plan : PlainPlan) where
  run_append : (x : Configuration) (steps more : List PlainStep) → IsRunOf sys plan x steps → IsRunOf sys plan (end_of x steps) more → IsRunOf sys plan x (steps ++ more)
  run_append x [] more r s = s
  run_append x (step ∷ steps) more r s = (r.0, run_append step.after steps more r.1 s)

  abbrev steps_after : List PlainLink → List PlainStep
  steps_after links = stem_steps links ++ back_steps links

  abbrev Rest : List PlainLink → (CtlTree Cond → Configuration → Type 0) → Type 0
  Rest after Inside = (g : CtlTree Cond) (y : Configuration) → Inside g y → IsRunOf sys plan y (steps_after after)

  abbrev IsRun : Configuration → How → List PlainLink → Type 0
  IsRun x how after = IsRunOf sys plan x ((stem_in how ++ stem_steps after) ++ (back_in how ++ back_steps after))

  ended : (x : Configuration) (after : List PlainLink) → after ≡ [] → IsRunOf sys plan x (steps_after after)
  ended x after is = subst (λ links. IsRunOf sys plan x (steps_after links)) (sym is) tt

  onward : (x : Configuration) (steps : List PlainStep) (after : List PlainLink) → IsRunOf sys plan x steps → IsRunOf sys plan (end_of x steps) (steps_after after) → IsRunOf sys plan x ((steps ++ stem_steps after) ++ back_steps after)
  onward x steps after r s = subst (IsRunOf sys plan x) (sym (append_assoc steps (stem_steps after) (back_steps after))) (run_append x steps (steps_after after) r s)

  around : (x : Configuration) (stem back : List PlainStep) (after : List PlainLink) → after ≡ [] → IsRunOf sys plan x stem → IsRunOf sys plan (end_of x stem) back → IsRunOf sys plan x ((stem ++ stem_steps after) ++ (back ++ back_steps after))
  around x stem back after is r s =
      subst (λ links. IsRunOf sys plan x ((stem ++ stem_steps links) ++ (back ++ back_steps links))) (sym is)
      (subst (λ steps. IsRunOf sys plan x (steps ++ (back ++ []))) (sym (append-nil stem)) (subst (λ steps. IsRunOf sys plan x (stem ++ steps)) (sym (append-nil back)) (run_append x stem back r s)))

  some_run : (x : Configuration) (after : List PlainLink) (Inside : CtlTree Cond → Configuration → Type 0) (gs : CtlTrees Cond) → SomePart (λ g. Inside g x) gs → Rest after Inside → IsRunOf sys plan x (steps_after after)
  some_run x after Inside no_goal s rest = absurd s
  some_run x after Inside (goal_then g gs) s rest = ⊎_elim (λ here. rest g x here) (λ later. some_run x after Inside gs later rest) s

  by_run : (goal : CtlTree Cond) (x : Configuration) (how : How) (after : List PlainLink) (Inside : CtlTree Cond → Configuration → Type 0) → FailsBy sys plan goal x how after Inside → Rest after Inside → IsRun x how after
  by_run (all gs) x (by_way []) after Inside f rest = some_run x after Inside gs f rest
  by_run (implication g h) x (by_way []) after Inside f rest = rest h x f
  by_run (ax g) x (by_way (step ∷ [])) after Inside f rest = (f.0, rest g step.after f.1)
  by_run (ag g) x (by_way steps) after Inside f rest = onward x steps after f.0.run_of (rest g (end_of x steps) f.1)
  by_run (aw g h) x (by_way steps) after Inside f rest = onward x steps after f.0.run_of (rest g (end_of x steps) f.1)
  by_run (au g h) x (by_way steps) after Inside f rest = onward x steps after f.0.run_of (rest g (end_of x steps) f.1)
  by_run (au g h) x (by_lasso stem back) after Inside f rest = around x stem back after f.1 f.0.arrives.run_of f.0.returns.run_of
  by_run (af g) x (by_lasso stem back) after Inside f rest = around x stem back after f.1 f.0.arrives.run_of f.0.returns.run_of
  by_run (plain p) x is_false after Inside f rest = ended x after f
  by_run (negation g) x is_false after Inside f rest = ended x after f
  by_run (any gs) x is_false after Inside f rest = ended x after f
  by_run (ex g) x is_false after Inside f rest = ended x after f
  by_run (ef g) x is_false after Inside f rest = ended x after f
  by_run (eg g) x is_false after Inside f rest = ended x after f
  by_run (eu g h) x is_false after Inside f rest = ended x after f
  by_run (ew g h) x is_false after Inside f rest = ended x after f
  by_run goal x how after Inside f rest = absurd f

  pub fails_run : (goal : CtlTree Cond) (x : Configuration) (links : List PlainLink) → FailsAlong sys plan goal x links → IsRunOf sys plan x (steps_after links)
  fails_run goal x [] f = absurd f
  fails_run goal x (link ∷ links) f = by_run goal x link.how links (λ g y. FailsAlong sys plan g y links) f.2 (λ g y inside. fails_run g y links inside)
