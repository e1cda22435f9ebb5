-- What bounds the states from which something can be had has the state of each configuration at which
-- a complete plan has it.
use Rattle.std.proofs.Common.{◌≡◌, ℕ, Bool, true, false, List, [], ◌∷◌, Some, refl, sym, ◌∙◌, subst, ⊎_elim}
use Rattle.std.specs.List.{Contains}
use Rattle.std.proofs.lemmas.Bool.{true≢false}
use Rattle.std.proofs.lemmas.Option.{same_Some}
use Rattle.ctl_syntax.specs.Paths.{Meets, SomePathMeets}
use Rattle.ctl_syntax.specs.Truth.{Anything}
use Rattle.ctl_syntax.proofs.Meeting.{meets_cases, meets_nothing}
use Rattle.task_core.specs.ContextPlans.{Configuration, ContextPlan, Follows, IsComplete, IsReachable}
use Rattle.task_core.specs.Cubes.{SetOfVectors}
use Rattle.task_core.specs.Paths.{IsPath}
use Rattle.task_core.specs.Systems.{System, IsSystem, IsVector}
use Rattle.plan_theory.specs.Layers.{must_lead}
use Rattle.plan_theory.proofs.Leading.{leads_from}
use Rattle.plan_theory.proofs.PlanPaths.{led_by}
use Rattle.plan_theory.proofs.PlanRuns.{follower, reached_state}
use Rattle.list_laws.proofs.Elements.{list_any-from}
use Rattle.fair_theory.specs.FairSets.{Asked, HasAllComing, IsFairBound, all_inside, all_staying, all_coming}

module _ (sys : System) (ok : IsSystem sys) (plan : ContextPlan) (complete : IsComplete sys plan) where
  abbrev Step : Configuration → Configuration → Type 0
  Step = Follows sys plan

  -- the action of the plan leads into a set that has every configuration which follows
  action_led : (set : SetOfVectors) (x : Configuration) (a : ℕ) → IsReachable sys plan x → plan.act x.state x.context ≡ Some a → ((y : Configuration) → Step x y → set y.state ≡ true) → must_lead sys set x.state a ≡ true
  action_led set x a reached acts each =
      let on = complete x reached in
      let same : on.action ≡ a = same_Some on.action a (sym on.acts ∙ acts) in
      subst (λ b. must_lead sys set x.state b ≡ true) same
      (leads_from sys set x.state on.action on.executable
      (λ t o. let y = follower sys plan x on t o in subst (λ s. set s ≡ true) y.state (each y.node y.follows)))

  module _ (asked : Asked) (Good : Configuration → Type 0) (Made : SetOfVectors → Configuration → Type 0)
      (reached : (x : Configuration) → Good x → IsReachable sys plan x)
      (lies_inside : (x : Configuration) → Good x → asked.inside x.state ≡ true)
      (goes_on : asked.stays ≡ true → (x y : Configuration) → Good x → Step x y → Good y)
      (comes_on : (target : SetOfVectors) → Contains asked.targets target → (x y : Configuration) → Good x → target x.state ≡ false → Step x y → Good y)
      (guards : (target : SetOfVectors) → Contains asked.targets target → (x : Configuration) → Good x → target x.state ≡ false → asked.guard x.state ≡ true)
      (made : (target : SetOfVectors) → Contains asked.targets target → (x : Configuration) → Good x → Made target x → target x.state ≡ true)
      (comes : (target : SetOfVectors) → Contains asked.targets target → (x : Configuration) → Good x → SomePathMeets Step Anything (Made target) x) where
    vector : (x : Configuration) → Good x → IsVector sys x.state
    vector x good = reached_state sys plan ok x (reached x good)

    module _ (left near target : SetOfVectors) (among : Contains asked.targets target) (coming : HasAllComing sys left asked.guard target near) (has_left : (x : Configuration) → Good x → left x.state ≡ true) where
      come_near : (rest : List Configuration) (x : Configuration) → Good x → IsPath Step x rest → Meets Anything (Made target) (x ∷ rest) → near x.state ≡ true
      come_near [] x good path m =
          ⊎_elim
          (λ (h : Made target x). coming.made x.state (vector x good) (made target among x good h))
          (λ (l : Anything x × Meets Anything (Made target) []). absurd (meets_nothing Anything (Made target) l.1))
          (meets_cases Anything (Made target) x [] m)
      come_near (y ∷ rest) x good path m = go (target x.state) refl (come_near rest y)
        where
          go : (b : Bool) → target x.state ≡ b → (Good y → IsPath Step y rest → Meets Anything (Made target) (y ∷ rest) → near y.state ≡ true) → near x.state ≡ true
          go true e closer = coming.made x.state (vector x good) e
          go false e closer =
              let later : Meets Anything (Made target) (y ∷ rest) =
              ⊎_elim
              (λ (h : Made target x). absurd (true≢false (sym (made target among x good h) ∙ e)))
              (λ (l : Anything x × Meets Anything (Made target) (y ∷ rest)). l.1)
              (meets_cases Anything (Made target) x (y ∷ rest) m) in
              let step = path.0 in
              coming.closed x.state step.action (vector x good) (guards target among x good e)
              (action_led left x step.action (reached x good) step.acts (λ z follows. has_left z (comes_on target among x z good e follows)))
              (list_any-from near (sys.next x.state step.action) y.state step.outcome (closer (comes_on target among x y good e step) path.1 later))

    pub bounded : (set : SetOfVectors) → IsFairBound sys asked set → (x : Configuration) → Good x → set x.state ≡ true
    bounded _ (all_inside set more) x good = more x.state (vector x good) (lies_inside x good)
    bounded _ (all_staying left set next stays left_bound set_bound more) x good =
        more x.state (vector x good) (bounded set set_bound x good)
        (led_by sys ok plan complete left x (reached x good) (λ y step. bounded left left_bound y (goes_on stays x y good step)))
    bounded _ (all_coming left set near next target among left_bound set_bound coming more) x good =
        let way = comes target among x good in
        more x.state (vector x good) (bounded set set_bound x good)
        (come_near left near target among coming (bounded left left_bound) way.rest x good way.path way.meets)
