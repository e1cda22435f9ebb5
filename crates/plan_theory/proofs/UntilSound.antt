-- A plan that acts as printed for an until-chain goes on for ever within the states of its contexts,
-- and has the until-chain.
use Rattle.std.proofs.Common.{◌≡◌, ℕ, zero, suc, ◌-◌, ◌≤◌, ◌^◌, Bool, true, false, List, [], ◌∷◌, drop, length, Some, refl, sym, ◌∙◌, ap, subst, arith, inr}
use Rattle.std.proofs.lemmas.Bool.{and_parts}
use Rattle.std.proofs.lemmas.List.{length-drop}
use Rattle.std.proofs.lemmas.Option.{same_Some}
use Rattle.ctl_syntax.specs.Goals.{plain, all, goal_row}
use Rattle.ctl_syntax.specs.Paths.{Keeps, Meets}
use Rattle.ctl_syntax.specs.Truth.{Satisfies}
use Rattle.ctl_syntax.proofs.Meeting.{keeps_more, keeps_nothing, meets_here, meets_later}
use Rattle.task_core.specs.ContextPlans.{Configuration, ContextPlan, Follows, GoesOn, IsInitial}
use Rattle.task_core.specs.Paths.{IsPath}
use Rattle.task_core.specs.Cubes.{SetOfVectors}
use Rattle.task_core.specs.Systems.{System, HasOutcome, IsVector, IsSystem}
use Rattle.list_laws.proofs.Elements.{list_all-at}
use Rattle.plan_theory.specs.UntilChains.{SetStage, StateIsIn, UntilSets, covers_until, guarded_from, until_advance, until_contexts, until_met, until_met_count, until_tree, until_win, until_win_at}
use Rattle.plan_theory.specs.UntilPlans.{ActsAsUntil, IsUntilPlan}
use Rattle.plan_theory.specs.UntilPrinted.{until_towards}
use Rattle.plan_theory.specs.Safe.{safe_set}
use Rattle.plan_theory.specs.GuardedSets.{guarded_near}
use Rattle.plan_theory.proofs.Leading.{leads_at, leads_exec}
use Rattle.plan_theory.proofs.PlanRuns.{has_value, reached_keeps, by_action}
use Rattle.plan_theory.proofs.SafeSets.{safe_set-largest}
use Rattle.plan_theory.proofs.GuardedSets.{guard_holds, guarded_acts, in_guarded_set, near-grows}
use Rattle.plan_theory.proofs.UntilTowards.{ActsOnward, advance-first, advance-last, chain_acts, drop-next, met_count-few, met_count-here, met_count-more, stages_from-advance, stages_from-end, win_at-advance}

module _ (sys : System) (ok : IsSystem sys) (chain : UntilSets) (plan : ContextPlan) (printed : ActsAsUntil sys chain plan) where
  -- the state is one of the context
  record Inside (x : Configuration) : Type 0 where
    state : IsVector sys x.state
    first : 1 ≤ x.context
    last : x.context ≤ until_contexts chain
    wins : until_win_at sys chain x.context x.state ≡ true

  abbrev left : Configuration → List SetStage
  left x = guarded_from x.context chain.stages

  abbrev turn : Configuration → ℕ
  turn x = until_advance sys chain x.context x.state

  acts : (x : Configuration) → Inside x → ActsOnward sys chain.keep (guarded_from (turn x) chain.stages) x.state
  acts x i = chain_acts sys chain x.context x.state i.first ok i.state i.wins

  takes : (x : Configuration) (i : Inside x) → plan.act x.state x.context ≡ Some (acts x i).action
  takes x i = printed.acts x.state x.context i.state i.first i.last i.wins ∙ (acts x i).chosen

  goes_on : (x : Configuration) → Inside x → GoesOn sys plan x
  goes_on x i = record {
    action = (acts x i).action;
    acts = takes x i;
    executable = leads_exec sys (until_win_at sys chain (turn x)) x.state (acts x i).action (acts x i).leads;
    contexts = λ t o. has_value (plan.ctxt x.state x.context t) (turn x) (printed.goes_on x.state x.context t i.state i.first i.last i.wins);
  }

  -- what follows is in the context of the first unmet stage
  next_context : (x y : Configuration) → Inside x → Follows sys plan x y → y.context ≡ turn x
  next_context x y i f = same_Some y.context (turn x) (sym f.context ∙ printed.goes_on x.state x.context y.state i.state i.first i.last i.wins)

  inside_next : (x y : Configuration) → Inside x → Follows sys plan x y → Inside y
  inside_next x y i f =
      let same = next_context x y i f in
      let low = advance-first sys chain x.context x.state i.first in
      let high = advance-last sys chain x.context x.state i.first i.last in
      record {
        state = (ok.next x.state f.action y.state f.outcome).vector;
        first = subst (λ c. 1 ≤ c) (sym same) low;
        last = subst (λ c. c ≤ until_contexts chain) (sym same) high;
        wins = ap (λ c. until_win_at sys chain c y.state) same ∙ leads_at sys (until_win_at sys chain (turn x)) x.state (acts x i).action (acts x i).leads y.state (by_action sys plan x y (acts x i).action (takes x i) f);
      }

  -- once all stages are met, the set is kept
  record AtEnd (x : Configuration) : Type 0 where
    inside : Inside x
    ends : turn x ≡ until_contexts chain

  end_kept : (x : Configuration) → AtEnd x → chain.keep x.state ≡ true
  end_kept x e =
      let i = e.inside in
      let safe : safe_set sys chain.keep x.state ≡ true = ap (λ s. until_win sys chain.keep s x.state) (sym (stages_from-end chain)) ∙ (ap (λ c. until_win_at sys chain c x.state) (sym e.ends) ∙ win_at-advance sys chain x.context x.state i.first i.wins) in
      (safe_set-largest sys chain.keep ok).safe.inside x.state i.state safe

  end_next : (x y : Configuration) → AtEnd x → Follows sys plan x y → AtEnd y
  end_next x y e f =
      let i = inside_next x y e.inside f in
      let same = next_context x y e.inside f in
      let high = advance-last sys chain y.context y.state i.first i.last in
      let there = e.ends in
      record { inside = i; ends = omega arith }

  end_keeps : (x : Configuration) (rest : List Configuration) → AtEnd x → IsPath (Follows sys plan) x rest → Keeps (StateIsIn chain.keep) (x ∷ rest)
  end_keeps x [] e path = keeps_more (StateIsIn chain.keep) x [] (end_kept x e) (keeps_nothing (StateIsIn chain.keep))
  end_keeps x (y ∷ rest) e path = keeps_more (StateIsIn chain.keep) x (y ∷ rest) (end_kept x e) (end_keeps y rest (end_next x y e path.0) path.1)

  -- the rest of the chain is true at the configurations that are on the way to its first stage
  record IsFor (rest : List SetStage) (x : Configuration) : Type 0 where
    inside : Inside x
    place : ℕ
    is : drop place (left x) ≡ rest
    within : place ≤ until_met_count sys chain.keep (left x) x.state

  abbrev IsTrue : List SetStage → Configuration → Type 0
  IsTrue rest x = Satisfies (Follows sys plan) StateIsIn (until_tree rest chain.keep) x

  for_end : (x : Configuration) → IsFor [] x → AtEnd x
  for_end x for =
      let i = for.inside in
      let none : length (left x) - for.place ≡ 0 = sym (length-drop for.place (left x)) ∙ ap length for.is in
      let few = met_count-few sys chain.keep x.state (left x) in
      let long = length-drop (x.context - 1) chain.stages in
      let low = i.first in
      let high = i.last in
      let within = for.within in
      record { inside = i; ends = omega arith }

  module _ (p : SetStage) (rest : List SetStage) (later : (x : Configuration) → IsFor rest x → IsTrue rest x) where
    abbrev met : SetOfVectors
    met = until_met sys chain.keep p rest

    abbrev IsMet : Configuration → Type 0
    IsMet x = Satisfies (Follows sys plan) StateIsIn (all (goal_row (plain p.target ∷ until_tree rest chain.keep ∷ []))) x

    met_here : (x : Configuration) → IsFor (p ∷ rest) x → met x.state ≡ true → IsMet x
    met_here x for e = (
      (and_parts (p.target x.state) (until_win sys chain.keep rest x.state) e).0,
      (
        later x (record {
          inside = for.inside;
          place = suc for.place;
          is = drop-next for.place (left x) p rest for.is;
          within = met_count-more sys chain.keep x.state (left x) for.place p rest for.is for.within e;
        }),
        tt,
      ),
    )

    -- where the stage isn't met yet, what follows is on the way to it and one step nearer
    still_for : (x y : Configuration) → IsFor (p ∷ rest) x → met x.state ≡ false → Follows sys plan x y → IsFor (p ∷ rest) y
    still_for x y for e f =
        let same = met_count-here sys chain.keep x.state (left x) for.place p rest for.is for.within e in
        record {
          inside = inside_next x y for.inside f;
          place = 0;
          is = ap (λ c. guarded_from c chain.stages) (next_context x y for.inside f) ∙ (stages_from-advance sys chain x.context x.state for.inside.first ∙ (ap (λ n. drop n (left x)) same ∙ for.is));
          within = omega arith;
        }

    towards : (x : Configuration) (for : IsFor (p ∷ rest) x) → met x.state ≡ false → guarded_from (turn x) chain.stages ≡ p ∷ rest
    towards x for e =
        let same = met_count-here sys chain.keep x.state (left x) for.place p rest for.is for.within e in
        stages_from-advance sys chain x.context x.state for.inside.first ∙ (ap (λ n. drop n (left x)) same ∙ for.is)

    nearer : (x y : Configuration) → IsFor (p ∷ rest) x → met x.state ≡ false → Follows sys plan x y → (m : ℕ) → guarded_near sys p.guard met (suc m) x.state ≡ true → guarded_near sys p.guard met m y.state ≡ true
    nearer x y for e f m h =
        let i = for.inside in
        let a = guarded_acts sys p.guard met x.state (in_guarded_set sys p.guard met ok (suc m) x.state i.state h) e in
        let same : f.action ≡ a.0 = same_Some f.action a.0 (sym f.acts ∙ (printed.acts x.state x.context i.state i.first i.last i.wins ∙ (ap (λ s. until_towards sys chain.keep s x.state) (towards x for e) ∙ a.1.chosen))) in
        leads_at sys (guarded_near sys p.guard met m) x.state a.0 (a.1.leads m h) y.state (subst (λ b. HasOutcome sys x.state b y.state) same f.outcome)

    meets_within : (m : ℕ) (x : Configuration) → IsFor (p ∷ rest) x → guarded_near sys p.guard met m x.state ≡ true → (path : List Configuration) → length path ≡ m → IsPath (Follows sys plan) x path → Meets (StateIsIn p.guard) IsMet (x ∷ path)
    meets_within zero x for h path long run = meets_here (StateIsIn p.guard) IsMet x path (met_here x for h)
    meets_within (suc m) x for h [] long run = absurd (omega arith)
    meets_within (suc m) x for h (y ∷ path) long run = go (met x.state) refl (meets_within m y)
      where
        go : (b : Bool) → met x.state ≡ b
            → (IsFor (p ∷ rest) y → guarded_near sys p.guard met m y.state ≡ true → (path : List Configuration) → length path ≡ m → IsPath (Follows sys plan) y path → Meets (StateIsIn p.guard) IsMet (y ∷ path))
            → Meets (StateIsIn p.guard) IsMet (x ∷ y ∷ path)
        go true e further = meets_here (StateIsIn p.guard) IsMet x (y ∷ path) (met_here x for e)
        go false e further = meets_later (StateIsIn p.guard) IsMet x (y ∷ path) (guard_holds sys p.guard met x.state (suc m) h e) (further (still_for x y for e run.0) (nearer x y for e run.0 m h) path (omega arith) run.1)

    near_first : (x : Configuration) → IsFor (p ∷ rest) x → guarded_near sys p.guard met (2 ^ sys.fluents) x.state ≡ true
    near_first x for = go (met x.state) refl
      where
        go : (b : Bool) → met x.state ≡ b → guarded_near sys p.guard met (2 ^ sys.fluents) x.state ≡ true
        go true e = near-grows sys p.guard met x.state 0 (2 ^ sys.fluents) (omega arith) e
        go false e = let i = for.inside in ap (λ s. until_win sys chain.keep s x.state) (sym (towards x for e)) ∙ win_at-advance sys chain x.context x.state i.first i.wins

    -- so it is met within as many steps as there are states
    stage_true : (x : Configuration) → IsFor (p ∷ rest) x → IsTrue (p ∷ rest) x
    stage_true x for = record { steps = 2 ^ sys.fluents; meets = λ path long run. meets_within (2 ^ sys.fluents) x for (near_first x for) path long run }

  chain_true : (rest : List SetStage) (x : Configuration) → IsFor rest x → IsTrue rest x
  chain_true [] x for = λ n path long run. inr (end_keeps x path (for_end x for) run)
  chain_true (p ∷ rest) x for = stage_true p rest (chain_true rest) x for

  module _ (covered : covers_until sys chain ≡ true) where
    inside_first : (x : Configuration) → IsInitial sys x → Inside x
    inside_first x initial =
        let same = initial.context in
        record {
          state = (ok.initial x.state initial.state).vector;
          first = omega arith;
          last = omega arith;
          wins = ap (λ c. until_win_at sys chain c x.state) same ∙ list_all-at (until_win_at sys chain 1) sys.initial x.state covered initial.state;
        }

    pub plan_solves : IsUntilPlan sys chain plan
    plan_solves = record {
      complete = λ x reached. goes_on x (reached_keeps sys plan Inside inside_next inside_first x reached);
      has = λ x initial. chain_true chain.stages x (record { inside = inside_first x initial; place = 0; is = ap (λ c. guarded_from c chain.stages) initial.context; within = omega arith });
    }
