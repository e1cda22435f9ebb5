-- Runs of a table of first matching rules: what each class asks, one state at a time.
use Rattle.std.proofs.Common.{◌≡◌, ℕ, zero, suc, ◌+◌, ◌^◌, Bool, true, List, [], ◌∷◌, ◌++◌, Option, Some, None, length, refl, sym, ap, ◌∙◌, subst, arith}
use Rattle.std.specs.List.{Contains}
use Rattle.std.proofs.lemmas.List.{length-append}
use Rattle.task_core.specs.Paths.{IsPath, last_of}
use Rattle.task_core.specs.Solutions.{IsReached, MayEnd, MayReachGoal}
use Rattle.task_core.specs.Systems.{System, Exec, HasOutcome, IsSystem, IsVector, goal_states}
use Rattle.task_core.specs.Tables.{IsTerminal, Leads, Reaches}
use Rattle.task_core.specs.Vectors.{Vector}
use Rattle.task_core.specs.declared.classes.Class.TheVariants.{Weak, Strong, Cyclic}
use Rattle.task_core.proofs.Paths.{last_onward, path_onward}
use Rattle.plan_rules.specs.Rules.{PlanRule}
use Rattle.plan_theory.proofs.NoStrong.{strong_is_bounded}
use Rattle.first_match.specs.FirstMatch.{CanFollowFirst, SolvesAsRun, first_rule, run_table}
use Rattle.first_match.proofs.RunPairs.{no_pair, pair_executable, reached_first, reached_keeps, reached_on, reached_vector, rule_pair, single}

-- from a state the rules may come to their end: to a goal state that none of them matches
pub record MayStop (sys : System) (rules : List PlanRule) (s : Vector) : Type 0 where
  pub end : Vector
  pub reached : Reaches sys (run_table sys rules) s end
  pub free : first_rule rules end ≡ None
  pub goal : Contains (goal_states sys) end

-- from a state they are sure to
pub data SureToStop (sys : System) (rules : List PlanRule) : Vector → Type 0 where
  stops : (s : Vector) → first_rule rules s ≡ None → Contains (goal_states sys) s → SureToStop sys rules s
  goes : (s : Vector) (a : ℕ) → Contains (run_table sys rules) (s, a) → ((t : Vector) → HasOutcome sys s a t → SureToStop sys rules t) → SureToStop sys rules s

module _ (sys : System) (ok : IsSystem sys) (rules : List PlanRule) where
  pub stop_here : (s : Vector) → first_rule rules s ≡ None → Contains (goal_states sys) s → MayStop sys rules s
  stop_here s free goal = record { end = s; reached = record { rest = []; path = tt; ends = refl }; free = free; goal = goal }

  pub stop_later : (s : Vector) (a : ℕ) (t : Vector) → Contains (run_table sys rules) (s, a) → HasOutcome sys s a t → MayStop sys rules t → MayStop sys rules s
  stop_later s a t pair outcome may = record {
    end = may.end;
    reached = record { rest = t ∷ may.reached.rest; path = (record { action = a; pair = pair; outcome = outcome }, may.reached.path); ends = may.reached.ends };
    free = may.free;
    goal = may.goal;
  }

  -- a state that may stop has a rule that can be followed, or none and is a goal state
  pub stop_follows : (s : Vector) (rule : PlanRule) → MayStop sys rules s → first_rule rules s ≡ Some rule → Exec sys s rule.action
  stop_follows s rule may is = go may.reached.rest may.reached.path may.reached.ends
    where
      go : (rest : List Vector) → IsPath (Leads sys (run_table sys rules)) s rest → last_of s rest ≡ may.end → Exec sys s rule.action
      go [] path ends = (let e : None ≡ Some rule = sym may.free ∙ ap (first_rule rules) (sym ends) ∙ is in absurd (cc))
      go (t ∷ rest) path ends = pair_executable sys ok rules s path.0.action rule path.0.pair is

  pub stop_goal : (s : Vector) → MayStop sys rules s → IsTerminal (run_table sys rules) s → Contains (goal_states sys) s
  stop_goal s may terminal = go may.reached.rest may.reached.path may.reached.ends
    where
      go : (rest : List Vector) → IsPath (Leads sys (run_table sys rules)) s rest → last_of s rest ≡ may.end → Contains (goal_states sys) s
      go [] path ends = subst (Contains (goal_states sys)) (sym ends) may.goal
      go (t ∷ rest) path ends = absurd (terminal path.0.action path.0.pair)

  -- where rules can be followed, a terminal state has no rule
  pub terminal_free : CanFollowFirst sys rules → (s : Vector) → IsReached sys (run_table sys rules) s → IsTerminal (run_table sys rules) s → first_rule rules s ≡ None
  terminal_free follow s reached terminal = go (first_rule rules s) refl
    where
      go : (o : Option PlanRule) → first_rule rules s ≡ o → first_rule rules s ≡ None
      go None e = e
      go (Some rule) e = absurd (terminal rule.action (rule_pair sys ok rules s rule (reached_vector sys ok rules s reached) e (follow s rule reached e)))

  -- weak solutions
  pub weak_from : CanFollowFirst sys rules → ((s : Vector) → Contains sys.initial s → MayStop sys rules s) → SolvesAsRun Weak sys rules
  weak_from follow may = record {
    followed = follow;
    solves = λ s initial. let m = may s initial in record { end = m.end; reached = m.reached; terminal = no_pair sys ok rules m.end m.free; goal = m.goal };
  }

  pub weak_to : SolvesAsRun Weak sys rules → (s : Vector) → Contains sys.initial s → MayStop sys rules s
  weak_to run s initial =
      let m : MayReachGoal sys (run_table sys rules) s = run.solves s initial in
      record { end = m.end; reached = m.reached; free = terminal_free run.followed m.end (reached_on sys ok rules s m.end (reached_first sys ok rules s initial) m.reached) m.terminal; goal = m.goal }

  -- strong cyclic solutions
  pub cyclic_from : ((s : Vector) → IsReached sys (run_table sys rules) s → MayStop sys rules s) → SolvesAsRun Cyclic sys rules
  cyclic_from may = record {
    followed = λ s rule reached is. stop_follows s rule (may s reached) is;
    solves = record {
      ends_in_goal = λ s reached terminal. stop_goal s (may s reached) terminal;
      may_end = λ s reached. let m = may s reached in record { end = m.end; reached = m.reached; terminal = no_pair sys ok rules m.end m.free };
    };
  }

  pub cyclic_to : SolvesAsRun Cyclic sys rules → (s : Vector) → IsReached sys (run_table sys rules) s → MayStop sys rules s
  cyclic_to run s reached =
      let m : MayEnd sys (run_table sys rules) s = run.solves.may_end s reached in
      let there = reached_on sys ok rules s m.end reached m.reached in
      record { end = m.end; reached = m.reached; free = terminal_free run.followed m.end there m.terminal; goal = run.solves.ends_in_goal m.end there m.terminal }

  -- strong solutions
  pub sure_step : (s t : Vector) → SureToStop sys rules s → Leads sys (run_table sys rules) s t → SureToStop sys rules t
  sure_step _ t (stops s free goal) lead = absurd (no_pair sys ok rules s free lead.action lead.pair)
  sure_step _ t (goes s a pair on) lead = on t (subst (λ b. HasOutcome sys s b t) (single sys ok rules s lead.action a lead.pair pair) lead.outcome)

  no_round : (s : Vector) → SureToStop sys rules s → (t : Vector) (rest : List Vector) → IsPath (Leads sys (run_table sys rules)) s (t ∷ rest) → last_of t rest ≡ s → ⊥
  no_round _ (stops s free goal) t rest path back = no_pair sys ok rules s free path.0.action path.0.pair
  no_round _ (goes s a pair on) t rest path back =
      turned rest (path_onward (Leads sys (run_table sys rules)) t rest t path.1 (subst (λ v. Leads sys (run_table sys rules) v t) (sym back) path.0)) (no_round t (on t (subst (λ b. HasOutcome sys s b t) (single sys ok rules s path.0.action a path.0.pair pair) path.0.outcome)))
    where
      turned : (more : List Vector) → IsPath (Leads sys (run_table sys rules)) t (more ++ t ∷ [])
          → ((u : Vector) (rest : List Vector) → IsPath (Leads sys (run_table sys rules)) t (u ∷ rest) → last_of u rest ≡ t → ⊥) → ⊥
      turned [] around none = none t [] around refl
      turned (u ∷ more) around none = none u (more ++ t ∷ []) around (last_onward u more t)

  sure_follows : (s : Vector) (rule : PlanRule) → SureToStop sys rules s → first_rule rules s ≡ Some rule → Exec sys s rule.action
  sure_follows _ rule (stops s free goal) is = (let e : None ≡ Some rule = sym free ∙ is in absurd (cc))
  sure_follows _ rule (goes s a pair on) is = pair_executable sys ok rules s a rule pair is

  sure_goal : (s : Vector) → SureToStop sys rules s → IsTerminal (run_table sys rules) s → Contains (goal_states sys) s
  sure_goal _ (stops s free goal) terminal = goal
  sure_goal _ (goes s a pair on) terminal = absurd (terminal a pair)

  pub strong_from : ((s : Vector) → Contains sys.initial s → SureToStop sys rules s) → SolvesAsRun Strong sys rules
  strong_from sure =
      let all : (s : Vector) → IsReached sys (run_table sys rules) s → SureToStop sys rules s = reached_keeps sys ok rules (SureToStop sys rules) sure sure_step in
      record {
        followed = λ s rule reached is. sure_follows s rule (all s reached) is;
        solves = record {
          no_cycle = λ s t rest reached path back. no_round s (all s reached) t rest path back;
          ends_in_goal = λ s reached terminal. sure_goal s (all s reached) terminal;
        };
      }

-- a set with each goal state that no rule matches, and with each state from which some, or every,
-- outcome of a pair lies in the set
pub record IsClosed (sys : System) (rules : List PlanRule) (X : Vector → Bool) (Into : Vector → ℕ → Type 0) : Type 0 where
  pub ends : (s : Vector) → IsVector sys s → first_rule rules s ≡ None → Contains (goal_states sys) s → X s ≡ true
  pub steps : (s : Vector) (a : ℕ) → Contains (run_table sys rules) (s, a) → Into s a → X s ≡ true

abbrev pub SomeInto : System → (Vector → Bool) → Vector → ℕ → Type 0
SomeInto sys X s a = (t : Vector) × HasOutcome sys s a t × (X t ≡ true)

abbrev pub AllInto : System → (Vector → Bool) → Vector → ℕ → Type 0
AllInto sys X s a = (t : Vector) → HasOutcome sys s a t → X t ≡ true

module _ (sys : System) (ok : IsSystem sys) (rules : List PlanRule) (X : Vector → Bool) where
  -- from where the rules may stop, back
  pub stop_in : IsClosed sys rules X (SomeInto sys X) → (s : Vector) → IsVector sys s → MayStop sys rules s → X s ≡ true
  stop_in closed s is may = go may.reached.rest s is may.reached.path may.reached.ends
    where
      go : (rest : List Vector) (x : Vector) → IsVector sys x → IsPath (Leads sys (run_table sys rules)) x rest → last_of x rest ≡ may.end → X x ≡ true
      go [] x is path ends = closed.ends x is (ap (first_rule rules) ends ∙ may.free) (subst (Contains (goal_states sys)) (sym ends) may.goal)
      go (t ∷ rest) x is path ends =
          closed.steps x path.0.action path.0.pair (t, path.0.outcome, go rest t (ok.next x path.0.action t path.0.outcome).vector path.1 ends)

  -- a strong solution has no path that is longer than there are states
  pub sure_in : IsClosed sys rules X (AllInto sys X) → SolvesAsRun Strong sys rules → (s : Vector) → Contains sys.initial s → X s ≡ true
  sure_in closed run s initial = go (suc (2 ^ sys.fluents)) s [] tt refl (omega arith)
    where
      go : (fuel : ℕ) (x : Vector) (rest : List Vector) → IsPath (Leads sys (run_table sys rules)) s rest → last_of s rest ≡ x → length rest + fuel ≡ suc (2 ^ sys.fluents) → X x ≡ true
      go zero x rest path ends count = let few = strong_is_bounded sys ok (run_table sys rules) run.solves s initial rest path in absurd (omega arith)
      go (suc fuel) x rest path ends count =
          let reached : IsReached sys (run_table sys rules) x = record { start = s; initial = initial; path = record { rest = rest; path = path; ends = ends } } in
          let vector = reached_vector sys ok rules x reached in
          let next : (t : Vector) → Leads sys (run_table sys rules) x t → X t ≡ true =
          λ t lead. go fuel t (rest ++ t ∷ []) (path_onward (Leads sys (run_table sys rules)) s rest t path (subst (λ v. Leads sys (run_table sys rules) v t) (sym ends) lead)) (last_onward s rest t) (let e = length-append rest (t ∷ []) in omega arith) in
          by_rule x reached vector next (first_rule rules x) refl
        where
          by_rule : (x : Vector) → IsReached sys (run_table sys rules) x → IsVector sys x → ((t : Vector) → Leads sys (run_table sys rules) x t → X t ≡ true) → (o : Option PlanRule) → first_rule rules x ≡ o → X x ≡ true
          by_rule x reached vector next None e = closed.ends x vector e (run.solves.ends_in_goal x reached (no_pair sys ok rules x e))
          by_rule x reached vector next (Some rule) e =
              let pair = rule_pair sys ok rules x rule vector e (run.followed x rule reached e) in
              closed.steps x rule.action pair (λ t outcome. next t (record { action = rule.action; pair = pair; outcome = outcome }))
