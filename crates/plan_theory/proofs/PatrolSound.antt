-- A plan that acts as printed for a patrol goal goes on for ever within the states of the plan, and
-- makes every visit again and again.
use Rattle.std.proofs.Common.{◌≡◌, ◌⊎◌, ℕ, zero, suc, ◌+◌, ◌-◌, ◌<◌, ◌≤◌, ◌^◌, Bool, true, false, List, [], ◌∷◌, length, map, Some, refl, sym, ◌∙◌, ap, subst, arith, inl, inr, ⊎_elim}
use Rattle.std.specs.Prelude.{◌==◌, get_or}
use Rattle.std.specs.List.{Contains}
use Rattle.std.proofs.lemmas.Bool.{cases_eq, cond-false, cond-true, eq-eqb, ne_eqb, true≢false}
use Rattle.std.proofs.lemmas.List.{get_or_default}
use Rattle.std.proofs.lemmas.Option.{same_Some}
use Rattle.ctl_syntax.specs.Goals.{plain, af, goal_row}
use Rattle.ctl_syntax.specs.Paths.{EveryPathMeets, Keeps, Meets}
use Rattle.ctl_syntax.specs.Truth.{Anything, SatisfiesAll}
use Rattle.ctl_syntax.proofs.Meeting.{keeps_more, keeps_nothing, meets_here, meets_later}
use Rattle.task_core.specs.ContextPlans.{Configuration, ContextPlan, Follows, GoesOn, IsInitial}
use Rattle.task_core.specs.Paths.{IsPath}
use Rattle.task_core.specs.Cubes.{SetOfVectors}
use Rattle.task_core.specs.Systems.{System, HasOutcome, IsVector, IsSystem}
use Rattle.task_core.specs.Vectors.{Vector}
use Rattle.list_laws.proofs.Elements.{Contains-cons, Contains-head, list_all-at}
use Rattle.plan_theory.specs.UntilChains.{StateIsIn}
use Rattle.plan_theory.specs.Patrols.{HasPatrol, covers_patrol, patrol_set, visit_near}
use Rattle.plan_theory.specs.PatrolPlans.{ActsAsPatrol, IsPatrolPlan}
use Rattle.plan_theory.specs.PatrolPrinted.{context_after, patrol_next, visit_in}
use Rattle.plan_theory.proofs.Leading.{leads_at, leads_exec}
use Rattle.plan_theory.proofs.PatrolSets.{ActsInPatrol, acts_in_patrol, made_in, nears_visit, patrol_set-largest, visit_among}
use Rattle.plan_theory.proofs.PlanRuns.{has_value, reached_keeps, by_action}

-- contexts follow one another, and after the last one comes the first

pub after_first : (m c : ℕ) → 1 ≤ c → c ≤ m → 1 ≤ context_after m c
after_first m c first last = go (c == m) refl
  where
    go : (b : Bool) → (c == m) ≡ b → 1 ≤ context_after m c
    go true e = let is = cond-true (c == m) 1 (suc c) e in omega arith
    go false e = let is = cond-false (c == m) 1 (suc c) e in omega arith

after_is : (m c : ℕ) → c < m → context_after m c ≡ suc c
after_is m c below = cond-false (c == m) 1 (suc c) (ne_eqb c m (λ e. absurd (omega arith)))

after_last_is : (m : ℕ) → context_after m m ≡ 1
after_last_is m = cond-true (m == m) 1 (suc m) (eq-eqb m m refl)

pub after_last : (m c : ℕ) → 1 ≤ c → c ≤ m → context_after m c ≤ m
after_last m c first last =
    ⊎_elim (λ (e : c ≡ m). let is = ap (context_after m) e ∙ after_last_is m in omega arith)
    (λ n. let is = after_is m c (omega arith) in omega arith)
    (cases_eq c m)

-- the context after so many turns
abbrev turned : ℕ → ℕ → ℕ → ℕ
turned m zero c = c
turned m (suc d) c = turned m d (context_after m c)

turned_on : (m d c : ℕ) → c + d ≤ m → turned m d c ≡ c + d
turned_on m zero c l = omega arith
turned_on m (suc d) c l =
    let e : suc c + d ≡ c + suc d = omega arith in
    ap (turned m d) (after_is m c (omega arith)) ∙ (turned_on m d (suc c) (omega arith) ∙ e)

-- every context comes after every other
turns_to : (m i : ℕ) → 1 ≤ i → i ≤ m → (e c : ℕ) → c + e ≡ m → (d : ℕ) × (turned m d c ≡ i)
turns_to m i first last zero c is =
    let same : c ≡ m = omega arith in
    let back : 1 + (i - 1) ≡ i = omega arith in
    (suc (i - 1), ap (turned m (i - 1)) (ap (context_after m) same ∙ after_last_is m) ∙ (turned_on m (i - 1) 1 (omega arith) ∙ back))
turns_to m i first last (suc e) c is =
    let more = turns_to m i first last e (suc c) (omega arith) in
    (suc more.0, ap (turned m more.0) (after_is m c (omega arith)) ∙ more.1)

-- where the visit is made the next context is the one after, elsewhere it stays
module _ (visits : List SetOfVectors) (c : ℕ) (v : Vector) where
  turn_made : visit_in visits c v ≡ true → patrol_next visits c v ≡ context_after (length visits) c
  turn_made e = cond-true (visit_in visits c v) (context_after (length visits) c) c e

  turn_unmade : visit_in visits c v ≡ false → patrol_next visits c v ≡ c
  turn_unmade e = cond-false (visit_in visits c v) (context_after (length visits) c) c e

  pub next_first : 1 ≤ c → c ≤ length visits → 1 ≤ patrol_next visits c v
  next_first first last = go (visit_in visits c v) refl
    where
      go : (b : Bool) → visit_in visits c v ≡ b → 1 ≤ patrol_next visits c v
      go true e = subst (λ n. 1 ≤ n) (sym (turn_made e)) (after_first (length visits) c first last)
      go false e = subst (λ n. 1 ≤ n) (sym (turn_unmade e)) first

  pub next_last : 1 ≤ c → c ≤ length visits → patrol_next visits c v ≤ length visits
  next_last first last = go (visit_in visits c v) refl
    where
      go : (b : Bool) → visit_in visits c v ≡ b → patrol_next visits c v ≤ length visits
      go true e = subst (λ n. n ≤ length visits) (sym (turn_made e)) (after_last (length visits) c first last)
      go false e = subst (λ n. n ≤ length visits) (sym (turn_unmade e)) last

module _ (sys : System) (ok : IsSystem sys) (visits : List SetOfVectors) (plan : ContextPlan) (printed : ActsAsPatrol sys visits plan) where
  abbrev states : SetOfVectors
  states = patrol_set sys visits

  abbrev last_context : ℕ
  last_context = length visits

  -- the state is one of the plan
  record Inside (x : Configuration) : Type 0 where
    state : IsVector sys x.state
    first : 1 ≤ x.context
    last : x.context ≤ last_context
    wins : states x.state ≡ true

  abbrev turn : Configuration → ℕ
  turn x = patrol_next visits x.context x.state

  acts : (x : Configuration) → Inside x → ActsInPatrol sys visits x.context x.state
  acts x i = acts_in_patrol sys ok visits x.context i.first i.last x.state i.state i.wins

  takes : (x : Configuration) (i : Inside x) → plan.act x.state x.context ≡ Some (acts x i).action
  takes x i = printed.acts x.state x.context i.state i.first i.last i.wins ∙ (acts x i).chosen

  goes_on : (x : Configuration) → Inside x → GoesOn sys plan x
  goes_on x i = record {
    action = (acts x i).action;
    acts = takes x i;
    executable = leads_exec sys states x.state (acts x i).action (acts x i).leads;
    contexts = λ t o. has_value (plan.ctxt x.state x.context t) (turn x) (printed.goes_on x.state x.context t i.state i.first i.last i.wins);
  }

  next_context : (x y : Configuration) → Inside x → Follows sys plan x y → y.context ≡ turn x
  next_context x y i f = same_Some y.context (turn x) (sym f.context ∙ printed.goes_on x.state x.context y.state i.state i.first i.last i.wins)

  inside_next : (x y : Configuration) → Inside x → Follows sys plan x y → Inside y
  inside_next x y i f =
      let same = next_context x y i f in
      record {
        state = (ok.next x.state f.action y.state f.outcome).vector;
        first = subst (λ c. 1 ≤ c) (sym same) (next_first visits x.context x.state i.first i.last);
        last = subst (λ c. c ≤ last_context) (sym same) (next_last visits x.context x.state i.first i.last);
        wins = leads_at sys states x.state (acts x i).action (acts x i).leads y.state (by_action sys plan x y (acts x i).action (takes x i) f);
      }

  abbrev near_visit : ℕ → ℕ → SetOfVectors
  near_visit c = visit_near sys states (visit_in visits c)

  near_first : (x : Configuration) → Inside x → near_visit x.context (2 ^ sys.fluents) x.state ≡ true
  near_first x i = (patrol_set-largest sys visits ok).patrol.each x.state (visit_in visits x.context) i.state i.wins (visit_among visits x.context i.first i.last)

  -- where the visit isn't made yet, what follows is one step nearer to it
  nearer : (x y : Configuration) (i : Inside x) → visit_in visits x.context x.state ≡ false → Follows sys plan x y → (m : ℕ) → near_visit x.context (suc m) x.state ≡ true → near_visit x.context m y.state ≡ true
  nearer x y i e f m h =
      let a = nears_visit sys ok visits x.context i.first i.last x.state i.state i.wins e in
      let same : f.action ≡ a.0 = same_Some f.action a.0 (sym f.acts ∙ (printed.acts x.state x.context i.state i.first i.last i.wins ∙ a.1.chosen)) in
      leads_at sys (near_visit x.context m) x.state a.0 (a.1.leads m h) y.state (subst (λ b. HasOutcome sys x.state b y.state) same f.outcome)

  -- a state with no step left to the visit makes it
  near_none : (x : Configuration) → near_visit x.context 0 x.state ≡ true → visit_in visits x.context x.state ≡ false → ⊥
  near_none x h e = true≢false (sym (made_in sys states (visit_in visits x.context) x.state h) ∙ e)

  -- a set comes about within n steps
  abbrev Comes : SetOfVectors → ℕ → Configuration → Type 0
  Comes set zero x = StateIsIn set x
  Comes set (suc n) x = StateIsIn set x ⊎ ((y : Configuration) → Follows sys plan x y → Comes set n y)

  comes_more : (set : SetOfVectors) (n : ℕ) (x : Configuration) → Comes set n x → Comes set (suc n) x
  comes_more set zero x h = inl h
  comes_more set (suc n) x h = ⊎_elim (λ here. inl here) (λ later. inr (λ y f. comes_more set n y (later y f))) h

  comes_met : (set : SetOfVectors) (n : ℕ) (x : Configuration) → Comes set n x → (path : List Configuration) → length path ≡ n → IsPath (Follows sys plan) x path → Meets Anything (StateIsIn set) (x ∷ path)
  comes_met set zero x h path long run = meets_here Anything (StateIsIn set) x path h
  comes_met set (suc n) x h [] long run = absurd (omega arith)
  comes_met set (suc n) x h (y ∷ path) long run =
      ⊎_elim (λ here. meets_here Anything (StateIsIn set) x (y ∷ path) here)
      (λ later. meets_later Anything (StateIsIn set) x (y ∷ path) tt (comes_met set n y (later y run.0) path (omega arith) run.1))
      h

  -- a context's own visit
  comes_own : (k : ℕ) (x : Configuration) → Inside x → near_visit x.context k x.state ≡ true → Comes (visit_in visits x.context) k x
  comes_own k x i h = by_context x.context k x i refl h
    where
      by_context : (c k : ℕ) (x : Configuration) → Inside x → x.context ≡ c → near_visit x.context k x.state ≡ true → Comes (visit_in visits c) k x
      by_context c zero x i same h = ap (λ n. visit_in visits n x.state) (sym same) ∙ made_in sys states (visit_in visits x.context) x.state h
      by_context c (suc k) x i same h = go (visit_in visits x.context x.state) refl (by_context c k)
        where
          go : (b : Bool) → visit_in visits x.context x.state ≡ b → ((y : Configuration) → Inside y → y.context ≡ c → near_visit y.context k y.state ≡ true → Comes (visit_in visits c) k y) → Comes (visit_in visits c) (suc k) x
          go true e further = inl (ap (λ n. visit_in visits n x.state) (sym same) ∙ e)
          go false e further = inr (λ y f.
              let stays : y.context ≡ x.context = next_context x y i f ∙ turn_unmade visits x.context x.state e in
              further y (inside_next x y i f) (stays ∙ same) (ap (λ n. near_visit n k y.state) stays ∙ nearer x y i e f k h))

  -- so many steps more than the visit of a context takes, and one
  abbrev past : ℕ → ℕ → ℕ
  past zero n = suc n
  past (suc k) n = suc (past k n)

  -- what comes about once the visit of a context is made
  module _ (set : SetOfVectors) (n c : ℕ) (next : (y : Configuration) → Inside y → y.context ≡ context_after last_context c → Comes set n y) where
    comes_past : (k : ℕ) (x : Configuration) → Comes set (suc n) x → Comes set (past k n) x
    comes_past zero x h = h
    comes_past (suc k) x h = comes_more set (past k n) x (comes_past k x h)

    made_next : (x : Configuration) → Inside x → x.context ≡ c → visit_in visits x.context x.state ≡ true → Comes set (suc n) x
    made_next x i same e = inr (λ y f. next y (inside_next x y i f) (next_context x y i f ∙ (turn_made visits x.context x.state e ∙ ap (context_after last_context) same)))

    comes_after : (k : ℕ) (x : Configuration) → Inside x → x.context ≡ c → near_visit x.context k x.state ≡ true → Comes set (past k n) x
    comes_after zero x i same h = made_next x i same (made_in sys states (visit_in visits x.context) x.state h)
    comes_after (suc k) x i same h = go (visit_in visits x.context x.state) refl (comes_after k)
      where
        go : (b : Bool) → visit_in visits x.context x.state ≡ b → ((y : Configuration) → Inside y → y.context ≡ c → near_visit y.context k y.state ≡ true → Comes set (past k n) y) → Comes set (past (suc k) n) x
        go true e further = comes_past (suc k) x (made_next x i same e)
        go false e further = inr (λ y f.
            let stays : y.context ≡ x.context = next_context x y i f ∙ turn_unmade visits x.context x.state e in
            further y (inside_next x y i f) (stays ∙ same) (ap (λ m. near_visit m k y.state) stays ∙ nearer x y i e f k h))

  -- so every visit is made within a number of steps
  abbrev bound : ℕ → ℕ
  bound zero = 2 ^ sys.fluents
  bound (suc d) = past (2 ^ sys.fluents) (bound d)

  comes_within : (i d c : ℕ) → turned last_context d c ≡ i → (x : Configuration) → Inside x → x.context ≡ c → Comes (visit_in visits i) (bound d) x
  comes_within i zero c is x inside same =
      let here : x.context ≡ i = same ∙ is in
      subst (λ n. Comes (visit_in visits n) (bound 0) x) here (comes_own (2 ^ sys.fluents) x inside (near_first x inside))
  comes_within i (suc d) c is x inside same =
      comes_after (visit_in visits i) (bound d) c (λ y within next. comes_within i d (context_after last_context c) is y within next) (2 ^ sys.fluents) x inside same (near_first x inside)

  abbrev ComesAbout : SetOfVectors → Configuration → Type 0
  ComesAbout set x = EveryPathMeets (Follows sys plan) Anything (StateIsIn set) x

  comes_about : (i : ℕ) → 1 ≤ i → i ≤ last_context → (x : Configuration) → Inside x → ComesAbout (visit_in visits i) x
  comes_about i first last x inside =
      let low = inside.first in
      let high = inside.last in
      let turns = turns_to last_context i first last (last_context - x.context) x.context (omega arith) in
      record { steps = bound turns.0; meets = λ path long run. comes_met (visit_in visits i) (bound turns.0) x (comes_within i turns.0 x.context turns.1 x inside refl) path long run }

  visit_about : (visit : SetOfVectors) → Contains visits visit → (x : Configuration) → Inside x → ComesAbout visit x
  visit_about visit among x inside =
      let k = among.0 in
      let below = among.1 in
      let place : suc k - 1 ≡ k = omega arith in
      let is : visit_in visits (suc k) ≡ visit = ap (λ n. get_or visits n (λ v. false)) place ∙ (get_or_default visits k (λ v. false) visit below ∙ among.2) in
      subst (λ set. ComesAbout set x) is (comes_about (suc k) (omega arith) (omega arith) x inside)

  abbrev AllTrue : List SetOfVectors → Configuration → Type 0
  AllTrue sets x = SatisfiesAll (Follows sys plan) StateIsIn (goal_row (map (λ (p : SetOfVectors). af (plain p)) sets)) x

  all_true : (sets : List SetOfVectors) → ((visit : SetOfVectors) → Contains sets visit → Contains visits visit) → (x : Configuration) → Inside x → AllTrue sets x
  all_true [] among x inside = tt
  all_true (visit ∷ sets) among x inside = (
    visit_about visit (among visit (Contains-head visit sets)) x inside,
    all_true sets (λ other within. among other (Contains-cons visit sets other within)) x inside,
  )

  always_true : (x : Configuration) (rest : List Configuration) → Inside x → IsPath (Follows sys plan) x rest → Keeps (AllTrue visits) (x ∷ rest)
  always_true x [] i path = keeps_more (AllTrue visits) x [] (all_true visits (λ visit among. among) x i) (keeps_nothing (AllTrue visits))
  always_true x (y ∷ rest) i path = keeps_more (AllTrue visits) x (y ∷ rest) (all_true visits (λ visit among. among) x i) (always_true y rest (inside_next x y i path.0) path.1)

  patrol_true : (x : Configuration) → Inside x → HasPatrol sys plan visits x
  patrol_true x i n path long run = inr (always_true x path i run)

  module _ (some : 1 ≤ length visits) (covered : covers_patrol sys visits ≡ true) where
    inside_first : (x : Configuration) → IsInitial sys x → Inside x
    inside_first x initial =
        let same = initial.context in
        record {
          state = (ok.initial x.state initial.state).vector;
          first = omega arith;
          last = omega arith;
          wins = list_all-at states sys.initial x.state covered initial.state;
        }

    pub plan_solves : IsPatrolPlan sys visits plan
    plan_solves = record {
      complete = λ x reached. goes_on x (reached_keeps sys plan Inside inside_next inside_first x reached);
      has = λ x initial. patrol_true x (inside_first x initial);
    }
