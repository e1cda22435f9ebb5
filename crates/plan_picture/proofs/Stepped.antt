-- The lists of steps that are made, outcome by outcome and action by action.
use Rattle.std.proofs.Common.{◌≡◌, ◌≢◌, take_all, ℕ, zero, suc, ◌+◌, ◌<◌, inl, inr, ⊎_elim, Bool, true, false, cond, List, [], ◌∷◌, ◌++◌, length, map, take, get_or, slice_get, Option, Some, None, refl, sym, ap, ◌∙◌, subst, arith, append_assoc}
use Rattle.std.specs.List.{AllPairs, Contains, cons_option, filter_map, range_with_len}
use Rattle.std.specs.Option.{option_and_then, option_map, option_to_list}
use Rattle.std.proofs.lemmas.List.{append-nil}
use Rattle.std.proofs.lemmas.List.Elements.{Contains-append_left, Contains-append_right, Contains-append_cases, Contains-get_or}
use Rattle.std.proofs.lemmas.List.FromFn.{length-map-range_with_len, get_or-map-range_with_len}
use Rattle.std.proofs.lemmas.Option.{none-some, same_Some, slice_get_read, slice_get_within}
use Rattle.task_core.specs.Vectors.{Vector}
use Rattle.task_core.specs.Systems.{AreNumbered, Exec, System}
use Rattle.task_core.specs.ContextPlans.{Configuration}
use Rattle.plan_rules.specs.Advices.{Advised}
use Rattle.plan_rules.specs.Denoted.{advises}
use Rattle.plan_rules.specs.Rules.{PlanRule}
use Rattle.plan_picture.proofs.Found.{below_last}
use Rattle.plan_picture.specs.Pictures.{IsBefore, PlainStep}
use Rattle.plan_picture.specs.Places.{advised_in_table, outcome_steps, outcomes_from, outcomes_steps, place_after, steps_by, table_steps_below}
use Rattle.list_laws.proofs.Elements.{Contains-cases, Contains-cons, Contains-head, Contains-nil}

-- one outcome more
pub outcomes_more : (places : List Configuration) (a : Advised) (k : ℕ) (ts : List (Option Vector)) (i : ℕ) (t : Option Vector) → slice_get ts i ≡ Some t
    → outcomes_steps places a k (take (suc i) ts) ≡ outcomes_steps places a k (take i ts) ++ outcome_steps places a (k + i) t
outcomes_more places a k [] i t e = absurd (none-some t e)
outcomes_more places a k (u ∷ ts) zero t e =
    append-nil (outcome_steps places a k u)
    ∙ ap (outcome_steps places a k) (same_Some u t e)
    ∙ ap (λ j. outcome_steps places a j t) (omega arith)
outcomes_more places a k (u ∷ ts) (suc i) t e =
    ap (λ rest. outcome_steps places a k u ++ rest) (outcomes_more places a (suc k) ts i t e)
    ∙ sym (append_assoc (outcome_steps places a k u) (outcomes_steps places a (suc k) (take i ts)) (outcome_steps places a (suc k + i) t))
    ∙ ap (λ j. (outcome_steps places a k u ++ outcomes_steps places a (suc k) (take i ts)) ++ outcome_steps places a j t) (omega arith)

-- where no outcome leads to a state there are no steps
pub no_steps : (places : List Configuration) (a : Advised) (k : ℕ) (f : ℕ → Option Vector) (is : List ℕ) → filter_map f is ≡ [] → outcomes_steps places a k (map f is) ≡ []
no_steps places a k f [] e = refl
no_steps places a k f (i ∷ is) e = go (λ d. no_steps places a (suc k) f is d) (f i) e
  where
    go : (filter_map f is ≡ [] → outcomes_steps places a (suc k) (map f is) ≡ []) → (o : Option Vector) → cons_option o (filter_map f is) ≡ []
        → outcome_steps places a k o ++ outcomes_steps places a (suc k) (map f is) ≡ []
    go rest None d = rest d
    go rest (Some t) d = let l = ap length d in absurd (omega (arith, l))

-- an outcome that leads to a state is one of those that an action has from there
some_step : (f : ℕ → Option Vector) (is : List ℕ) (j : ℕ) (t : Vector) → filter_map f is ≡ [] → slice_get (map f is) j ≡ Some (Some t) → ⊥
some_step f [] j t e h = none-some (Some t) h
some_step f (i ∷ is) j t e h = go (λ k d at. some_step f is k t d at) (f i) j e h
  where
    go : ((k : ℕ) → filter_map f is ≡ [] → slice_get (map f is) k ≡ Some (Some t) → ⊥) → (o : Option Vector) (k : ℕ) → cons_option o (filter_map f is) ≡ []
        → slice_get (o ∷ map f is) k ≡ Some (Some t) → ⊥
    go rest None zero d at = none-some t (same_Some None (Some t) at)
    go rest None (suc k) d at = rest k d at
    go rest (Some u) k d at = let l = ap length d in omega (arith, l)

-- the outcomes of an action by their numbers
module _ (sys : System) (s : Vector) (a : ℕ) where
  outcomes_count : length (outcomes_from sys s a) ≡ sys.outcomes a
  outcomes_count = length-map-range_with_len (sys.after s a) 0 (sys.outcomes a)

  outcome_is : (k : ℕ) (d : Option Vector) → k < sys.outcomes a → get_or (outcomes_from sys s a) k d ≡ sys.after s a k
  outcome_is k d l = get_or-map-range_with_len (sys.after s a) 0 (sys.outcomes a) k k d l (omega arith)

  pub outcome_at : (k : ℕ) → k < sys.outcomes a → slice_get (outcomes_from sys s a) k ≡ Some (sys.after s a k)
  outcome_at k l = slice_get_read (outcomes_from sys s a) (sys.outcomes a) k (sys.after s a k) (sym outcomes_count) l (sym (outcome_is k (sys.after s a k) l))

  pub outcome_after : (k : ℕ) (t : Vector) → slice_get (outcomes_from sys s a) k ≡ Some (Some t) → sys.after s a k ≡ Some t
  outcome_after k t e =
      let l : k < sys.outcomes a = subst (λ n. k < n) outcomes_count (slice_get_within (outcomes_from sys s a) k (Some t) e) in
      same_Some (sys.after s a k) (Some t) (sym (outcome_at k l) ∙ e)

  pub leads_somewhere : AreNumbered sys → (k : ℕ) (t : Vector) → slice_get (outcomes_from sys s a) k ≡ Some (Some t) → Exec sys s a
  leads_somewhere numbered k t e none = some_step (sys.after s a) (range_with_len 0 (sys.outcomes a)) k t (sym (numbered s a) ∙ none) e

  pub all_outcomes : (k : ℕ) → k ≡ sys.outcomes a → take k (outcomes_from sys s a) ≡ outcomes_from sys s a
  all_outcomes k e = take_all k (outcomes_from sys s a) (omega (arith, e, outcomes_count))

  pub nowhere : AreNumbered sys → (places : List Configuration) (by : Advised) → (Exec sys s a → ⊥) → outcomes_steps places by 0 (outcomes_from sys s a) ≡ []
  nowhere numbered places by none = no_steps places by 0 (sys.after s a) (range_with_len 0 (sys.outcomes a)) (sym (numbered s a) ∙ empty (sys.next s a) none)
    where
      empty : (ts : List Vector) → (ts ≢ [] → ⊥) → ts ≡ []
      empty [] h = refl
      empty (t ∷ ts) h = absurd (h (λ e. let l = ap length e in omega (arith, l)))

-- what a step by an outcome is
pub record IsOutcome (places : List Configuration) (a : Advised) (k : ℕ) (ts : List (Option Vector)) (step : PlainStep) : Type 0 where
  pub number : ℕ
  pub after : Vector
  pub action : step.action ≡ a.action
  pub outcome : step.outcome ≡ k + number
  pub there : slice_get ts number ≡ Some (Some after)
  pub target : place_after places a.next after ≡ Some step.target

abbrev made : Advised → ℕ → ℕ → PlainStep
made a k i = record { action = a.action; outcome = k; target = i }

one_parts : (places : List Configuration) (a : Advised) (k : ℕ) (t : Option Vector) (step : PlainStep) → Contains (outcome_steps places a k t) step
    → (step.action ≡ a.action) × (step.outcome ≡ k) × (option_and_then (place_after places a.next) t ≡ Some step.target)
one_parts places a k t step c = go (option_and_then (place_after places a.next) t) refl c
  where
    go : (o : Option ℕ) → option_and_then (place_after places a.next) t ≡ o → Contains (option_to_list (option_map (made a k) o)) step
        → (step.action ≡ a.action) × (step.outcome ≡ k) × (option_and_then (place_after places a.next) t ≡ Some step.target)
    go None e d = absurd (Contains-nil step d)
    go (Some i) e d =
        ⊎_elim
        (λ (s : made a k i ≡ step). (
          sym (ap (λ (z : PlainStep). z.action) s),
          sym (ap (λ (z : PlainStep). z.outcome) s),
          e ∙ ap (λ (z : PlainStep). Some z.target) s,
        ))
        (λ n. absurd (Contains-nil step n))
        (Contains-cases (made a k i) [] step d)

one_only : (places : List Configuration) (a : Advised) (k : ℕ) (t : Option Vector) (ts : List (Option Vector)) (step : PlainStep) → Contains (outcome_steps places a k t) step → IsOutcome places a k (t ∷ ts) step
one_only places a k None ts step c = absurd (Contains-nil step c)
one_only places a k (Some t) ts step c =
    let p = one_parts places a k (Some t) step c in
    record { number = 0; after = t; action = p.0; outcome = omega (arith, p.1); there = refl; target = p.2 }

one_has : (places : List Configuration) (a : Advised) (k : ℕ) (t : Vector) (step : PlainStep) → step.action ≡ a.action → step.outcome ≡ k → place_after places a.next t ≡ Some step.target
    → Contains (outcome_steps places a k (Some t)) step
one_has places a k t step ea eo et =
    let same : made a k step.target ≡ step = λ i. record { action = sym ea i; outcome = sym eo i; target = step.target } in
    subst (λ o. Contains (option_to_list (option_map (made a k) o)) step) (sym et)
    (subst (Contains (made a k step.target ∷ [])) same (Contains-head (made a k step.target) []))

pub outcomes_only : (places : List Configuration) (a : Advised) (k : ℕ) (ts : List (Option Vector)) (step : PlainStep) → Contains (outcomes_steps places a k ts) step → IsOutcome places a k ts step
outcomes_only places a k [] step c = absurd (Contains-nil step c)
outcomes_only places a k (t ∷ ts) step c =
    ⊎_elim (λ d. one_only places a k t ts step d)
    (λ d. let r = outcomes_only places a (suc k) ts step d in record {
      number = suc r.number;
      after = r.after;
      action = r.action;
      outcome = omega (arith, r.outcome);
      there = r.there;
      target = r.target;
    })
    (Contains-append_cases (outcome_steps places a k t) (outcomes_steps places a (suc k) ts) step c)

pub outcomes_has : (places : List Configuration) (a : Advised) (k : ℕ) (ts : List (Option Vector)) (step : PlainStep) (j : ℕ) (after : Vector) → step.action ≡ a.action → step.outcome ≡ k + j
    → slice_get ts j ≡ Some (Some after) → place_after places a.next after ≡ Some step.target → Contains (outcomes_steps places a k ts) step
outcomes_has places a k [] step j after ea eo there et = absurd (none-some (Some after) there)
outcomes_has places a k (t ∷ ts) step zero after ea eo there et =
    Contains-append_left (outcome_steps places a k t) (outcomes_steps places a (suc k) ts) step
    (subst (λ o. Contains (outcome_steps places a k o) step) (sym (same_Some t (Some after) there)) (one_has places a k after step ea (omega (arith, eo)) et))
outcomes_has places a k (t ∷ ts) step (suc j) after ea eo there et =
    Contains-append_right (outcome_steps places a k t) (outcomes_steps places a (suc k) ts) step
    (outcomes_has places a (suc k) ts step j after ea (omega (arith, eo)) there et)

-- pairs of a list that is put together
pairs_cons : {X : Type 0} (R : X → X → Type 0) (x : X) (xs : List X) → ((y : X) → Contains xs y → R x y) → AllPairs R xs → AllPairs R (x ∷ xs)
pairs_cons R x xs first rest zero zero d lt w = absurd (omega arith)
pairs_cons R x xs first rest zero (suc j) d lt w = let l : j < length xs = omega arith in first (get_or xs j d) (Contains-get_or xs j d l)
pairs_cons R x xs first rest (suc i) zero d lt w = absurd (omega arith)
pairs_cons R x xs first rest (suc i) (suc j) d lt w = rest i j d (omega arith) (omega arith)

pairs_tail : {X : Type 0} (R : X → X → Type 0) (x : X) (xs : List X) → AllPairs R (x ∷ xs) → AllPairs R xs
pairs_tail R x xs h i j d lt w = h (suc i) (suc j) d (omega arith) (omega arith)

pairs_head : {X : Type 0} (R : X → X → Type 0) (x : X) (xs : List X) (y : X) → AllPairs R (x ∷ xs) → Contains xs y → R x y
pairs_head R x xs y h c = let l : c.0 < length xs = c.1 in subst (R x) c.2 (h zero (suc c.0) y (omega arith) (omega arith))

pairs_append : {X : Type 0} (R : X → X → Type 0) (xs ys : List X) → AllPairs R xs → AllPairs R ys → ((x y : X) → Contains xs x → Contains ys y → R x y) → AllPairs R (xs ++ ys)
pairs_append R [] ys hx hy cross = hy
pairs_append R (x ∷ xs) ys hx hy cross =
    pairs_cons R x (xs ++ ys)
    (λ z c. ⊎_elim (λ d. pairs_head R x xs z hx d) (λ d. cross x z (Contains-head x xs) d) (Contains-append_cases xs ys z c))
    (pairs_append R xs ys (pairs_tail R x xs hx) hy (λ y z c d. cross y z (Contains-cons x xs y c) d))

pairs_nil : {X : Type 0} (R : X → X → Type 0) → AllPairs R []
pairs_nil R i j d lt w = absurd (omega arith)

-- one step, or none
one_ordered : (places : List Configuration) (a : Advised) (k : ℕ) (t : Option Vector) → AllPairs IsBefore (outcome_steps places a k t)
one_ordered places a k t = go (option_and_then (place_after places a.next) t)
  where
    go : (o : Option ℕ) → AllPairs IsBefore (option_to_list (option_map (made a k) o))
    go None = pairs_nil IsBefore
    go (Some i) = pairs_cons IsBefore (made a k i) [] (λ y c. absurd (Contains-nil y c)) (pairs_nil IsBefore)

pub outcomes_ordered : (places : List Configuration) (a : Advised) (k : ℕ) (ts : List (Option Vector)) → AllPairs IsBefore (outcomes_steps places a k ts)
outcomes_ordered places a k [] = pairs_nil IsBefore
outcomes_ordered places a k (t ∷ ts) =
    pairs_append IsBefore (outcome_steps places a k t) (outcomes_steps places a (suc k) ts) (one_ordered places a k t) (outcomes_ordered places a (suc k) ts)
    (λ x y c d.
    let p = one_parts places a k t x c in
    let q = outcomes_only places a (suc k) ts y d in
    inr (p.0 ∙ sym q.action, omega (arith, p.1, q.outcome)))

-- the steps of a table
pub record IsOfTable (sys : System) (places : List Configuration) (rules : List PlanRule) (s : Vector) (m : ℕ) (step : PlainStep) : Type 0 where
  pub below : step.action < m
  pub has : advises rules s step.action ≡ true
  pub led : IsOutcome places (advised_in_table step.action) 0 (outcomes_from sys s step.action) step

module _ (sys : System) (places : List Configuration) (rules : List PlanRule) (s : Vector) where
  abbrev by_action : ℕ → List PlainStep
  by_action m = cond (advises rules s m) (steps_by sys places s (advised_in_table m)) []

  of_action : (m : ℕ) (step : PlainStep) → Contains (by_action m) step → IsOfTable sys places rules s (suc m) step
  of_action m step c = go (advises rules s m) refl c
    where
      go : (b : Bool) → advises rules s m ≡ b → Contains (cond b (steps_by sys places s (advised_in_table m)) []) step → IsOfTable sys places rules s (suc m) step
      go false h d = absurd (Contains-nil step d)
      go true h d =
          let o = outcomes_only places (advised_in_table m) 0 (outcomes_from sys s m) step d in
          let same : m ≡ step.action = sym o.action in
          record {
            below = omega (arith, o.action);
            has = subst (λ k. advises rules s k ≡ true) same h;
            led = subst (λ k. IsOutcome places (advised_in_table k) 0 (outcomes_from sys s k) step) same o;
          }

  is_action : (m : ℕ) (step : PlainStep) → Contains (by_action m) step → step.action ≡ m
  is_action m step c = go (advises rules s m) c
    where
      go : (b : Bool) → Contains (cond b (steps_by sys places s (advised_in_table m)) []) step → step.action ≡ m
      go false d = absurd (Contains-nil step d)
      go true d = (outcomes_only places (advised_in_table m) 0 (outcomes_from sys s m) step d).action

  pub table_only : (m : ℕ) (step : PlainStep) → Contains (table_steps_below sys places rules s m) step → IsOfTable sys places rules s m step
  table_only zero step c = absurd (Contains-nil step c)
  table_only (suc m) step c =
      ⊎_elim
      (λ d. let r = table_only m step d in record { below = omega (arith, r.below); has = r.has; led = r.led })
      (λ d. of_action m step d)
      (Contains-append_cases (table_steps_below sys places rules s m) (by_action m) step c)

  here : (m : ℕ) (step : PlainStep) → m ≡ step.action → IsOfTable sys places rules s (suc m) step → Contains (by_action m) step
  here m step e r =
      let led : IsOutcome places (advised_in_table m) 0 (outcomes_from sys s m) step = subst (λ k. IsOutcome places (advised_in_table k) 0 (outcomes_from sys s k) step) (sym e) r.led in
      let h : advises rules s m ≡ true = subst (λ k. advises rules s k ≡ true) (sym e) r.has in
      subst (λ b. Contains (cond b (steps_by sys places s (advised_in_table m)) []) step) (sym h)
      (outcomes_has places (advised_in_table m) 0 (outcomes_from sys s m) step led.number led.after led.action led.outcome led.there led.target)

  pub table_has : (m : ℕ) (step : PlainStep) → IsOfTable sys places rules s m step → Contains (table_steps_below sys places rules s m) step
  table_has zero step r = let l : step.action < 0 = r.below in absurd (omega arith)
  table_has (suc m) step r =
      ⊎_elim
      (λ (l : step.action < m). Contains-append_left (table_steps_below sys places rules s m) (by_action m) step
      (table_has m step (record { below = l; has = r.has; led = r.led })))
      (λ (e : m ≡ step.action). Contains-append_right (table_steps_below sys places rules s m) (by_action m) step (here m step e r))
      (below_last step.action m r.below)

  action_ordered : (m : ℕ) → AllPairs IsBefore (by_action m)
  action_ordered m = go (advises rules s m)
    where
      go : (b : Bool) → AllPairs IsBefore (cond b (steps_by sys places s (advised_in_table m)) [])
      go false = pairs_nil IsBefore
      go true = outcomes_ordered places (advised_in_table m) 0 (outcomes_from sys s m)

  pub table_ordered : (m : ℕ) → AllPairs IsBefore (table_steps_below sys places rules s m)
  table_ordered zero = pairs_nil IsBefore
  table_ordered (suc m) =
      pairs_append IsBefore (table_steps_below sys places rules s m) (by_action m) (table_ordered m) (action_ordered m)
      (λ x y c d.
      let l : x.action < m = (table_only m x c).below in
      let e : y.action ≡ m = is_action m y d in
      inl (omega (arith, l, e)))

pub none_ordered : AllPairs IsBefore []
none_ordered = pairs_nil IsBefore
