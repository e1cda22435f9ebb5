-- Every trace is a path of its plan.
use Rattle.std.proofs.Common.{◌≡◌, ◌≢◌, ℕ, zero, suc, ◌+◌, ◌<◌, Bool, true, false, if◌then◌else◌, List, [], ◌∷◌, ◌++◌, Option, Some, None, map, nat_lt, arith, refl, ap, subst, ◌∙◌}
use Rattle.std.specs.List.{list_any}
use Rattle.std.proofs.lemmas.Bool.Decides.{nat_tests}
use Rattle.task_core.specs.Vectors.{Vector}
use Rattle.task_core.specs.Systems.{System, Exec}
use Rattle.task_core.specs.ContextPlans.{ContextPlan, first_context}
use Rattle.plan_rules.specs.Denoted.{can_execute}
use Rattle.run_replay.specs.TraceLaws.{EveryTraceIsAPath, IsPathFrom, IsStepFrom, context_after, stray_number}
use Rattle.run_replay.specs.Traces.{Trace, TraceStep, Turn, Ends, Goes, Ending, Capped, Unexecutable, turn, acting, choosing, outcome_state, stepping, trace_from, after_step, most_steps}

-- what a turn that makes a step does
record IsMade (sys : System) (plan : ContextPlan) (full : Bool) (number : ℕ) (s : Vector) (c : Option ℕ) (words : List ℕ)
    (step : TraceStep) (next : Option ℕ) (left : List ℕ) : Type 0 where
  room : full ≡ false
  numbered : step.number ≡ number
  made : IsStepFrom sys plan s c step
  goes : next ≡ context_after plan s c step.after
  taken : words ≡ step.outcome ∷ left

-- what a turn does
abbrev TurnIs : System → ContextPlan → Bool → ℕ → Vector → Option ℕ → List ℕ → Turn → Type 0
TurnIs sys plan full number s c words (Ends ending left) = words ≡ stray_number ending ++ left
TurnIs sys plan full number s c words (Goes step next left) = IsMade sys plan full number s c words step next left

by_test : (P : Turn → Type 0) (b : Bool) (x y : Turn) → (b ≡ true → P x) → (b ≡ false → P y) → P (if b then x else y)
by_test P true x y p q = p refl
by_test P false x y p q = q refl

below : (a b : ℕ) → nat_lt a b ≡ true → a < b
below a b e = grind (arith, nat_tests)

some_next : (ts : List Vector) → list_any (λ (t : Vector). true) ts ≡ true → ts ≢ []
some_next [] h = absurd cc
some_next (t ∷ ts) h = λ e. absurd cc

-- the state of an outcome number is that of one of the action's outcomes
state_of_outcome : (b : Bool) (after : Option Vector) (t : Vector) → (if b then after else None) ≡ Some t → (b ≡ true) × (after ≡ Some t)
state_of_outcome true after t e = (refl, e)
state_of_outcome false after t e = absurd (let x : None ≡ Some t = e in cc)

stepping_is : (sys : System) (plan : ContextPlan) (number : ℕ) (s : Vector) (c action word : ℕ) (words : List ℕ) (found : Option Vector)
    → plan.act s c ≡ Some action → Exec sys s action → outcome_state sys s action word ≡ found
    → TurnIs sys plan false number s (Some c) (word ∷ words) (stepping sys number s action (plan.ctxt s c) word words found)
stepping_is sys plan number s c action word words None acts exec leads = refl
stepping_is sys plan number s c action word words (Some t) acts exec leads =
    let of = state_of_outcome (nat_lt word (sys.outcomes action)) (sys.after s action word) t leads in
    record {
      room = refl;
      numbered = refl;
      made = record { before = refl; acts = acts; executable = exec; listed = below word (sys.outcomes action) of.0; after = of.1 };
      goes = refl;
      taken = refl;
    }

choosing_is : (sys : System) (plan : ContextPlan) (number : ℕ) (s : Vector) (c action : ℕ) (words : List ℕ)
    → plan.act s c ≡ Some action → Exec sys s action
    → TurnIs sys plan false number s (Some c) words (choosing sys plan number s c action words)
choosing_is sys plan number s c action [] acts exec = refl
choosing_is sys plan number s c action (word ∷ words) acts exec =
    stepping_is sys plan number s c action word words (outcome_state sys s action word) acts exec refl

acting_is : (sys : System) (plan : ContextPlan) (full : Bool) (number : ℕ) (s : Vector) (c : ℕ) (words : List ℕ) (found : Option ℕ)
    → plan.act s c ≡ found → TurnIs sys plan full number s (Some c) words (acting sys plan full number s c found words)
acting_is sys plan full number s c words None acts = refl
acting_is sys plan true number s c words (Some action) acts =
    by_test (TurnIs sys plan true number s (Some c) words) (can_execute sys s action) (Ends Capped words) (Ends (Unexecutable number) words)
    (λ _. refl) (λ _. refl)
acting_is sys plan false number s c words (Some action) acts =
    by_test (TurnIs sys plan false number s (Some c) words) (can_execute sys s action)
    (choosing sys plan number s c action words) (Ends (Unexecutable number) words)
    (λ can. choosing_is sys plan number s c action words acts (some_next (sys.next s action) can)) (λ _. refl)

turn_is : (sys : System) (plan : ContextPlan) (full : Bool) (number : ℕ) (s : Vector) (c : Option ℕ) (words : List ℕ)
    → TurnIs sys plan full number s c words (turn sys plan full number s c words)
turn_is sys plan full number s None words = refl
turn_is sys plan full number s (Some c) words = acting_is sys plan full number s c words (plan.act s c) refl

-- a trace that ends at once
at_its_end : (sys : System) (plan : ContextPlan) (most number : ℕ) (s : Vector) (c : Option ℕ) (words left : List ℕ) (ending : Ending)
    → words ≡ stray_number ending ++ left
    → IsPathFrom sys plan most number s c words (record { steps = []; ending = ending; left = left })
at_its_end sys plan most number s c words left ending taken = record { few = omega arith; numbered = refl; made = tt; taken = taken }

-- a step before a path
one_before : (sys : System) (plan : ContextPlan) (full : Bool) (most number : ℕ) (s : Vector) (c next : Option ℕ) (words left : List ℕ)
    (step : TraceStep) (trace : Trace)
    → IsMade sys plan full number s c words step next left → IsPathFrom sys plan most (number + 1) step.after next left trace
    → IsPathFrom sys plan (suc most) number s c words (after_step step trace)
one_before sys plan full most number s c next words left step trace is path =
    let made : IsPathFrom sys plan most (number + 1) step.after (context_after plan s c step.after) left trace =
    subst (λ (k : Option ℕ). IsPathFrom sys plan most (number + 1) step.after k left trace) is.goes path in
    record {
      few = omega (arith, path.few);
      numbered = ap (λ (k : ℕ). k ∷ map (λ (x : TraceStep). x.number) trace.steps) is.numbered ∙ ap (λ (l : List ℕ). number ∷ l) path.numbered;
      made = (is.made, made.made);
      taken = is.taken ∙ ap (λ (l : List ℕ). step.outcome ∷ l) path.taken;
    }

at_cap : (sys : System) (plan : ContextPlan) (number : ℕ) (s : Vector) (c : Option ℕ) (words : List ℕ) (t : Turn)
    → TurnIs sys plan true number s c words t
    → IsPathFrom sys plan zero number s c words (elim t [
      | Ends ending left ↦ record { steps = []; ending = ending; left = left }
      | Goes step next left ↦ record { steps = []; ending = Capped; left = left }
    ])
at_cap sys plan number s c words (Ends ending left) is = at_its_end sys plan zero number s c words left ending is
at_cap sys plan number s c words (Goes step next left) is = absurd (let e : true ≡ false = is.room in cc)

-- what holds of the traces of at most so many steps
abbrev ArePaths : System → ContextPlan → ℕ → Type 0
ArePaths sys plan most =
    (number : ℕ) (s : Vector) (c : Option ℕ) (words : List ℕ)
    → IsPathFrom sys plan most number s c words (trace_from sys plan most number s c words)

after_turn : (sys : System) (plan : ContextPlan) (most number : ℕ) (s : Vector) (c : Option ℕ) (words : List ℕ) (t : Turn)
    → TurnIs sys plan false number s c words t → ArePaths sys plan most
    → IsPathFrom sys plan (suc most) number s c words (elim t [
      | Ends ending left ↦ record { steps = []; ending = ending; left = left }
      | Goes step next left ↦ after_step step (trace_from sys plan most (number + 1) step.after next left)
    ])
after_turn sys plan most number s c words (Ends ending left) is rest = at_its_end sys plan (suc most) number s c words left ending is
after_turn sys plan most number s c words (Goes step next left) is rest =
    one_before sys plan false most number s c next words left step (trace_from sys plan most (number + 1) step.after next left) is
    (rest (number + 1) step.after next left)

path_from : (sys : System) (plan : ContextPlan) (most : ℕ) → ArePaths sys plan most
unfolding trace_from
path_from sys plan zero =
    λ number s c words. at_cap sys plan number s c words (turn sys plan true number s c words) (turn_is sys plan true number s c words)
path_from sys plan (suc most) =
    λ number s c words. after_turn sys plan most number s c words (turn sys plan false number s c words)
    (turn_is sys plan false number s c words) (path_from sys plan most)

pub paths : EveryTraceIsAPath
paths = λ sys plan first words. path_from sys plan most_steps 1 first (Some first_context) words
