-- A replay of the record of a run makes the run.
use Rattle.std.proofs.Common.{◌≡◌, ◌∙◌, ℕ, zero, suc, ◌+◌, ◌≤◌, ◌<◌, ◌==◌, Bool, true, false, List, [], ◌∷◌, Option, Some, None, length, map, nat_lt, slice_get, arith, refl, sym, ap, subst}
use Rattle.std.specs.Prelude.{⊤}
use Rattle.std.specs.Option.{option_and_then, option_map}
use Rattle.std.proofs.lemmas.Bool.{cond-false, cond-true}
use Rattle.std.proofs.lemmas.Bool.Decides.{nat_tests}
use Rattle.list_laws.proofs.Booleans.{and_first, and_second}
use Rattle.list_laws.proofs.Elements.{list_any-from}
use Rattle.std.proofs.lemmas.Option.{none-some, same_Some}
use Rattle.task_core.specs.ContextPlans.{Configuration, ContextPlan, first_context}
use Rattle.task_core.specs.Cubes.{matches}
use Rattle.task_core.specs.Systems.{System}
use Rattle.task_core.specs.Tasks.{system_of}
use Rattle.task_core.specs.Vectors.{Vector}
use Rattle.task_core.specs.declared.classes.Class.{Class}
use Rattle.task_core.specs.declared.tasks.Task.{Task}
use Rattle.counterexamples.specs.Texts.{first_match, is_recorded, takes_first}
use Rattle.rule_lookup.specs.RunRules.{in_one_context}
use Rattle.plan_rules.specs.Denoted.{can_execute, next_context, rule_at}
use Rattle.plan_rules.specs.Rules.{ContextRule, PlainPlan, PlanRule, automaton, table}
use Rattle.plan_witness.specs.Runs.{IsByOutcome, IsContextStep, IsRunOf, IsTableStep, PlainRun, PlainStep}
use Rattle.plan_witness.proofs.Counting.{counting_at}
use Rattle.plan_witness.proofs.Taken.{number_outcome}
use Rattle.run_replay.specs.Traces.{Capped, Ended, Ending, Ends, Goes, Terminal, Trace, TraceStep, Unexecutable, acting, after_step, choosing, most_steps, outcome_state, run_plan, stepping, trace_from, turn}
use Rattle.trace.specs.Replayed.{RecordsAreReplayed, as_traced, recorded}

is_below : (a b : ℕ) → a < b → nat_lt a b ≡ true
is_below a b l = grind (arith, nat_tests)

is_same : (a b : ℕ) → (a == b) ≡ true → a ≡ b
is_same a b e = grind (arith, nat_tests)

-- a trace without a step that leaves no number
abbrev IsOver : Trace → Type 0
IsOver trace = (trace.steps ≡ []) × (trace.left ≡ [])

acting_end : (sys : System) (plan : ContextPlan) (full : Bool) (number : ℕ) (s : Vector) (c : ℕ) (found : Option ℕ) → (e : Ending) × (acting sys plan full number s c found [] ≡ Ends e [])
acting_end sys plan full number s c None = (Terminal, refl)
acting_end sys plan true number s c (Some action) = go (can_execute sys s action) refl where
  go : (b : Bool) → can_execute sys s action ≡ b → (e : Ending) × (acting sys plan true number s c (Some action) [] ≡ Ends e [])
  go true can = (Capped, cond-true (can_execute sys s action) (Ends Capped []) (Ends (Unexecutable number) []) can)
  go false can = (Unexecutable number, cond-false (can_execute sys s action) (Ends Capped []) (Ends (Unexecutable number) []) can)
acting_end sys plan false number s c (Some action) = go (can_execute sys s action) refl where
  go : (b : Bool) → can_execute sys s action ≡ b → (e : Ending) × (acting sys plan false number s c (Some action) [] ≡ Ends e [])
  go true can = (Ended, cond-true (can_execute sys s action) (Ends Ended []) (Ends (Unexecutable number) []) can)
  go false can = (Unexecutable number, cond-false (can_execute sys s action) (Ends Ended []) (Ends (Unexecutable number) []) can)

over : (sys : System) (plan : ContextPlan) (most number : ℕ) (s : Vector) (c : ℕ) → IsOver (trace_from sys plan most number s (Some c) [])
unfolding trace_from
over sys plan zero number s c =
    let at = acting_end sys plan true number s c (plan.act s c) in
    let turned : turn sys plan true number s (Some c) [] ≡ Ends at.0 [] = at.1 in
    let is : trace_from sys plan zero number s (Some c) [] ≡ record { steps = []; ending = at.0; left = [] } = rw (turned, trace_from) refl in
    (ap (λ (t : Trace). t.steps) is, ap (λ (t : Trace). t.left) is)
over sys plan (suc most) number s c =
    let at = acting_end sys plan false number s c (plan.act s c) in
    let turned : turn sys plan false number s (Some c) [] ≡ Ends at.0 [] = at.1 in
    let is : trace_from sys plan (suc most) number s (Some c) [] ≡ record { steps = []; ending = at.0; left = [] } = rw (turned, trace_from) refl in
    (ap (λ (t : Trace). t.steps) is, ap (λ (t : Trace). t.left) is)

on : (sys : System) (plan : ContextPlan) (most number : ℕ) (s : Vector) (c next : Option ℕ) (words left : List ℕ) (step : TraceStep)
    → turn sys plan false number s c words ≡ Goes step next left
    → trace_from sys plan (suc most) number s c words ≡ after_step step (trace_from sys plan most (number + 1) step.after next left)
unfolding trace_from
on sys plan most number s c next words left step h = rw (h, trace_from) refl

abbrev trace_step : ℕ → Vector → PlainStep → TraceStep
trace_step number before step = record { number = number; action = step.action; outcome = step.outcome; before = before; after = step.after.state }

-- the plan, as it is run, takes the step at x
record Takes (sys : System) (plan : ContextPlan) (x : Configuration) (step : PlainStep) : Type 0 where
  acts : plan.act x.state x.context ≡ Some step.action
  onward : plan.ctxt x.state x.context step.after.state ≡ Some step.after.context
  outcome : IsByOutcome sys x step

abbrev TakesAll : System → ContextPlan → Configuration → List PlainStep → Type 0
TakesAll sys plan x [] = ⊤
TakesAll sys plan x (step ∷ steps) = Takes sys plan x step × TakesAll sys plan step.after steps

module _ (task : Task) (plan : ContextPlan) where
  abbrev sys : System
  sys = system_of task

  makes : (number : ℕ) (x : Configuration) (step : PlainStep) (words : List ℕ) → Takes sys plan x step
      → turn sys plan false number x.state (Some x.context) (step.outcome ∷ words) ≡ Goes (trace_step number x.state step) (Some step.after.context) words
  makes number x step words takes =
      let s = x.state in
      let a = step.action in
      let o = step.outcome in
      let can : can_execute sys s a ≡ true = list_any-from (λ (t : Vector). true) (sys.next s a) step.after.state (number_outcome task s a step.after.state o takes.outcome.below takes.outcome.leads) refl in
      let found : outcome_state sys s a o ≡ Some step.after.state = cond-true (nat_lt o (sys.outcomes a)) (sys.after s a o) None (is_below o (sys.outcomes a) takes.outcome.below) ∙ takes.outcome.leads in
      ap (λ (f : Option ℕ). acting sys plan false number s x.context f (o ∷ words)) takes.acts
      ∙ cond-true (can_execute sys s a) (choosing sys plan number s x.context a (o ∷ words)) (Ends (Unexecutable number) (o ∷ words)) can
      ∙ ap (stepping sys number s a (plan.ctxt s x.context) o words) found
      ∙ ap (λ next. Goes (trace_step number s step) next words) takes.onward

  traced : (most number : ℕ) (x : Configuration) (steps : List PlainStep) → TakesAll sys plan x steps → length steps ≤ most
      → ((trace_from sys plan most number x.state (Some x.context) (recorded steps)).steps ≡ as_traced number x.state steps) × ((trace_from sys plan most number x.state (Some x.context) (recorded steps)).left ≡ [])
  traced most number x [] takes short = over sys plan most number x.state x.context
  traced zero number x (step ∷ steps) takes short = absurd (omega (arith, short))
  traced (suc most) number x (step ∷ steps) (first, rest) short =
      let less : suc (length steps) ≤ suc most = short in
      let is = on sys plan most number x.state (Some x.context) (Some step.after.context) (step.outcome ∷ recorded steps) (recorded steps) (trace_step number x.state step) (makes number x step (recorded steps) first) in
      let later = traced most (number + 1) step.after steps rest (omega (arith, less)) in (
        ap (λ (t : Trace). t.steps) is ∙ ap (λ (ts : List TraceStep). trace_step number x.state step ∷ ts) later.0,
        ap (λ (t : Trace). t.left) is ∙ later.1,
      )

-- an automaton takes the steps of its runs
in_contexts : (sys : System) (contexts : ℕ) (rules : List ContextRule) (x : Configuration) (steps : List PlainStep) → IsRunOf sys (automaton contexts rules) x steps
    → TakesAll sys (run_plan (automaton contexts rules)) x steps
in_contexts sys contexts rules x [] is = tt
in_contexts sys contexts rules x (step ∷ steps) (first, rest) = (takes first, in_contexts sys contexts rules step.after steps rest)
  where
    takes : IsContextStep sys rules x step → Takes sys (run_plan (automaton contexts rules)) x step
    takes made =
        let at : rule_at rules x.state x.context ≡ Some made.rule = counting_at rules x step.rule made.rule made.counts in
        record {
          acts = ap (λ (o : Option ContextRule). option_map (λ (r : ContextRule). r.action) o) at ∙ ap Some made.acts;
          onward = ap (λ (o : Option ContextRule). option_and_then (λ (r : ContextRule). next_context r.next step.after.state) o) at ∙ made.onward;
          outcome = made.outcome;
        }

-- of a table the first rule that matches counts
first_found : (rules : List PlanRule) (s : Vector) (k : ℕ) (rule : PlanRule) → first_match rules s ≡ k → slice_get rules k ≡ Some rule
    → rule_at (map in_one_context rules) s first_context ≡ Some (in_one_context rule)
first_found [] s k rule is at = absurd (none-some rule at)
first_found (r ∷ rs) s k rule is at = go (λ later. first_found rs s (first_match rs s) rule refl later) (matches r.cube s) refl
  where
    rest : Option ContextRule
    rest = rule_at (map in_one_context rs) s first_context

    go : (slice_get rs (first_match rs s) ≡ Some rule → rest ≡ Some (in_one_context rule)) → (b : Bool) → matches r.cube s ≡ b → rule_at (map in_one_context (r ∷ rs)) s first_context ≡ Some (in_one_context rule)
    go after true m =
        let here : 0 ≡ k = sym (cond-true (matches r.cube s) 0 (suc (first_match rs s)) m) ∙ is in
        let same : r ≡ rule = same_Some r rule (subst (λ j. slice_get (r ∷ rs) j ≡ Some rule) (sym here) at) in
        cond-true (matches r.cube s) (Some (in_one_context r)) rest m ∙ ap (λ (q : PlanRule). Some (in_one_context q)) same
    go after false m =
        let later : suc (first_match rs s) ≡ k = sym (cond-false (matches r.cube s) 0 (suc (first_match rs s)) m) ∙ is in
        let at_later : slice_get rs (first_match rs s) ≡ Some rule = subst (λ j. slice_get (r ∷ rs) j ≡ Some rule) (sym later) at in
        cond-false (matches r.cube s) (Some (in_one_context r)) rest m ∙ after at_later

in_table : (sys : System) (class : Class) (rules : List PlanRule) (x : Configuration) (steps : List PlainStep) → x.context ≡ first_context → IsRunOf sys (table class rules) x steps
    → takes_first rules x.state steps ≡ true → TakesAll sys (run_plan (table class rules)) x steps
in_table sys class rules x [] here is firsts = tt
in_table sys class rules x (step ∷ steps) here (made, rest) firsts =
    (takes made, in_table sys class rules step.after steps made.stays rest (and_second (first_match rules x.state == step.rule) (takes_first rules step.after.state steps) firsts))
  where
    takes : IsTableStep sys rules x step → Takes sys (run_plan (table class rules)) x step
    takes made =
        let number : first_match rules x.state ≡ step.rule = is_same (first_match rules x.state) step.rule (and_first (first_match rules x.state == step.rule) (takes_first rules step.after.state steps) firsts) in
        let at : rule_at (map in_one_context rules) x.state x.context ≡ Some (in_one_context made.rule) =
        ap (rule_at (map in_one_context rules) x.state) here ∙ first_found rules x.state step.rule made.rule number made.numbered in
        record {
          acts = ap (λ (o : Option ContextRule). option_map (λ (r : ContextRule). r.action) o) at ∙ ap Some made.acts;
          onward = ap (λ (o : Option ContextRule). option_and_then (λ (r : ContextRule). next_context r.next step.after.state) o) at ∙ ap Some (sym made.stays);
          outcome = made.outcome;
        }

takes_all : (sys : System) (plan : PlainPlan) (run : PlainRun) → run.start.context ≡ first_context → IsRunOf sys plan run.start run.steps → is_recorded plan run ≡ true
    → TakesAll sys (run_plan plan) run.start run.steps
takes_all sys (table class rules) run here is firsts = in_table sys class rules run.start run.steps here is firsts
takes_all sys (automaton contexts rules) run here is firsts = in_contexts sys contexts rules run.start run.steps is

pub replays : RecordsAreReplayed
replays task plan run initial is firsts short =
    let sys = system_of task in
    let found = traced task (run_plan plan) most_steps 1 run.start run.steps (takes_all sys plan run initial.context is firsts) short in
    let words = recorded run.steps in
    record {
      steps = subst (λ c. (trace_from sys (run_plan plan) most_steps 1 run.start.state (Some c) words).steps ≡ as_traced 1 run.start.state run.steps) initial.context found.0;
      left = subst (λ c. (trace_from sys (run_plan plan) most_steps 1 run.start.state (Some c) words).left ≡ []) initial.context found.1;
    }
