-- A run and one turn more of it.
use Rattle.std.proofs.Common.{◌≡◌, ℕ, zero, suc, ◌+◌, ◌-◌, ◌≤◌, ◌^◌, ◌==◌, Bool, true, false, if◌then◌else◌, List, [], ◌∷◌, ◌++◌, Option, Some, None, length, map, arith, refl, sym, ap, subst, ◌∙◌, append_assoc, length-append}
use Rattle.std.proofs.lemmas.Bool.Decides.{nat_tests}
use Rattle.std.specs.List.{All}
use Rattle.std.proofs.lemmas.List.{append-nil, map-append}
use Rattle.std.proofs.lemmas.List.Elements.{All-map, All-nil, All-push}
use Rattle.task_core.specs.States.{IsWithin, vector}
use Rattle.task_core.specs.Systems.{System}
use Rattle.task_core.specs.ContextPlans.{ContextPlan, first_context}
use Rattle.task_core.specs.Vectors.{Vector}
use Rattle.task_core.specs.declared.states.State.{State}
use Rattle.plan_rules.specs.Denoted.{can_execute}
use Rattle.run_replay.specs.declared.worlds.Step.{Step}
use Rattle.run_replay.specs.declared.traces.RunErr.{RunErr}
use Rattle.run_replay.specs.declared.traces.RunErr.TheVariants.{StrayOutcome, Unexecutable as UnexecutableErr, Memory}
use Rattle.run_replay.specs.Runs.{IsStepOf, IsFrontOf, IsRefused, outcome_numbers, step_value, steps_value}
use Rattle.run_replay.specs.Running.{HasRun, after_steps, next_turn_of, rest_of}
use Rattle.run_replay.specs.Traces.{Trace, TraceStep, Turn, Ends, Goes, Ending, Terminal, Ended, Capped, Stray, Unexecutable, turn, acting, choosing, outcome_state, stepping, trace_from, trace_of, after_step, most_steps}
use Rattle.run_replay.specs.TraceTexts.{tallies_of, tally_lines}
use Rattle.run_replay.specs.Turns.{IsRefusal}
use Rattle.run_replay.specs.Watching.{AreTold, MonitorData}
use Rattle.run_replay.proofs.Telling.{are_told_none, are_told_more, small_tallies, tallies_told}
use Rattle.list_laws.proofs.Elements.{All-unmap}

not_zero : (k : ℕ) → (suc k == 0) ≡ false
not_zero k = grind (arith, nat_tests)

-- the trace from where a turn ends it
stops : (sys : System) (plan : ContextPlan) (full : Bool) (most number : ℕ) (s : Vector) (c : Option ℕ) (words left : List ℕ) (ending : Ending)
    → full ≡ (most == 0) → turn sys plan full number s c words ≡ Ends ending left
    → trace_from sys plan most number s c words ≡ record { steps = []; ending = ending; left = left }
unfolding trace_from
stops sys plan full zero number s c words left ending e h =
    let at : turn sys plan true number s c words ≡ Ends ending left = subst (λ b. turn sys plan b number s c words ≡ Ends ending left) e h in
    rw (at, trace_from) refl
stops sys plan full (suc most) number s c words left ending e h =
    let at : turn sys plan false number s c words ≡ Ends ending left = subst (λ b. turn sys plan b number s c words ≡ Ends ending left) (e ∙ not_zero most) h in
    rw (at, trace_from) refl

-- the trace from where a turn makes a step
steps_on : (sys : System) (plan : ContextPlan) (most number : ℕ) (s : Vector) (c next : Option ℕ) (words left : List ℕ) (step : TraceStep)
    → turn sys plan false number s c words ≡ Goes step next left
    → trace_from sys plan (suc most) number s c words ≡ after_step step (trace_from sys plan most (number + 1) step.after next left)
unfolding trace_from
steps_on sys plan most number s c next words left step h = rw (h, trace_from) refl

same_step : (made step : TraceStep) (after next : Option ℕ) (rest left : List ℕ)
    → Goes made after rest ≡ Goes step next left → (made ≡ step) × (rest ≡ left)
same_step made step after next rest left h = (cc, cc)

stepping_takes : (sys : System) (number : ℕ) (s : Vector) (action : ℕ) (context : Vector → Option ℕ) (word : ℕ) (words left : List ℕ)
    (found : Option Vector) (step : TraceStep) (next : Option ℕ)
    → stepping sys number s action context word words found ≡ Goes step next left → word ∷ words ≡ step.outcome ∷ left
stepping_takes sys number s action context word words left None step next h =
    absurd (let e : Ends (Stray number word (sys.outcomes action)) words ≡ Goes step next left = h in cc)
stepping_takes sys number s action context word words left (Some t) step next h =
    let made : TraceStep = record { number = number; action = action; outcome = word; before = s; after = t } in
    let e = same_step made step (context t) next words left h in
    let same : word ≡ step.outcome = ap (λ (x : TraceStep). x.outcome) e.0 in
    rw (same, e.1) refl

choosing_takes : (sys : System) (plan : ContextPlan) (number : ℕ) (s : Vector) (c action : ℕ) (words left : List ℕ) (step : TraceStep) (next : Option ℕ)
    → choosing sys plan number s c action words ≡ Goes step next left → words ≡ step.outcome ∷ left
choosing_takes sys plan number s c action [] left step next h = absurd (let e : Ends Ended [] ≡ Goes step next left = h in cc)
choosing_takes sys plan number s c action (word ∷ words) left step next h =
    stepping_takes sys number s action (plan.ctxt s c) word words left (outcome_state sys s action word) step next h

-- a step is made only where there is room for it, and takes one outcome number
room_for : (can full : Bool) (number : ℕ) (words left : List ℕ) (t : Turn) (step : TraceStep) (next : Option ℕ)
    → (if can then (if full then Ends Capped words else t) else Ends (Unexecutable number) words) ≡ Goes step next left
    → (full ≡ false) × (t ≡ Goes step next left)
room_for true true number words left t step next h = absurd (let e : Ends Capped words ≡ Goes step next left = h in cc)
room_for true false number words left t step next h = (refl, h)
room_for false full number words left t step next h = absurd (let e : Ends (Unexecutable number) words ≡ Goes step next left = h in cc)

acting_takes : (sys : System) (plan : ContextPlan) (full : Bool) (number : ℕ) (s : Vector) (c : ℕ) (found : Option ℕ) (words left : List ℕ) (step : TraceStep) (next : Option ℕ)
    → acting sys plan full number s c found words ≡ Goes step next left → (full ≡ false) × (words ≡ step.outcome ∷ left)
acting_takes sys plan full number s c None words left step next h = absurd (let e : Ends Terminal words ≡ Goes step next left = h in cc)
acting_takes sys plan full number s c (Some action) words left step next h =
    let e = room_for (can_execute sys s action) full number words left (choosing sys plan number s c action words) step next h in
    (e.0, choosing_takes sys plan number s c action words left step next e.1)

turn_takes : (sys : System) (plan : ContextPlan) (full : Bool) (number : ℕ) (s : Vector) (c : Option ℕ) (words left : List ℕ) (step : TraceStep) (next : Option ℕ)
    → turn sys plan full number s c words ≡ Goes step next left → (full ≡ false) × (words ≡ step.outcome ∷ left)
turn_takes sys plan full number s None words left step next h = absurd (let e : Ends Terminal words ≡ Goes step next left = h in cc)
turn_takes sys plan full number s (Some c) words left step next h = acting_takes sys plan full number s c (plan.act s c) words left step next h

is_full : (k m : ℕ) → k ≤ m → (k == m) ≡ ((m - k) == 0)
is_full k m le = grind (arith, nat_tests)

has_room : (k m : ℕ) → k ≤ m → (k == m) ≡ false → m - k ≡ suc (m - (k + 1))
has_room k m le not = grind (arith, nat_tests)

-- at the start
pub starts : (sys : System) (plan : ContextPlan) (n m : ℕ) (first : State) (words : List ℕ) (monitors : List MonitorData)
    → IsWithin n first → HasRun sys plan n m (vector n first) words monitors [] first (Some first_context) words monitors
starts sys plan n m first words monitors within = record {
  goes = refl;
  few = omega arith;
  taken = refl;
  told = are_told_none monitors;
  in_task = All-nil (IsStepOf n m);
  within = within;
}

steps_more : (n : ℕ) (steps : List Step) (step : Step) → steps_value n (steps ++ step ∷ []) ≡ steps_value n steps ++ step_value n step ∷ []
steps_more n steps step = map-append (step_value n) steps (step ∷ [])

numbers_more : (steps : List TraceStep) (step : TraceStep) (left : List ℕ)
    → outcome_numbers (steps ++ step ∷ []) ++ left ≡ outcome_numbers steps ++ (step.outcome ∷ left)
numbers_more steps step left =
    rw (map-append (λ (s : TraceStep). s.outcome) steps (step ∷ [])) (append_assoc (outcome_numbers steps) (step.outcome ∷ []) left)

-- a step after some steps and before a trace
regroup : (steps : List TraceStep) (step : TraceStep) (trace : Trace) → after_steps steps (after_step step trace) ≡ after_steps (steps ++ step ∷ []) trace
regroup steps step trace =
    ap (λ (all : List TraceStep). let t : Trace = record { steps = all; ending = trace.ending; left = trace.left } in t)
    (sym (append_assoc steps (step ∷ []) trace.steps))

-- what is left of a run before and after a step
rest_more : (sys : System) (plan : ContextPlan) (n : ℕ) (steps : List Step) (state : State) (context next : Option ℕ) (left rest : List ℕ) (step : Step)
    → length steps ≤ most_steps → next_turn_of sys plan n steps state context left ≡ Goes (step_value n step) next rest
    → rest_of sys plan n steps state context left
    ≡ after_step (step_value n step) (rest_of sys plan n (steps ++ step ∷ []) step.after next rest)
rest_more sys plan n steps state context next left rest step few turned =
    let room : (length steps == most_steps) ≡ false = (turn_takes sys plan (length steps == most_steps) (length steps + 1) (vector n state) context left rest (step_value n step) next turned).0 in
    let at : turn sys plan false (length steps + 1) (vector n state) context left ≡ Goes (step_value n step) next rest =
    subst (λ (b : Bool). turn sys plan b (length steps + 1) (vector n state) context left ≡ Goes (step_value n step) next rest) room turned in
    let long : length (steps ++ step ∷ []) ≡ length steps + 1 = length-append steps (step ∷ []) in
    rw (has_room (length steps) most_steps few room, long)
    (steps_on sys plan (most_steps - (length steps + 1)) (length steps + 1) (vector n state) context next left rest (step_value n step) at)

-- after one turn more, where it makes a step
pub one_more : {sys : System} {plan : ContextPlan} {n m : ℕ} {first : Vector} {words : List ℕ} {monitors : List MonitorData}
    {steps : List Step} {state : State} {context next : Option ℕ} {left rest : List ℕ} {now later : List MonitorData} (step : Step)
    → HasRun sys plan n m first words monitors steps state context left now
    → next_turn_of sys plan n steps state context left ≡ Goes (step_value n step) next rest
    → IsStepOf n m step
    → AreTold (step ∷ []) now later
    → HasRun sys plan n m first words monitors (steps ++ step ∷ []) step.after next rest later
one_more {sys} {plan} {n} {m} {monitors} {steps} {state} {context} {next} {left} {rest} {now} {later} step run turned in_task told =
    let takes = turn_takes sys plan (length steps == most_steps) (length steps + 1) (vector n state) context left rest (step_value n step) next turned in
    record {
      goes =
          run.goes ∙ ap (after_steps (steps_value n steps)) (rest_more sys plan n steps state context next left rest step run.few turned)
          ∙ regroup (steps_value n steps) (step_value n step) (rest_of sys plan n (steps ++ step ∷ []) step.after next rest)
          ∙ ap (λ (all : List TraceStep). after_steps all (rest_of sys plan n (steps ++ step ∷ []) step.after next rest)) (sym (steps_more n steps step));
      few =
          let less : suc (most_steps - (length steps + 1)) ≡ most_steps - length steps = sym (has_room (length steps) most_steps run.few takes.0) in
          omega (arith, less, run.few, length-append steps (step ∷ []));
      taken =
          run.taken ∙ ap (λ (l : List ℕ). outcome_numbers (steps_value n steps) ++ l) takes.1
          ∙ sym (numbers_more (steps_value n steps) (step_value n step) rest)
          ∙ ap (λ (all : List TraceStep). outcome_numbers all ++ rest) (sym (steps_more n steps step));
      told = are_told_more steps (step ∷ []) monitors now later run.told told;
      in_task = All-push (IsStepOf n m) steps step run.in_task in_task;
      within = in_task.after;
    }

-- where the next turn ends the trace
pub ends : {sys : System} {plan : ContextPlan} {n m : ℕ} {first : Vector} {words : List ℕ} {monitors : List MonitorData}
    {steps : List Step} {state : State} {context : Option ℕ} {left rest : List ℕ} {now : List MonitorData} {ending : Ending}
    → HasRun sys plan n m first words monitors steps state context left now
    → next_turn_of sys plan n steps state context left ≡ Ends ending rest
    → trace_of sys plan first words ≡ record { steps = steps_value n steps; ending = ending; left = rest }
ends {sys} {plan} {n} {steps} {state} {context} {left} {rest} {ending} run turned =
    run.goes
    ∙ ap (after_steps (steps_value n steps))
    (stops sys plan (length steps == most_steps) (most_steps - length steps) (length steps + 1) (vector n state) context left rest ending
    (is_full (length steps) most_steps run.few) turned)
    ∙ ap (λ (all : List TraceStep). let t : Trace = record { steps = all; ending = ending; left = rest } in t) (append-nil (steps_value n steps))

-- the steps so far are the first of the trace
pub front_of : {sys : System} {plan : ContextPlan} {n m : ℕ} {first : Vector} {words : List ℕ} {monitors : List MonitorData}
    {steps : List Step} {state : State} {context : Option ℕ} {left : List ℕ} {now : List MonitorData}
    → HasRun sys plan n m first words monitors steps state context left now
    → IsFrontOf (trace_of sys plan first words) words (steps_value n steps) left
front_of {sys} {plan} {n} {steps} {state} {context} {left} run = record {
  later = (rest_of sys plan n steps state context left).steps;
  front = ap (λ (t : Trace). t.steps) run.goes;
  taken = run.taken;
}

ends_as : (trace : Trace) (steps : List TraceStep) (left : List ℕ) (a b : Ending) → a ≡ b
    → trace ≡ record { steps = steps; ending = a; left = left } → trace ≡ record { steps = steps; ending = b; left = left }
ends_as trace steps left a b e h = h ∙ ap (λ (x : Ending). let t : Trace = record { steps = steps; ending = x; left = left } in t) e

-- where the next turn refuses it
pub refuses : (refusal : RunErr) (n : ℕ) (trace : Trace) (words : List ℕ) (steps : List Step) (left : List ℕ) (ending : Ending)
    → IsRefusal refusal ending → trace ≡ record { steps = steps_value n steps; ending = ending; left = left }
    → IsRefused n refusal trace words steps left
refuses (StrayOutcome step word outcomes) n trace words steps left ending is h =
    ends_as trace (steps_value n steps) left ending (Stray step word outcomes) is h
refuses (UnexecutableErr step) n trace words steps left ending is h =
    ends_as trace (steps_value n steps) left ending (Unexecutable step) is h
refuses Memory n trace words steps left ending is h = absurd is

-- the tallies of monitors that had counted nothing when the run began
pub tallies_are_small : {X : Type 0} (shown : X → MonitorData) (monitors now : List X)
    {sys : System} {plan : ContextPlan} {n m : ℕ} {first : Vector} {words : List ℕ}
    {steps : List Step} {state : State} {context : Option ℕ} {left : List ℕ}
    → HasRun sys plan n m first words (map shown monitors) steps state context left (map shown now)
    → All (λ (x : X). (shown x).counted ≡ 0) monitors → All (λ (y : X). (shown y).counted ≤ 2 ^ 127) now
tallies_are_small {X} shown monitors now {steps} run untold =
    All-unmap (λ (y : MonitorData). y.counted ≤ 2 ^ 127) shown now
    (small_tallies steps (map shown monitors) (map shown now) (All-map (λ (x : MonitorData). x.counted ≡ 0) shown monitors untold) run.told run.few)

-- what is told of them after the run
pub tallies_are_sums : {X : Type 0} (shown : X → MonitorData) (monitors now : List X)
    {sys : System} {plan : ContextPlan} {n m : ℕ} {first : Vector} {words : List ℕ}
    {steps : List Step} {state : State} {context : Option ℕ} {left : List ℕ}
    → HasRun sys plan n m first words (map shown monitors) steps state context left (map shown now)
    → All (λ (x : X). (shown x).counted ≡ 0) monitors → tally_lines (map shown now) ≡ tallies_of (map shown monitors) steps
tallies_are_sums {X} shown monitors now {steps} run untold =
    tallies_told steps (map shown monitors) (map shown now) (All-map (λ (x : MonitorData). x.counted ≡ 0) shown monitors untold) run.told
