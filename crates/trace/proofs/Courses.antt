-- A run, and one step more of it.
use Rattle.std.proofs.Common.{◌≡◌, ◌+◌, ℕ, List, [], ◌∷◌, ◌++◌, Option, Some, drop, length, map, refl, sym, ap, ◌∙◌, subst, length-append}
use Rattle.std.proofs.lemmas.List.{map-append}
use Rattle.list_laws.proofs.Elements.{map-map}
use Rattle.task_core.specs.ContextPlans.{first_context}
use Rattle.task_core.specs.States.{IsWithin, vector}
use Rattle.task_core.specs.Systems.{System}
use Rattle.task_core.specs.Tasks.{system_of, fluent_count, action_count}
use Rattle.task_core.specs.Vectors.{Vector}
use Rattle.task_core.specs.declared.states.State.{State}
use Rattle.task_core.specs.declared.tasks.Task.{Task}
use Rattle.plan_rules.specs.Denoted.{denoted_contexts}
use Rattle.plan_rules.specs.Rules.{ContextRule, PlainPlan}
use Rattle.rule_lookup.specs.RunRules.{run_rules}
use Rattle.run_replay.specs.Running.{HasRun, next_turn_of}
use Rattle.run_replay.specs.Runs.{IsStepOf, step_value, steps_value}
use Rattle.run_replay.specs.Traces.{Goes, Trace, TraceStep}
use Rattle.run_replay.specs.declared.worlds.Step.{Step}
use Rattle.run_replay.proofs.RunLaws.{ends, one_more, starts}
use Rattle.trace.specs.RecordedRuns.{AreRuledSteps, IsRecordedRun, IsRuledStep, IsStop, RuledStep, end_context, end_state}
use Rattle.trace.specs.Turns.{HasComeTo, HasHalted, IsHaltOf, IsRuledHalt, IsTurn, halt_ending, plain_steps}
use Rattle.trace.specs.Values.{made_value, mades_value, stop_value}
use Rattle.trace.specs.declared.runs.Halted.{Halted}
use Rattle.trace.specs.declared.runs.MadeStep.{MadeStep}
use Rattle.trace.specs.declared.stops.Stop.{Stop as CodeStop}
use Rattle.trace.specs.declared.turns.Turn.TheVariants.{Halts}

ruled_more : (rules : List ContextRule) (s : Vector) (c : Option ℕ) (steps : List RuledStep) (made : RuledStep) → AreRuledSteps rules s c steps
    → IsRuledStep rules (end_state s steps) (end_context c steps) made → AreRuledSteps rules s c (steps ++ made ∷ [])
ruled_more rules s c [] made are is = (is, tt)
ruled_more rules s c (x ∷ steps) made are is = (are.0, ruled_more rules x.step.after x.context steps made are.1 is)

end_state_more : (s : Vector) (steps : List RuledStep) (made : RuledStep) → end_state s (steps ++ made ∷ []) ≡ made.step.after
end_state_more s [] made = refl
end_state_more s (x ∷ steps) made = end_state_more x.step.after steps made

end_context_more : (c : Option ℕ) (steps : List RuledStep) (made : RuledStep) → end_context c (steps ++ made ∷ []) ≡ made.context
end_context_more c [] made = refl
end_context_more c (x ∷ steps) made = end_context_more x.context steps made

-- a run that has come so far, whose steps are those of the trace and are made by the rules that count
pub record HasCome (sys : System) (rules : List ContextRule) (n m : ℕ) (first : State) (words : List ℕ) (steps : List MadeStep) (state : State) (context : Option ℕ)
    : Type 0 where
  pub run : HasRun sys (denoted_contexts rules) n m (vector n first) words [] (plain_steps steps) state context (drop (length steps) words) []
  pub come : HasComeTo n rules (vector n first) steps state context

pub at_first : (sys : System) (rules : List ContextRule) (n m : ℕ) (first : State) (words : List ℕ) → IsWithin n first
    → HasCome sys rules n m first words [] first (Some first_context)
at_first sys rules n m first words within = record {
  run = starts sys (denoted_contexts rules) n m first words [] within;
  come = record { ruled = tt; at_state = refl; at_context = refl };
}

come_more : (n : ℕ) (rules : List ContextRule) (first : Vector) (steps : List MadeStep) (state : State) (context : Option ℕ) (made : MadeStep)
    → HasComeTo n rules first steps state context → IsRuledStep rules (vector n state) context (made_value n made)
    → HasComeTo n rules first (steps ++ made ∷ []) made.step.after made.context
come_more n rules first steps state context made come is =
    let more : mades_value n (steps ++ made ∷ []) ≡ mades_value n steps ++ made_value n made ∷ [] = map-append (made_value n) steps (made ∷ []) in
    let here : IsRuledStep rules (end_state first (mades_value n steps)) (end_context (Some first_context) (mades_value n steps)) (made_value n made) =
    subst (λ (s : Vector). IsRuledStep rules s (end_context (Some first_context) (mades_value n steps)) (made_value n made)) (sym come.at_state)
    (subst (λ (c : Option ℕ). IsRuledStep rules (vector n state) c (made_value n made)) (sym come.at_context) is) in
    record {
      ruled = subst (AreRuledSteps rules first (Some first_context)) (sym more) (ruled_more rules first (Some first_context) (mades_value n steps) (made_value n made) come.ruled here);
      at_state = ap (end_state first) more ∙ end_state_more first (mades_value n steps) (made_value n made);
      at_context = ap (end_context (Some first_context)) more ∙ end_context_more (Some first_context) (mades_value n steps) (made_value n made);
    }

pub step_more : {sys : System} {rules : List ContextRule} {n m : ℕ} {first : State} {words : List ℕ} {steps : List MadeStep} {state : State} {context : Option ℕ} (made : MadeStep)
    → HasCome sys rules n m first words steps state context
    → next_turn_of sys (denoted_contexts rules) n (plain_steps steps) state context (drop (length steps) words) ≡ Goes (step_value n made.step) made.context (drop (length steps + 1) words)
    → IsStepOf n m made.step → IsRuledStep rules (vector n state) context (made_value n made)
    → HasCome sys rules n m first words (steps ++ made ∷ []) made.step.after made.context
step_more {sys} {rules} {n} {m} {first} {words} {steps} {state} {context} made h turned in_task is =
    let more : plain_steps (steps ++ made ∷ []) ≡ plain_steps steps ++ made.step ∷ [] = map-append (λ (x : MadeStep). x.step) steps (made ∷ []) in
    let long : length (steps ++ made ∷ []) ≡ length steps + 1 = length-append steps (made ∷ []) in
    let run = one_more made.step h.run turned in_task tt in
    record {
      run = subst (λ (xs : List Step). HasRun sys (denoted_contexts rules) n m (vector n first) words [] xs made.step.after made.context (drop (length (steps ++ made ∷ [])) words) []) (sym more)
          (subst (λ (k : ℕ). HasRun sys (denoted_contexts rules) n m (vector n first) words [] (plain_steps steps ++ made.step ∷ []) made.step.after made.context (drop k words) []) (sym long) run);
      come = come_more n rules (vector n first) steps state context made h.come is;
    }

-- the steps of the run are those of the trace
pub same_steps : (n : ℕ) (steps : List MadeStep) → steps_value n (plain_steps steps) ≡ map (λ (made : RuledStep). made.step) (mades_value n steps)
same_steps n steps =
    map-map (step_value n) (λ (x : MadeStep). x.step) steps
    ∙ sym (map-map (λ (made : RuledStep). made.step) (made_value n) steps)

-- where the next turn makes no step
pub halted : (task : Task) (rules : List ContextRule) (first : State) (words : List ℕ) (run : Halted)
    → HasCome (system_of task) rules (fluent_count task) (action_count task) first words run.course.steps.items run.course.state run.course.context
    → IsTurn (fluent_count task) (length run.course.steps.items + 1) (Halts run.halt) (drop (length run.course.steps.items + 1) words)
    (next_turn_of (system_of task) (denoted_contexts rules) (fluent_count task) (plain_steps run.course.steps.items) run.course.state run.course.context (drop (length run.course.steps.items) words))
    → IsRuledHalt rules (vector (fluent_count task) run.course.state) run.course.context run.halt → IsHaltOf (action_count task) run.halt
    → HasHalted task rules (vector (fluent_count task) first) words run
halted task rules first words run h turned ruled in_task = record {
  number = length run.course.steps.items + 1;
  left = turned.0;
  traced = ends h.run turned.1;
  come = h.come;
  ruled = ruled;
  in_task = in_task;
}

-- and so the run of the plan is that of the record
pub recorded : (task : Task) (plan : PlainPlan) (first : Vector) (words : List ℕ) (run : Halted) (stop : CodeStop)
    → ((rules : List ContextRule) (c : Option ℕ) (number : ℕ) → IsRuledHalt rules (vector (fluent_count task) run.course.state) c run.halt
    → IsStop task rules (vector (fluent_count task) run.course.state) c (halt_ending number run.halt) (stop_value stop))
    → HasHalted task (run_rules plan) first words run
    → IsRecordedRun task plan first words (record { steps = mades_value (fluent_count task) run.course.steps.items; stop = stop_value stop })
recorded task plan first words run stop stops h =
    let n = fluent_count task in
    let steps = run.course.steps.items in
    let ending = halt_ending h.number run.halt in
    let here : IsStop task (run_rules plan) (vector n run.course.state) run.course.context ending (stop_value stop) = stops (run_rules plan) run.course.context h.number h.ruled in
    record {
      ending = ending;
      left = h.left;
      traced = h.traced ∙ ap (λ (made : List TraceStep). let t : Trace = record { steps = made; ending = ending; left = h.left } in t) (same_steps n steps);
      ruled = h.come.ruled;
      stops =
          subst (λ (s : Vector). IsStop task (run_rules plan) s (end_context (Some first_context) (mades_value n steps)) ending (stop_value stop)) (sym h.come.at_state)
          (subst (λ (c : Option ℕ). IsStop task (run_rules plan) (vector n run.course.state) c ending (stop_value stop)) (sym h.come.at_context) here);
    }
