-- A run of a plan of a task, as the answer for its trace.
use Rattle.std.proofs.Common.{◌≡◌, ◌⊎◌, ℕ, List, ◌++◌, refl, subst, ap, ◌∙◌}
use Rattle.std.specs.List.{All}
use Rattle.run_replay.specs.Runs.{IsStepOf, ending_of, steps_value}
use Rattle.run_replay.specs.Traces.{Ending, Trace}
use Rattle.run_replay.specs.TraceTexts.{tallies_of, tally_lines, trace_text}
use Rattle.run_replay.specs.Watching.{MonitorData}
use Rattle.run_replay.specs.declared.traces.End.{End}
use Rattle.run_replay.specs.declared.traces.End.TheVariants.{Terminal as EndTerminal, Ended as EndEnded, Capped as EndCapped}
use Rattle.run_replay.specs.declared.worlds.Step.{Step}
use Rattle.plan_rules.specs.Rules.{PlainPlan}
use Rattle.task_core.specs.Names.{Name}
use Rattle.task_core.specs.States.{vector}
use Rattle.task_core.specs.declared.states.State.{State}
use Rattle.task_core.specs.Systems.{System}
use Rattle.command_base.specs.Answers.{Answer, affirmed, no_memory, refused}
use Rattle.replay_command.specs.ReplayCommand.{IsReplayed, Tallies, ended_answer, replay_text, trace_under}
use Rattle.command_base.specs.Words.{Bytes}

-- the trace with these steps, this end and these numbers left
abbrev pub trace_with : ℕ → List Step → Ending → List ℕ → Trace
trace_with n steps ending left = record { steps = steps_value n steps; ending = ending; left = left }

replayed_as : (tallies : Tallies) (sys : System) (actions : List Name) (trace : Trace) (steps : List Step) (ending : Ending) (left : List ℕ) (a : Answer)
    → trace_with sys.fluents steps ending left ≡ trace → All (IsStepOf sys.fluents sys.actions) steps
    → a ≡ ended_answer (replay_text tallies actions (trace_with sys.fluents steps ending left) steps) ending
    → IsReplayed tallies sys actions trace a
replayed_as tallies sys actions trace steps ending left a is in_system shown = record {
  told = steps;
  steps = record { same = ap (λ (t : Trace). t.steps) is; in_system = in_system };
  shown = subst (λ (t : Trace). a ≡ ended_answer (replay_text tallies actions t steps) t.ending) is shown;
}

ended_shows : (text : Bytes) (end : End) → affirmed text ≡ ended_answer text (ending_of end)
ended_shows text EndTerminal = refl
ended_shows text EndEnded = refl
ended_shows text EndCapped = refl

-- a run that came to its end
pub ended_run : (monitors now : List MonitorData) (sys : System) (actions : List Name) (trace : Trace) (steps : List Step) (end : End) (left : List ℕ) (text : Bytes)
    → trace_with sys.fluents steps (ending_of end) left ≡ trace → All (IsStepOf sys.fluents sys.actions) steps → tally_lines now ≡ tallies_of monitors steps
    → text ≡ trace_text actions (steps_value sys.fluents steps) (ending_of end) ++ tally_lines now
    → IsReplayed (tallies_of monitors) sys actions trace (affirmed text)
ended_run monitors now sys actions trace steps end left text is in_system told written =
    replayed_as (tallies_of monitors) sys actions trace steps (ending_of end) left (affirmed text) is in_system
    (ap affirmed (written ∙ ap (λ (t : Bytes). trace_text actions (steps_value sys.fluents steps) (ending_of end) ++ t) told)
    ∙ ended_shows (trace_text actions (steps_value sys.fluents steps) (ending_of end) ++ tallies_of monitors steps) end)

-- a run in a task with the same system and the same names of actions
pub same_replay : (tallies : Tallies) (sys sys' : System) (actions actions' : List Name) (plan : PlainPlan) (first : State) (words : List ℕ) (a : Answer) → sys ≡ sys' → actions ≡ actions'
    → (a ≡ refused no_memory) ⊎ IsReplayed tallies sys actions (trace_under sys plan (vector sys.fluents first) words) a
    → (a ≡ refused no_memory) ⊎ IsReplayed tallies sys' actions' (trace_under sys' plan (vector sys'.fluents first) words) a
same_replay tallies sys sys' actions actions' plan first words a is names replayed =
    let P : System → List Name → Type 0 = λ s ns. (a ≡ refused no_memory) ⊎ IsReplayed tallies s ns (trace_under s plan (vector s.fluents first) words) a in
    subst (λ (ns : List Name). P sys' ns) names (subst (λ (s : System). P s actions) is replayed)
