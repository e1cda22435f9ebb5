-- The run of a witness, as it is told.
use Rattle.std.proofs.Common.{◌≡◌, Bool, ℕ, List, Some, ap, map, refl}
use Rattle.std.specs.Prelude.{slice_get}
use Rattle.ctl_syntax.specs.Goals.{CtlTree}
use Rattle.goal_witness.specs.Lines.{line_value, lines_from}
use Rattle.goal_witness.specs.Links.{links_value}
use Rattle.goal_witness.specs.Witnesses.{IsWitness, witness_value}
use Rattle.goal_witness.specs.declared.lines.Line.{Line}
use Rattle.goal_witness.specs.declared.witnesses.Witness.{Witness}
use Rattle.counterexamples.specs.Findings.{goal_missed}
use Rattle.counterexamples.specs.Misses.{IsMiss}
use Rattle.plan_rules.specs.Rules.{PlainPlan}
use Rattle.plan_witness.specs.Values.{run_value}
use Rattle.task_core.specs.States.{vector}
use Rattle.task_core.specs.Tasks.{fluent_count, initial_states, system_of}
use Rattle.task_core.specs.declared.conditions.Cond.{Cond}
use Rattle.task_core.specs.declared.tasks.Task.{Task}

pub told_miss : (task : Task) (plan : PlainPlan) (goal : CtlTree Cond) (fair : Bool) (witness : Witness) (number : ℕ) (lines : List Line)
    → slice_get (initial_states task) number ≡ Some (vector (fluent_count task) witness.run.start)
    → map line_value lines ≡ lines_from 0 (links_value (fluent_count task) witness.links.items)
    → IsWitness (system_of task) plan goal (witness_value (fluent_count task) witness)
    → IsMiss task plan fair goal (record { number = number; run = run_value (fluent_count task) witness.run; stem = witness.stem; ending = goal_missed fair (map line_value lines) })
told_miss task plan goal fair witness number lines numbered said is = record {
  witness = witness_value (fluent_count task) witness;
  shows = is;
  numbered = numbered;
  run = refl;
  stem = refl;
  said = ap (goal_missed fair) said;
}
