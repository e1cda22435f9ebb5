-- A longest run of a plan whose runs all end in the goal.
use Rattle.std.specs.Prelude.{◌≡◌, ℕ, None, Option, Some, length, slice_get}
use Rattle.plan_check.specs.Verdicts.{IsVerdict}
use Rattle.plan_check.specs.declared.verdicts.Verdict.{Verdict}
use Rattle.plan_check.specs.declared.verdicts.Verdict.TheVariants.{No, Yes}
use Rattle.counterexamples.specs.Findings.{PlainFound, in_goal}
use Rattle.plan_rules.specs.Rules.{PlainPlan, automaton, table}
use Rattle.plan_witness.specs.Ends.{IsEndInside}
use Rattle.plan_witness.specs.Longest.{IsLongestRun}
use Rattle.plan_witness.specs.Runs.{end_of}
use Rattle.task_core.specs.ContextPlans.{Configuration, IsInitial}
use Rattle.task_core.specs.Systems.{System}
use Rattle.task_core.specs.Tasks.{initial_states, system_of}
use Rattle.task_core.specs.declared.classes.Class.{Class}
use Rattle.task_core.specs.declared.classes.Class.TheVariants.{Cyclic, Strong, Weak}
use Rattle.task_core.specs.declared.tasks.Task.{Task}

-- the verdict on a table as a plan of a class
abbrev pub IsClassVerdict : Class → System → PlainPlan → Verdict → Type 0
IsClassVerdict class sys (table written rules) verdict = IsVerdict sys rules class verdict
IsClassVerdict class sys (automaton contexts rules) verdict = ⊥

-- the run begins in the initial state of this number and ends in the goal. No path of the plan from an
-- initial state is longer, and it has as many steps as the bound says
pub record IsLongestFound (task : Task) (plan : PlainPlan) (bound : ℕ) (found : PlainFound) : Type 0 where
  pub numbered : slice_get (initial_states task) found.number ≡ Some found.run.start.state
  pub longest : IsLongestRun (system_of task) plan found.run
  pub long : length found.run.steps ≡ bound
  pub whole : found.stem ≡ length found.run.steps
  pub inside : IsEndInside (system_of task) plan (end_of found.run.start found.run.steps)
  pub ending : found.ending ≡ in_goal

-- there is such a run; or there is none, since there is no initial state
abbrev pub IsLongestFinding : Task → PlainPlan → ℕ → Option PlainFound → Type 0
IsLongestFinding task plan bound (Some found) = IsLongestFound task plan bound found
IsLongestFinding task plan bound None = (x : Configuration) → IsInitial (system_of task) x → ⊥

-- a longest run is told of a strong plan that is a yes, and of nothing else
abbrev pub IsLongestFor : Class → Verdict → Task → PlainPlan → Option PlainFound → Type 0
IsLongestFor Weak verdict task plan longest = longest ≡ None
IsLongestFor Cyclic verdict task plan longest = longest ≡ None
IsLongestFor Strong (No reason) task plan longest = longest ≡ None
IsLongestFor Strong (Yes None) task plan longest = longest ≡ None
IsLongestFor Strong (Yes (Some bound)) task plan longest = IsLongestFinding task plan bound longest
