-- Which verdicts a run shows.
use Rattle.std.specs.Prelude.{◌≡◌, ℕ, List, Option}
use Rattle.ctl_syntax.specs.Goals.{CtlTree}
use Rattle.task_core.specs.Tasks.{system_of}
use Rattle.task_core.specs.declared.classes.Class.{Class}
use Rattle.task_core.specs.declared.tasks.Task.{Task}
use Rattle.task_core.specs.declared.conditions.Cond.{Cond}
use Rattle.plan_check.specs.ContextVerdicts.{HasContextReason, IsContextYes, IsTrueAt}
use Rattle.plan_check.specs.Verdicts.{HasReason}
use Rattle.plan_check.specs.declared.verdicts.Reason.{Reason}
use Rattle.plan_check.specs.declared.verdicts.Reason.TheVariants.{Formula}
use Rattle.plan_check.specs.declared.verdicts.Verdict.TheVariants.{No}
use Rattle.plan_rules.specs.Denoted.{denoted_contexts}
use Rattle.plan_rules.specs.Rules.{ContextRule, PlanRule, automaton, table}
use Rattle.plan_witness.specs.Ends.{IsEnd}
use Rattle.plan_witness.specs.Runs.{NoneReached}
use Rattle.counterexamples.specs.Aims.{IsAimAt, class_aim, context_aim}

-- what shows a reason that speaks against a table as a plan of a class is reached by the table
abbrev pub FailuresAreShown : Type 0
FailuresAreShown =
    (task : Task) (written class : Class) (rules : List PlanRule) (reason : Reason)
    → HasReason (system_of task) rules reason class
    → NoneReached (system_of task) (table written rules)
    (IsAimAt (class_aim class (No reason)) (system_of task) (table written rules))
    → ⊥

-- what shows a reason that speaks against a plan with contexts is reached by it, but where the reason is
-- that some initial state hasn't the goal
abbrev pub ContextFailuresAreShown : Type 0
ContextFailuresAreShown =
    (task : Task) (contexts : ℕ) (rules : List ContextRule) (goal : CtlTree Cond) (reason : Reason)
    → HasContextReason (system_of task) (denoted_contexts rules)
    (IsTrueAt (system_of task) (denoted_contexts rules) goal) reason
    → (reason ≡ Formula → ⊥)
    → NoneReached (system_of task) (automaton contexts rules)
    (IsAimAt (context_aim (No reason)) (system_of task) (automaton contexts rules))
    → ⊥

-- a plan with contexts that is a yes may reach no configuration in which it ends: each run goes on for ever
abbrev pub ContextPlansNeverEnd : Type 0
ContextPlansNeverEnd =
    (task : Task) (contexts : ℕ) (rules : List ContextRule) (goal : CtlTree Cond) (bound : Option ℕ)
    → IsContextYes (system_of task) (denoted_contexts rules)
    (IsTrueAt (system_of task) (denoted_contexts rules) goal) bound
    → NoneReached (system_of task) (automaton contexts rules)
    (IsEnd (system_of task) (automaton contexts rules))
