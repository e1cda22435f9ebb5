-- Private: the verdict on a plan of a task and its goal in computation tree logic.
use Rattle.std.specs.Prelude.{◌≡◌, IsSome, Option, Some}
use Rattle.ctl_syntax.specs.Values.{ctl_value}
use Rattle.ctl_syntax.specs.declared.goals.Ctl.{Ctl}
use Rattle.plan_check.specs.ContextVerdicts.{IsContextVerdict, IsTrueAt}
use Rattle.plan_check.specs.Verdicts.{IsVerdict}
use Rattle.plan_check.specs.declared.verdicts.Verdict.{Verdict}
use Rattle.plan_rules.specs.Denoted.{denoted_contexts}
use Rattle.plan_rules.specs.Rules.{PlainPlan, table, automaton}
use Rattle.task_core.specs.Tasks.{system_of}
use Rattle.task_core.specs.declared.tasks.Task.{Task}
use Rattle.command_base.specs.Words.{PlanKind, of_class, with_contexts}

-- there is a goal for plans of the kind
abbrev pub HasGoalIn : PlanKind → Task → Option Ctl → Type 0
HasGoalIn (of_class class) task goal = IsSome task.goal
HasGoalIn with_contexts task goal = IsSome goal

-- the verdict on a plan of the kind
abbrev pub IsTaskVerdict : PlanKind → Task → Option Ctl → PlainPlan → Verdict → Type 0
IsTaskVerdict (of_class class) task goal (table written rules) verdict =
    IsVerdict (system_of task) rules class verdict
IsTaskVerdict (of_class class) task goal (automaton contexts rules) verdict = ⊥
IsTaskVerdict with_contexts task goal (table written rules) verdict = ⊥
IsTaskVerdict with_contexts task goal (automaton contexts rules) verdict =
    (formula : Ctl) × (goal ≡ Some formula)
    × IsContextVerdict (system_of task) (denoted_contexts rules)
    (IsTrueAt (system_of task) (denoted_contexts rules) (ctl_value formula)) verdict
