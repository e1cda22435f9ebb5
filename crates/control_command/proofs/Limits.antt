-- Limits that the plan in hand passes.
use Rattle.std.proofs.Common.{◌≡◌, ◌<◌, List, inl, inr, length, refl, subst, codes}
use Rattle.exec_graph.specs.Executions.{ReachesMoreThan}
use Rattle.pddl_ast.specs.Trees.{DomainTree, ProblemTree}
use Rattle.pddl_system.specs.Systems.{fluent_names}
use Rattle.plan_rules.specs.Readings.{SpellsPlain}
use Rattle.plan_rules.specs.Rules.{PlainPlan}
use Rattle.task_core.specs.Names.{Name}
use Rattle.task_core.specs.Systems.{System}
use Rattle.task_core.specs.Tasks.{action_names as names_of_actions, fluent_names as names_of_fluents, system_of}
use Rattle.task_core.specs.declared.tasks.Task.{Task}
use Rattle.command_base.specs.Answers.{Refusal, affirmed, over_limit}
use Rattle.command_base.specs.Following.{most_followed}
use Rattle.command_base.specs.Grounded.{IsTaskOf}
use Rattle.plan_command.specs.PlanCommand.{PlanThen}
use Rattle.command_base.specs.Reading.{file_limit}
use Rattle.command_base.specs.Words.{Bytes, with_contexts}
use Rattle.command_base.proofs.TooMany.{too_many}
use Rattle.command_base.proofs.TaskNames.{same_actions, same_fluents}
use Rattle.control_command.specs.Controllers.{IsTooMuchToList, ReachesTooMany}
use Rattle.control_command.specs.Judged.{HasNoGraph, IsControlRefusal, IsTooLarge}
use Rattle.control_command.specs.Words.{ControlWords}

-- what has no graph is too much to be listed
pub too_much : (d : DomainTree) (p : ProblemTree) (task : Task) (plan : PlainPlan) → IsTaskOf d p task → HasNoGraph task plan → IsTooMuchToList d p plan
too_much d p task plan of (inl many) = inl (too_many d p task of.task_is many)
too_much d p task plan of (inr more) = inr (subst (λ (sys : System). ReachesMoreThan sys plan most_followed) of.system_is more)

-- the plan that `plan` finds, as it is read back
pub plan_reaches : (asked : ControlWords) (d : DomainTree) (p : ProblemTree) (task : Task) (text : Bytes) (plan : PlainPlan) → IsTaskOf d p task → PlanThen asked.plan d p (affirmed text)
    → SpellsPlain (names_of_fluents task) (names_of_actions task) text plan → ReachesMoreThan (system_of task) plan most_followed → ReachesTooMany asked d p
plan_reaches asked d p task text plan of found spelled more = record {
  text = text;
  found = found;
  plan = plan;
  spelled = subst (λ (ns : List Name). SpellsPlain (fluent_names d p) ns text plan) (same_actions d p task of.task_is)
      (subst (λ (ns : List Name). SpellsPlain ns (names_of_actions task) text plan) (same_fluents d p task of.task_is) spelled);
  more = subst (λ (sys : System). ReachesMoreThan sys plan most_followed) of.system_is more;
}

-- its text is too long
pub long_plan : (asked : ControlWords) (d : DomainTree) (p : ProblemTree) (text : Bytes) (r : Refusal) → PlanThen asked.plan d p (affirmed text) → file_limit < length text → r ≡ over_limit (codes "file") → IsControlRefusal asked d p r
long_plan asked d p text r found long is = inr (codes "file", inr (inr (refl, (text, found, long))), is)

-- what is too large has no graph
pub no_graph : (task : Task) (plan : PlainPlan) (name : Bytes) → IsTooLarge task plan name → HasNoGraph task plan
no_graph task plan name (inl (many, is)) = inl many
no_graph task plan name (inr (more, is)) = inr more

-- the limit that the plan passes that `plan` finds, where it has contexts
pub large_plan : (asked : ControlWords) (d : DomainTree) (p : ProblemTree) (task : Task) (text : Bytes) (plan : PlainPlan) (name : Bytes) (r : Refusal) → IsTaskOf d p task → asked.plan.kind ≡ with_contexts
    → PlanThen asked.plan d p (affirmed text) → SpellsPlain (names_of_fluents task) (names_of_actions task) text plan → IsTooLarge task plan name → r ≡ over_limit name → IsControlRefusal asked d p r
large_plan asked d p task text plan name r of kind found spelled (inl (many, is)) refusal = inr (name, inl (is, kind, too_many d p task of.task_is many), refusal)
large_plan asked d p task text plan name r of kind found spelled (inr (more, is)) refusal =
    inr (name, inr (inl (is, kind, plan_reaches asked d p task text plan of found spelled more)), refusal)
