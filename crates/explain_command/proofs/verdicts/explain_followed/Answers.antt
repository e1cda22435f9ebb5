use Rattle.std.proofs.Common.{inl, inr, ap, rules}
use Rattle.plan_rules.specs.Rules.{plain_of}
use Rattle.task_core.specs.Tasks.{system_of}
use Rattle.command_base.specs.Answers.{refused}
use Rattle.check_command.proofs.ReachedStates.{reaches_nothing, reaches_some}
use Rattle.explain_command.proofs.verdicts.explain_followed.Goals as goal

pub returns-in_ok-shown_graph-in-Ok : goal.returns-in_ok-shown_graph-in-Ok
returns-in_ok-shown_graph-in-Ok c =
    let task = c.args.grounded.now.task in
    inr (inr (inr (
      c.in-Ok.ensures.few_initial,
      c.in-Ok.ensures.few,
      inr (
        reaches_some (system_of task) (plain_of c.args.lined.now.read.plan) _ c.in-Ok.ensures.graph (search rules),
        c.in_ok-shown_graph-in-Ok.ensures,
      ),
    )))

pub returns-then-len-eq0 : goal.returns-then-len-eq0
returns-then-len-eq0 c =
    let task = c.args.grounded.now.task in
    inr (inr (inr (
      c.in-Ok.ensures.few_initial,
      c.in-Ok.ensures.few,
      inl (reaches_nothing (system_of task) (plain_of c.args.lined.now.read.plan) _ c.in-Ok.ensures.graph (search rules), ap refused c.in_ok-no_initial-in-Ok.ensures),
    )))
