use Rattle.std.proofs.Common.{◌∙◌, subst, sym}
use Rattle.std.proofs.lemmas.Result.{err_from_is_err_and}
use Rattle.command_base.specs.Values.{answer_of, refusal_of}
use Rattle.pddl_ast.specs.Values.{problem_value}
use Rattle.plan_rules.specs.Plans.{IsPlanOf}
use Rattle.task_core.specs.Tasks.{action_count, fluent_count}
use Rattle.task_core.specs.declared.tasks.Task.{Task}
use Rattle.explain_command.specs.Values.{explain_words_of, lined_of}
use Rattle.explain_command.proofs.Explaining.{goal_refused, judged_read}
use Rattle.explain_command.proofs.verdicts.explain_read.Goals as goal

pub explain_followed-requires-clause-in_task : goal.explain_followed-requires-clause-in_task
explain_followed-requires-clause-in_task c =
    subst (λ (task : Task). IsPlanOf (fluent_count task) (action_count task) c.args.lined.now.read.plan) (sym c.in_ok-judged_by.ensures.task) c.requires.in_task

pub returns : goal.returns
returns c =
    judged_read (explain_words_of c.args.asked.now) (problem_value c.args.problem.now) (lined_of c.args.lined.now) c.args.grounded.task c.args.grounded.ctl
    (sym c.is_plan_of_kind.ensures ∙ c.if-not-is_plan_of_kind.false) (answer_of c.explain_followed.result) c.in_ok-judged_by.judged_by.task c.in_ok-judged_by.judged_by.ctl
    c.in_ok-judged_by.ensures.task c.in_ok-judged_by.ensures.goal c.explain_followed.ensures

pub returns-in_err-judged_by : goal.returns-in_err-judged_by
returns-in_err-judged_by c =
    let p = err_from_is_err_and c.from_residual-in_err-judged_by.result c.from_residual-in_err-judged_by.ensures.1 in
    rw (p.1, p.2) (goal_refused (explain_words_of c.args.asked.now) (problem_value c.args.problem.now) (lined_of c.args.lined.now) c.args.grounded.task c.args.grounded.ctl
    (sym c.is_plan_of_kind.ensures ∙ c.if-not-is_plan_of_kind.false) (refusal_of c.in_err-judged_by.field-0.0) c.in_err-judged_by.ensures.refused)
