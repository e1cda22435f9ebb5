use Rattle.std.proofs.Common.{◌≡◌, ◌∙◌, ℕ, length, arith, ap, subst}
use Rattle.exec_graph.specs.Executions.{ReachesMoreThan}
use Rattle.plan_rules.specs.Rules.{rules_of, table}
use Rattle.task_core.specs.Tasks.{system_of}
use Rattle.task_core.specs.declared.classes.Class.{Class}
use Rattle.command_base.specs.Following.{most_followed}
use Rattle.drill_command.specs.DrillCommand.{rules_line}
use Rattle.drill_command.proofs.DrillAnswers.{count_is}
use Rattle.drill_command.proofs.drill_command.plan_line.Goals as goal

pub returns-in-Ok-clause-line : goal.returns-in-Ok-clause-line
returns-in-Ok-clause-line c =
    let rules = rules_of c.args.table in
    let sys = system_of c.args.task.now in
    let w = c.in_ok-line-in-Ok.ensures c.args.table.class rules c.in-Ok.ensures.graph in
    let counted : c.len-count.result ≡ length rules = omega (arith, c.len-count.ensures, count_is c.args.table, c.args.table.rules.ok.0) in
    record {
      few_initial = c.in-Ok.ensures.few_initial;
      few = subst (λ (k : Class). ReachesMoreThan sys (table k rules) most_followed → ⊥) c.requires.found.answer.of_class c.in-Ok.ensures.few;
      verdict = w.0;
      judged = w.1;
      written = w.2 ∙ ap (λ (n : ℕ). rules_line c.args.class n w.0) counted;
    }
