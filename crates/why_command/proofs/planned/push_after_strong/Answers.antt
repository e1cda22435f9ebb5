use Rattle.std.proofs.Common.{[], ◌∷◌}
use Rattle.command_base.specs.Values.{plan_words_of}
use Rattle.pddl_ast.specs.Values.{domain_value, problem_value}
use Rattle.task_core.specs.declared.classes.Class.TheVariants.{Cyclic, Weak}
use Rattle.why_command.proofs.Whys.{said_of_more}
use Rattle.why_command.proofs.planned.push_after_strong.Goals as goal

pub returns-in_ok-push_weak : goal.returns-in_ok-push_weak
returns-in_ok-push_weak c =
    said_of_more (plan_words_of c.args.asked.now) (domain_value c.args.read.now.domain.now) (problem_value c.args.read.now.problem.now) Cyclic (Weak ∷ [])
    c.args.text.now.items c.push_tried.new.text.items c.push_weak.new.text.items c.in_ok-push_tried.field-0 c.if-branch.true
    c.in_ok-push_tried.ensures c.in_ok-push_weak.ensures
