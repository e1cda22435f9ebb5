use Rattle.command_base.specs.Values.{plan_words_of}
use Rattle.pddl_ast.specs.Values.{domain_value, problem_value}
use Rattle.task_core.specs.declared.classes.Class.TheVariants.{Weak}
use Rattle.why_command.proofs.Whys.{said_of_one}
use Rattle.why_command.proofs.planned.push_weak.Goals as goal

pub returns : goal.returns
returns c =
    said_of_one (plan_words_of c.args.asked.now) (domain_value c.args.read.now.domain.now) (problem_value c.args.read.now.problem.now) Weak
    c.args.text.now.items c.push_tried.new.text.items c.in_ok-push_tried.field-0 c.in_ok-push_tried.ensures
