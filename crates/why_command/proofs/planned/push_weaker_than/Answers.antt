use Rattle.std.proofs.Common.{ap}
use Rattle.command_base.specs.Values.{plan_words_of}
use Rattle.command_base.specs.Words.{of_class}
use Rattle.pddl_ast.specs.Values.{domain_value, problem_value}
use Rattle.task_core.specs.declared.classes.Class.{Class}
use Rattle.why_command.specs.Whys.{weaker}
use Rattle.why_command.proofs.Whys.{said_of_none}
use Rattle.why_command.proofs.planned.push_weaker_than.Goals as goal

pub returns-in-Weak : goal.returns-in-Weak
returns-in-Weak c =
    said_of_none (plan_words_of c.args.asked.now) (domain_value c.args.read.now.domain.now) (problem_value c.args.read.now.problem.now) (weaker (of_class c.args.class)) c.args.text.now.items
    (ap (λ (class : Class). weaker (of_class class)) c.in-Weak.is)
