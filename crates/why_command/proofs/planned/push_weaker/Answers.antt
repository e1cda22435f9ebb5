use Rattle.std.proofs.Common.{ap}
use Rattle.command_base.specs.Values.{kind_of, plan_words_of}
use Rattle.command_base.specs.declared.words.PlanKind.{PlanKind}
use Rattle.pddl_ast.specs.Values.{domain_value, problem_value}
use Rattle.why_command.specs.Whys.{weaker}
use Rattle.why_command.proofs.Whys.{said_of_none}
use Rattle.why_command.proofs.planned.push_weaker.Goals as goal

pub returns-in-Contexts : goal.returns-in-Contexts
returns-in-Contexts c =
    said_of_none (plan_words_of c.args.asked.now) (domain_value c.args.read.now.domain.now) (problem_value c.args.read.now.problem.now) (weaker (kind_of c.args.asked.now.kind)) c.args.text.now.items
    (ap (λ (kind : PlanKind). weaker (kind_of kind)) c.in-Contexts.is)
