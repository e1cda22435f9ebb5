use Rattle.std.proofs.Common.{subst}
use Rattle.pddl_ast.specs.Values.{domain_value, problem_value}
use Rattle.command_base.specs.Values.{bytes_of}
use Rattle.control_command.specs.Values.{control_words_of}
use Rattle.plan_command.specs.Plannings.{IsPlannedFor, shown_planned}
use Rattle.plan_command.specs.declared.planned.Planned.{Planned}
use Rattle.control_command.specs.Sought.{IsAnswerFound}
use Rattle.control_command.proofs.Answers.{controlled, denial_then}
use Rattle.control_command.proofs.plan_controllers.controller_of_planned.Goals as goal

pub controller_of_found-requires-clause-in_task : goal.controller_of_found-requires-clause-in_task
controller_of_found-requires-clause-in_task c =
    subst (λ (x : Planned). IsPlannedFor c.args.sought.now.grounded.now.task x) c.in-Plan.is c.requires.in_task

pub controller_of_found-requires-clause-found : goal.controller_of_found-requires-clause-found
controller_of_found-requires-clause-found c =
    subst (λ (x : Planned). IsAnswerFound c.args.sought.now (shown_planned c.args.sought.now.grounded.now.task x)) c.in-Plan.is c.requires.found

pub returns-in-Plan : goal.returns-in-Plan
returns-in-Plan c =
    let s = c.args.sought.now in
    controlled (control_words_of s.asked.now) (domain_value s.domain.now) (problem_value s.problem.now) c.controller_of_found.result c.controller_of_found.ensures.shown c.controller_of_found.ensures.refused

pub returns-in-Missing : goal.returns-in-Missing
returns-in-Missing c =
    let s = c.args.sought.now in
    denial_then (control_words_of s.asked.now) (domain_value s.domain.now) (problem_value s.problem.now) (bytes_of c.in-Missing.text)
    (subst (λ (x : Planned). IsAnswerFound s (shown_planned s.grounded.now.task x)) c.in-Missing.is c.requires.found)
