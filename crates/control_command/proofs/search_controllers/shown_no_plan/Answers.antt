use Rattle.pddl_ast.specs.Values.{domain_value, problem_value}
use Rattle.plan_certs.specs.Named.{plain_certificate}
use Rattle.control_command.specs.Values.{control_words_of}
use Rattle.control_command.proofs.NoPlans.{is_refuted}
use Rattle.control_command.proofs.search_controllers.shown_no_plan.Goals as goal

pub returns : goal.returns
returns c =
    let s = c.args.sought.now in
    is_refuted c.accepted_certificates_mean_no_plan.ensures (control_words_of s.asked.now) (domain_value s.domain.now) (problem_value s.problem.now) s.grounded.now.task
    (plain_certificate c.args.certificate.now) c.in_ok-text.text c.requires.ready.grounded.of_task c.requires.of_class (c.is_accepted.ensures c.if-not-is_accepted.false) c.in_ok-text.ensures
