use Rattle.std.proofs.Common.{ap, refl}
use Rattle.command_base.specs.Values.{bytes_of, plan_words_of, refusal_of, shown_of}
use Rattle.pddl_ast.specs.Values.{domain_value, problem_value}
use Rattle.why_command.proofs.Whys.{tried_affirmed, tried_denied, tried_refused}
use Rattle.why_command.proofs.planned.push_tried.Goals as goal

pub returns-in-Ok-Affirmed : goal.returns-in-Ok-Affirmed
returns-in-Ok-Affirmed c =
    tried_affirmed (plan_words_of c.args.asked.now) (domain_value c.args.read.now.domain.now) (problem_value c.args.read.now.problem.now) c.args.class
    (plan_words_of c.asked_for-other.result) (bytes_of c.in-Ok-Affirmed.field-0-0) c.args.text.now.items c.push_exists.new.text.items (shown_of c.in-Ok-Affirmed.field-0)
    c.asked_for-other.ensures.words (ap shown_of c.in-Ok-Affirmed.field-0-is) c.in-Ok-Affirmed.ensures c.in_ok-push_exists-in-Ok-Affirmed.ensures

pub returns-in-Ok-Denied : goal.returns-in-Ok-Denied
returns-in-Ok-Denied c =
    tried_denied (plan_words_of c.args.asked.now) (domain_value c.args.read.now.domain.now) (problem_value c.args.read.now.problem.now) c.args.class
    (plan_words_of c.asked_for-other.result) (bytes_of c.in-Ok-Denied.field-0-0) c.args.text.now.items c.push_none.new.text.items (shown_of c.in-Ok-Denied.field-0)
    c.asked_for-other.ensures.words (ap shown_of c.in-Ok-Denied.field-0-is) c.in-Ok-Denied.ensures c.in_ok-push_none-in-Ok-Denied.ensures

pub returns : goal.returns
returns c =
    tried_refused (plan_words_of c.args.asked.now) (domain_value c.args.read.now.domain.now) (problem_value c.args.read.now.problem.now) c.args.class
    (plan_words_of c.asked_for-other.result) (refusal_of c.in-Err.field-0) c.args.text.now.items _
    c.asked_for-other.ensures.words refl c.in-Err.ensures
