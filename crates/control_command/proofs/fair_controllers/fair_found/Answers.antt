use Rattle.std.proofs.Common.{inr, refl, rules}
use Rattle.pddl_ast.specs.Values.{domain_value, problem_value}
use Rattle.control_command.specs.Values.{fair_words_of}
use Rattle.control_command.proofs.FairAnswers.{found_fairly, none_fairly}
use Rattle.control_command.proofs.fair_controllers.fair_found.Goals as goal

pub returns-in-Plan : goal.returns-in-Plan
returns-in-Plan c =
    let s = c.args.sought.now in
    let t = c.args.task.now in
    let here = c.requires.ready.of_goal in
    found_fairly (fair_words_of s.asked.now) (domain_value s.domain.now) (problem_value s.problem.now) t.goal.now here.stands t.judged.now.task here.of_task
    c.fair_goals_are_true.ensures.alike c.requires.some c.requires.ready.few (search rules) c.fair_controller.result c.fair_controller.ensures.shown c.fair_controller.ensures.refused

pub returns-in-NoPlan : goal.returns-in-NoPlan
returns-in-NoPlan c =
    let s = c.args.sought.now in
    let t = c.args.task.now in
    let here = c.requires.ready.of_goal in
    inr (none_fairly (fair_words_of s.asked.now) (domain_value s.domain.now) (problem_value s.problem.now) t.goal.now here.stands t.judged.now.task here.of_task
    c.requires.some c.requires.ready.few (search rules) _ refl)
