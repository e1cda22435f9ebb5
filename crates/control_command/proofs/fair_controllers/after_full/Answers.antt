use Rattle.std.proofs.Common.{inr, refl}
use Rattle.pddl_ast.specs.Values.{domain_value, problem_value}
use Rattle.control_command.specs.Values.{fair_words_of}
use Rattle.control_command.proofs.FairAnswers.{full_fairly}
use Rattle.control_command.proofs.fair_controllers.after_full.Goals as goal

pub returns-in-None : goal.returns-in-None
returns-in-None c =
    let s = c.args.sought.now in
    let t = c.args.task.now in
    let here = c.requires.ready.of_goal in
    inr (full_fairly (fair_words_of s.asked.now) (domain_value s.domain.now) (problem_value s.problem.now) t.goal.now here.stands t.judged.now.task here.of_task
    c.requires.full c.requires.ready.few _ refl)
