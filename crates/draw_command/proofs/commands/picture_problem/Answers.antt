use Rattle.std.proofs.Common.{inr}
use Rattle.pddl_ast.specs.Values.{domain_value, problem_value}
use Rattle.plan_io.specs.Fetches.{FailedLast}
use Rattle.command_base.specs.Values.{answer_of}
use Rattle.draw_command.specs.Values.{picture_words_of}
use Rattle.draw_command.proofs.Answers.{task_answer}
use Rattle.draw_command.proofs.PictureFetched.{task_fetched}
use Rattle.draw_command.proofs.commands.picture_problem.Goals as goal

pub returns-clause-answer : goal.returns-clause-answer
returns-clause-answer g c =
    let held = g.S.Shelf.held c.args.shelf.now in
    let failed = FailedLast g.S.Shelf.fetched g.S.Shelf.faults c.args.shelf.now c.picture_task.new.shelf in
    task_answer held failed (picture_words_of c.args.asked.now) (domain_value c.args.domain.now) (problem_value c.args.problem.now) c.in_ok-task.task (answer_of c.picture_task.result)
    c.in_ok-task.ensures.task c.in_ok-task.ensures.system c.in_ok-task.ensures.within c.picture_task.ensures.answer

pub returns-clause-fetches : goal.returns-clause-fetches
returns-clause-fetches g c =
    let held = g.S.Shelf.held c.args.shelf.now in
    let failed = FailedLast g.S.Shelf.fetched g.S.Shelf.faults c.args.shelf.now c.picture_task.new.shelf in
    inr (
      c.in_ok-task.ensures.within,
      task_fetched held failed g.S.Shelf.fetched (picture_words_of c.args.asked.now) (domain_value c.args.domain.now) (problem_value c.args.problem.now) c.in_ok-task.task _
          c.args.shelf.now c.picture_task.new.shelf c.in_ok-task.ensures.task c.picture_task.ensures.fetches,
    )
