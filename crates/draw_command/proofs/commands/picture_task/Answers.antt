use Rattle.std.proofs.Common.{inl, inr, refl}
use Rattle.std.proofs.lemmas.Result.{err_from_is_err_and}
use Rattle.pddl_ast.specs.Values.{problem_value}
use Rattle.plan_io.specs.Fetches.{FailedLast}
use Rattle.plan_rules.specs.Rules.{plain_of}
use Rattle.task_core.specs.Tasks.{action_names, fluent_names}
use Rattle.command_base.specs.PlanFiles.{IsFaultyPlan, SpellsPlaced}
use Rattle.command_base.specs.Values.{answer_of, placed_of, refusal_of}
use Rattle.command_base.proofs.Fetched.{plan_stops}
use Rattle.command_base.proofs.Later.{failed_over, file_refused, next_answer}
use Rattle.draw_command.specs.Pictures.{DrawnOf, RunThen}
use Rattle.draw_command.specs.Values.{picture_words_of}
use Rattle.draw_command.proofs.Answers.{run_later_or}
use Rattle.draw_command.proofs.commands.picture_task.Goals as goal

pub returns-in_err-read-clause-answer : goal.returns-in_err-read-clause-answer
returns-in_err-read-clause-answer g c =
    let p = err_from_is_err_and c.from_residual.result c.from_residual.ensures.1 in
    let held = g.S.Shelf.held c.args.shelf.now in
    let failed = FailedLast g.S.Shelf.fetched g.S.Shelf.faults c.args.shelf.now c.read_plan_file.new.shelf in
    let task = c.args.task.now in
    let asked = picture_words_of c.args.asked.now in
    rw (p.1, p.2) (file_refused held failed asked.plan (SpellsPlaced (fluent_names task) (action_names task)) (IsFaultyPlan (fluent_names task) (action_names task))
    (λ placed. RunThen held failed asked.form (DrawnOf asked (problem_value c.args.problem.now) task placed.plan)) (refusal_of c.in_err-read.field-0.0) c.in_err-read.ensures.refused)

pub returns-clause-answer : goal.returns-clause-answer
returns-clause-answer g c =
    let held = g.S.Shelf.held c.args.shelf.now in
    let held' = g.S.Shelf.held c.read_plan_file.new.shelf in
    let failed = FailedLast g.S.Shelf.fetched g.S.Shelf.faults c.args.shelf.now c.draw_command.new.shelf in
    let failed' = FailedLast g.S.Shelf.fetched g.S.Shelf.faults c.read_plan_file.new.shelf c.draw_command.new.shelf in
    let task = c.args.task.now in
    let asked = picture_words_of c.args.asked.now in
    let problem = problem_value c.args.problem.now in
    let answer = answer_of c.draw_command.result in
    next_answer held failed asked.plan (SpellsPlaced (fluent_names task) (action_names task)) (IsFaultyPlan (fluent_names task) (action_names task))
    (λ placed. RunThen held failed asked.form (DrawnOf asked problem task placed.plan)) (placed_of c.in_ok-read.read) answer c.in_ok-read.ensures.holds
    (run_later_or held held' failed failed' asked.form (DrawnOf asked problem task (plain_of c.in_ok-read.read.plan)) answer c.in_ok-read.ensures.shelf.kept
    (λ file. failed_over g.S.Shelf.fetched g.S.Shelf.faults c.args.shelf.now c.read_plan_file.new.shelf c.draw_command.new.shelf asked.plan file
    c.in_ok-read.ensures.fetch c.in_ok-read.ensures.shelf.quiet) c.draw_command.ensures.answer)

pub returns-in_err-read-clause-fetches : goal.returns-in_err-read-clause-fetches
returns-in_err-read-clause-fetches g c =
    let p = err_from_is_err_and c.from_residual.result c.from_residual.ensures.1 in
    let held = g.S.Shelf.held c.args.shelf.now in
    let failed = FailedLast g.S.Shelf.fetched g.S.Shelf.faults c.args.shelf.now c.read_plan_file.new.shelf in
    let task = c.args.task.now in
    rw (p.1, p.2) (
      c.read_plan_file.new.shelf,
      c.in_err-read.ensures.fetch,
      inl (plan_stops held failed (fluent_names task) (action_names task) c.args.asked.now.plan.now (refusal_of c.in_err-read.field-0.0) c.in_err-read.ensures.refused, refl),
    )

pub returns-clause-fetches : goal.returns-clause-fetches
returns-clause-fetches g c =
    let placed = placed_of c.in_ok-read.read in (
      c.read_plan_file.new.shelf,
      c.in_ok-read.ensures.fetch,
      inr ((placed.plan, record { place = placed.place; holds = c.in_ok-read.ensures.holds }), c.draw_command.ensures.fetches),
    )
