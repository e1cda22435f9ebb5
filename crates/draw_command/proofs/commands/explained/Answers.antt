use Rattle.std.proofs.Common.{refl}
use Rattle.std.specs.Prelude.{Some}
use Rattle.std.proofs.lemmas.Result.{err_from_is_err_and}
use Rattle.pddl_ast.specs.Values.{problem_value}
use Rattle.plan_io.specs.Fetches.{FailedLast}
use Rattle.plan_rules.specs.Rules.{plain_of}
use Rattle.plan_page.specs.ExplanationValues.{explanation_value}
use Rattle.plan_page.specs.Explanations.{PlainExplanation, TellsExplanation}
use Rattle.command_base.specs.Answers.{Answer}
use Rattle.command_base.specs.Values.{answer_of, refusal_of}
use Rattle.command_base.proofs.Later.{file_refused, next_answer}
use Rattle.draw_command.specs.Pictures.{DrawnOf, IsFaultyExplanation}
use Rattle.draw_command.specs.Values.{picture_words_of}
use Rattle.draw_command.proofs.commands.explained.Goals as goal

pub returns-in_err-explanation-clause-answer : goal.returns-in_err-explanation-clause-answer
returns-in_err-explanation-clause-answer g c =
    let p = err_from_is_err_and c.from_residual.result c.from_residual.ensures.1 in
    let held = g.S.Shelf.held c.args.shelf.now in
    let failed = FailedLast g.S.Shelf.fetched g.S.Shelf.faults c.args.shelf.now c.read_explanation_file.new.shelf in
    let wanted = c.args.wanted.now in
    let Then : PlainExplanation → Answer → Type 0 = λ e. DrawnOf (picture_words_of c.args.asked.now) (problem_value wanted.problem.now) wanted.task.now (plain_of wanted.plan.now) (Some e) in
    rw (p.1, p.2) (file_refused held failed c.args.file.now TellsExplanation IsFaultyExplanation Then (refusal_of c.in_err-explanation.field-0.0) c.in_err-explanation.ensures.refused)

pub returns-clause-answer : goal.returns-clause-answer
returns-clause-answer g c =
    let held = g.S.Shelf.held c.args.shelf.now in
    let failed = FailedLast g.S.Shelf.fetched g.S.Shelf.faults c.args.shelf.now c.read_explanation_file.new.shelf in
    let wanted = c.args.wanted.now in
    let Then : PlainExplanation → Answer → Type 0 = λ e. DrawnOf (picture_words_of c.args.asked.now) (problem_value wanted.problem.now) wanted.task.now (plain_of wanted.plan.now) (Some e) in
    next_answer held failed c.args.file.now TellsExplanation IsFaultyExplanation Then (explanation_value c.in_ok-explanation.explanation) (answer_of c.drawn.result)
    c.in_ok-explanation.ensures.holds c.drawn.ensures

pub returns-in_err-explanation-clause-fetches : goal.returns-in_err-explanation-clause-fetches
returns-in_err-explanation-clause-fetches g c = (c.read_explanation_file.new.shelf, c.in_err-explanation.ensures.fetch, refl)

pub returns-clause-fetches : goal.returns-clause-fetches
returns-clause-fetches g c = (c.read_explanation_file.new.shelf, c.in_ok-explanation.ensures.fetch, refl)
