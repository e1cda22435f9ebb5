use Rattle.std.proofs.lemmas.Result.{err_from_is_err_and}
use Rattle.plan_io.specs.Fetches.{FailedLast}
use Rattle.command_base.specs.Answers.{refused}
use Rattle.command_base.specs.Values.{refusal_of}
use Rattle.command_base.proofs.PddlDecides.{refused_both}
use Rattle.lint_command.specs.Mistakes.{MistakesThen}
use Rattle.lint_command.specs.ReadValues.{spelled_by}
use Rattle.lint_command.specs.Values.{mistakes_words_of}
use Rattle.lint_command.proofs.AfterReading.{after_mistakes, before_mistakes}
use Rattle.lint_command.proofs.commands.mistakes_in_files.Goals as goal

pub returns-in_err-read-clause-answer : goal.returns-in_err-read-clause-answer
returns-in_err-read-clause-answer g c =
    let p = err_from_is_err_and c.from_residual.result c.from_residual.ensures.1 in
    let held = g.S.Shelf.held c.args.shelf.now in
    let failed = FailedLast g.S.Shelf.fetched g.S.Shelf.faults c.args.shelf.now c.read_texts.new.shelf in
    let asked = mistakes_words_of c.args.asked.now in
    rw (p.1, p.2) (before_mistakes held failed asked (refused (refusal_of c.in_err-read.field-0.0))
    (refused_both held failed asked.names.domain asked.names.problem (MistakesThen held asked) (refusal_of c.in_err-read.field-0.0) c.in_err-read.ensures.refused))

pub returns-clause-answer : goal.returns-clause-answer
returns-clause-answer g c =
    let held = g.S.Shelf.held c.args.shelf.now in
    let failed = FailedLast g.S.Shelf.fetched g.S.Shelf.faults c.args.shelf.now c.read_texts.new.shelf in
    let asked = mistakes_words_of c.args.asked.now in
    let read = c.in_ok-read.ensures in
    after_mistakes held failed asked (spelled_by c.in_ok-read.read) _
    (record { domain_file = read.domain_file; domain_spelled = read.domain_spelled; problem_file = read.problem_file; problem_spelled = read.problem_spelled }) c.shown.ensures

pub shown-requires-clause-domain_text : goal.shown-requires-clause-domain_text
shown-requires-clause-domain_text g c = c.in_ok-read.ensures.domain_file.short

pub shown-requires-clause-problem_text : goal.shown-requires-clause-problem_text
shown-requires-clause-problem_text g c = c.in_ok-read.ensures.problem_file.short

pub shown-requires-clause-fits_domain : goal.shown-requires-clause-fits_domain
shown-requires-clause-fits_domain g c = c.in_ok-read.ensures.fits_domain

pub shown-requires-clause-fits_problem : goal.shown-requires-clause-fits_problem
shown-requires-clause-fits_problem g c = c.in_ok-read.ensures.fits_problem

pub shown-requires-clause-names : goal.shown-requires-clause-names
shown-requires-clause-names g c = c.in_ok-read.ensures.names
