use Rattle.std.proofs.lemmas.Result.{err_from_is_err_and}
use Rattle.plan_io.specs.Fetches.{FailedLast}
use Rattle.command_base.specs.Answers.{refused}
use Rattle.refute_command.specs.RefuteFetches.{as_check}
use Rattle.refute_command.specs.RefuteCommand.{IsRefuted}
use Rattle.command_base.specs.Values.{refusal_of, refute_words_of}
use Rattle.command_base.proofs.Fetched.{check_fetched, check_stopped}
use Rattle.command_base.proofs.Later.{failed_after_two}
use Rattle.command_base.proofs.PddlDecides.{refused_both}
use Rattle.refute_command.proofs.RefuteAnswers.{after_refute, before_refute}
use Rattle.refute_command.proofs.refute_command.refute_files.Goals as goal

pub returns-in_err-domain-clause-answer : goal.returns-in_err-domain-clause-answer
returns-in_err-domain-clause-answer g c =
    let p = err_from_is_err_and c.from_residual.result c.from_residual.ensures.1 in
    let held = g.S.Shelf.held c.args.shelf.now in
    let failed = FailedLast g.S.Shelf.fetched g.S.Shelf.faults c.args.shelf.now c.read_both.new.shelf in
    let asked = refute_words_of c.args.asked.now in
    rw (p.1, p.2) (before_refute held failed asked (refused (refusal_of c.in_err-domain.field-0.0))
    (refused_both held failed asked.domain asked.problem (IsRefuted held failed asked) (refusal_of c.in_err-domain.field-0.0) c.in_err-domain.ensures.refused))

pub returns-clause-answer : goal.returns-clause-answer
returns-clause-answer g c =
    let held = g.S.Shelf.held c.args.shelf.now in
    let held' = g.S.Shelf.held c.read_both.new.shelf in
    let failed = FailedLast g.S.Shelf.fetched g.S.Shelf.faults c.args.shelf.now c.refute_problem.new.shelf in
    let failed' = FailedLast g.S.Shelf.fetched g.S.Shelf.faults c.read_both.new.shelf c.refute_problem.new.shelf in
    let asked = refute_words_of c.args.asked.now in
    let over = failed_after_two g.S.Shelf.fetched g.S.Shelf.faults asked.domain asked.problem c.args.shelf.now c.read_both.new.shelf c.refute_problem.new.shelf asked.certificate
    c.in_ok-domain.ensures.fetched c.in_ok-domain.ensures.shelf.quiet in
    after_refute held held' failed failed' asked _ _ _ c.in_ok-domain.ensures.holds c.in_ok-domain.ensures.shelf.kept over c.refute_problem.ensures.answer

pub returns-in_err-domain-clause-fetches : goal.returns-in_err-domain-clause-fetches
returns-in_err-domain-clause-fetches g c =
    let p = err_from_is_err_and c.from_residual.result c.from_residual.ensures.1 in
    let held = g.S.Shelf.held c.args.shelf.now in
    let failed = FailedLast g.S.Shelf.fetched g.S.Shelf.faults c.args.shelf.now c.read_both.new.shelf in
    rw (p.1, p.2) (check_stopped held failed g.S.Shelf.fetched (as_check (refute_words_of c.args.asked.now)) (refusal_of c.in_err-domain.field-0.0) c.args.shelf.now c.read_both.new.shelf
    c.in_err-domain.ensures.refused c.in_err-domain.ensures.stopped)

pub returns-clause-fetches : goal.returns-clause-fetches
returns-clause-fetches g c =
    let held = g.S.Shelf.held c.args.shelf.now in
    let failed = FailedLast g.S.Shelf.fetched g.S.Shelf.faults c.args.shelf.now c.refute_problem.new.shelf in
    check_fetched held failed g.S.Shelf.fetched (as_check (refute_words_of c.args.asked.now)) _ _ _ c.args.shelf.now c.read_both.new.shelf c.refute_problem.new.shelf
    c.in_ok-domain.ensures.holds c.in_ok-domain.ensures.fetched c.refute_problem.ensures.fetches
