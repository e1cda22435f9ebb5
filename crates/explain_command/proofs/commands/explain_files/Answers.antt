use Rattle.std.proofs.lemmas.Result.{err_from_is_err_and}
use Rattle.plan_io.specs.Fetches.{FailedLast}
use Rattle.explain_command.specs.Explained.{IsExplained}
use Rattle.command_base.specs.Values.{refusal_of}
use Rattle.explain_command.specs.Values.{explain_words_of}
use Rattle.explain_command.proofs.Explaining.{explained_later}
use Rattle.command_base.proofs.Fetched.{check_fetched, check_stopped}
use Rattle.command_base.proofs.Later.{failed_after_two}
use Rattle.command_base.proofs.PddlDecides.{after_both, refused_both}
use Rattle.explain_command.proofs.commands.explain_files.Goals as goal

pub returns-in_err-domain-clause-answer : goal.returns-in_err-domain-clause-answer
returns-in_err-domain-clause-answer g c =
    let p = err_from_is_err_and c.from_residual.result c.from_residual.ensures.1 in
    let held = g.S.Shelf.held c.args.shelf.now in
    let failed = FailedLast g.S.Shelf.fetched g.S.Shelf.faults c.args.shelf.now c.read_both.new.shelf in
    let asked = explain_words_of c.args.asked.now in
    rw (p.1, p.2) (refused_both held failed asked.check.domain asked.check.problem (IsExplained held failed asked) (refusal_of c.in_err-domain.field-0.0) c.in_err-domain.ensures.refused)

pub returns-clause-answer : goal.returns-clause-answer
returns-clause-answer g c =
    let held = g.S.Shelf.held c.args.shelf.now in
    let held' = g.S.Shelf.held c.read_both.new.shelf in
    let failed = FailedLast g.S.Shelf.fetched g.S.Shelf.faults c.args.shelf.now c.explain_problem.new.shelf in
    let failed' = FailedLast g.S.Shelf.fetched g.S.Shelf.faults c.read_both.new.shelf c.explain_problem.new.shelf in
    let asked = explain_words_of c.args.asked.now in
    let over = failed_after_two g.S.Shelf.fetched g.S.Shelf.faults asked.check.domain asked.check.problem c.args.shelf.now c.read_both.new.shelf c.explain_problem.new.shelf asked.check.plan
    c.in_ok-domain.ensures.fetched c.in_ok-domain.ensures.shelf.quiet in
    after_both held failed asked.check.domain asked.check.problem (IsExplained held failed asked) _ _ _ c.in_ok-domain.ensures.holds
    (explained_later held held' failed failed' asked _ _ _ c.in_ok-domain.ensures.shelf.kept over c.explain_problem.ensures.answer)

pub returns-in_err-domain-clause-fetches : goal.returns-in_err-domain-clause-fetches
returns-in_err-domain-clause-fetches g c =
    let p = err_from_is_err_and c.from_residual.result c.from_residual.ensures.1 in
    let held = g.S.Shelf.held c.args.shelf.now in
    let failed = FailedLast g.S.Shelf.fetched g.S.Shelf.faults c.args.shelf.now c.read_both.new.shelf in
    rw (p.1, p.2) (check_stopped held failed g.S.Shelf.fetched (explain_words_of c.args.asked.now).check (refusal_of c.in_err-domain.field-0.0) c.args.shelf.now c.read_both.new.shelf
    c.in_err-domain.ensures.refused c.in_err-domain.ensures.stopped)

pub returns-clause-fetches : goal.returns-clause-fetches
returns-clause-fetches g c =
    let held = g.S.Shelf.held c.args.shelf.now in
    let failed = FailedLast g.S.Shelf.fetched g.S.Shelf.faults c.args.shelf.now c.explain_problem.new.shelf in
    check_fetched held failed g.S.Shelf.fetched (explain_words_of c.args.asked.now).check _ _ _ c.args.shelf.now c.read_both.new.shelf c.explain_problem.new.shelf
    c.in_ok-domain.ensures.holds c.in_ok-domain.ensures.fetched c.explain_problem.ensures.fetches
