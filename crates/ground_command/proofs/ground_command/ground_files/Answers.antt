use Rattle.std.proofs.lemmas.Result.{err_from_is_err_and}
use Rattle.plan_io.specs.Fetches.{FailedLast}
use Rattle.ground_command.specs.GroundCommand.{IsListed}
use Rattle.command_base.specs.Values.{ground_words_of, refusal_of}
use Rattle.command_base.proofs.PddlDecides.{after_both, refused_both}
use Rattle.ground_command.proofs.ground_command.ground_files.Goals as goal

pub returns-in_err-domain-clause-answer : goal.returns-in_err-domain-clause-answer
returns-in_err-domain-clause-answer g c =
    let p = err_from_is_err_and c.from_residual.result c.from_residual.ensures.1 in
    let held = g.S.Shelf.held c.args.shelf.now in
    let failed = FailedLast g.S.Shelf.fetched g.S.Shelf.faults c.args.shelf.now c.read_both.new.shelf in
    let asked = ground_words_of c.args.asked.now in
    rw (p.1, p.2) (refused_both held failed asked.domain asked.problem IsListed (refusal_of c.in_err-domain.field-0.0) c.in_err-domain.ensures.refused)

pub returns-clause-answer : goal.returns-clause-answer
returns-clause-answer g c =
    let held = g.S.Shelf.held c.args.shelf.now in
    let failed = FailedLast g.S.Shelf.fetched g.S.Shelf.faults c.args.shelf.now c.read_both.new.shelf in
    let asked = ground_words_of c.args.asked.now in
    after_both held failed asked.domain asked.problem IsListed _ _ _ c.in_ok-domain.ensures.holds c.list_grounded.ensures

pub returns-in_err-domain-clause-fetches : goal.returns-in_err-domain-clause-fetches
returns-in_err-domain-clause-fetches g c =
    let p = err_from_is_err_and c.from_residual.result c.from_residual.ensures.1 in
    rw (p.1, p.2) c.in_err-domain.ensures.stopped
