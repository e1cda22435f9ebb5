use Rattle.std.proofs.lemmas.Result.{err_from_is_err_and}
use Rattle.plan_io.specs.Fetches.{FailedLast}
use Rattle.command_base.specs.Values.{refusal_of}
use Rattle.command_base.proofs.PddlDecides.{refused_both}
use Rattle.control_command.specs.FairControllers.{IsTried}
use Rattle.control_command.specs.Values.{fair_words_of}
use Rattle.control_command.proofs.FairAnswers.{after_tried}
use Rattle.control_command.proofs.fair.fair_files.Goals as goal

pub returns-in_err-domain-clause-answer : goal.returns-in_err-domain-clause-answer
returns-in_err-domain-clause-answer g c =
    let p = err_from_is_err_and c.from_residual.result c.from_residual.ensures.1 in
    let held = g.S.Shelf.held c.args.shelf.now in
    let failed = FailedLast g.S.Shelf.fetched g.S.Shelf.faults c.args.shelf.now c.read_both.new.shelf in
    let asked = fair_words_of c.args.asked.now in
    rw (p.1, p.2) (refused_both held failed asked.domain asked.problem (IsTried asked) (refusal_of c.in_err-domain.field-0.0) c.in_err-domain.ensures.refused)

pub returns-clause-answer : goal.returns-clause-answer
returns-clause-answer g c =
    let held = g.S.Shelf.held c.args.shelf.now in
    let failed = FailedLast g.S.Shelf.fetched g.S.Shelf.faults c.args.shelf.now c.read_both.new.shelf in
    let asked = fair_words_of c.args.asked.now in
    after_tried held failed asked _ _ _ c.in_ok-domain.ensures.holds c.fair_problem.ensures
