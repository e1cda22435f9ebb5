use Rattle.std.proofs.lemmas.Result.{err_from_is_err_and}
use Rattle.plan_io.specs.Fetches.{FailedLast}
use Rattle.command_base.specs.Answers.{refused}
use Rattle.command_base.specs.Values.{refusal_of}
use Rattle.command_base.proofs.PddlDecides.{refused_both}
use Rattle.control_command.specs.Controllers.{IsControlled}
use Rattle.control_command.specs.Values.{control_words_of}
use Rattle.control_command.proofs.Answers.{after_control, before_control}
use Rattle.control_command.proofs.commands.control_files.Goals as goal

pub returns-in_err-domain-clause-answer : goal.returns-in_err-domain-clause-answer
returns-in_err-domain-clause-answer g c =
    let p = err_from_is_err_and c.from_residual.result c.from_residual.ensures.1 in
    let held = g.S.Shelf.held c.args.shelf.now in
    let failed = FailedLast g.S.Shelf.fetched g.S.Shelf.faults c.args.shelf.now c.read_both.new.shelf in
    let asked = control_words_of c.args.asked.now in
    rw (p.1, p.2) (before_control held failed asked (refused (refusal_of c.in_err-domain.field-0.0))
    (refused_both held failed asked.plan.domain asked.plan.problem (IsControlled asked) (refusal_of c.in_err-domain.field-0.0) c.in_err-domain.ensures.refused))

pub returns-clause-answer : goal.returns-clause-answer
returns-clause-answer g c =
    let held = g.S.Shelf.held c.args.shelf.now in
    let failed = FailedLast g.S.Shelf.fetched g.S.Shelf.faults c.args.shelf.now c.read_both.new.shelf in
    let asked = control_words_of c.args.asked.now in
    after_control held failed asked _ _ _ c.in_ok-domain.ensures.holds c.control_problem.ensures
