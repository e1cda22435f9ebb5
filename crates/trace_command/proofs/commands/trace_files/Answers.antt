use Rattle.std.proofs.lemmas.Result.{err_from_is_err_and}
use Rattle.plan_io.specs.Fetches.{FailedLast}
use Rattle.command_base.specs.Values.{replay_words_of, refusal_of}
use Rattle.command_base.proofs.Later.{failed_after_two}
use Rattle.command_base.proofs.PddlDecides.{after_both, refused_both}
use Rattle.replay_command.proofs.RunFetched.{replay_fetched, replay_stopped}
use Rattle.trace_command.specs.Told.{IsTold}
use Rattle.trace_command.proofs.AfterFiles.{told_later}
use Rattle.trace_command.proofs.commands.trace_files.Goals as goal

pub returns-in_err-domain-clause-answer : goal.returns-in_err-domain-clause-answer
returns-in_err-domain-clause-answer g c =
    let p = err_from_is_err_and c.from_residual.result c.from_residual.ensures.1 in
    let held = g.S.Shelf.held c.args.shelf.now in
    let failed = FailedLast g.S.Shelf.fetched g.S.Shelf.faults c.args.shelf.now c.read_both.new.shelf in
    let asked = replay_words_of c.args.asked.now in
    rw (p.1, p.2) (refused_both held failed asked.domain asked.problem (IsTold held failed asked) (refusal_of c.in_err-domain.field-0.0) c.in_err-domain.ensures.refused)

pub returns-clause-answer : goal.returns-clause-answer
returns-clause-answer g c =
    let held = g.S.Shelf.held c.args.shelf.now in
    let held' = g.S.Shelf.held c.read_both.new.shelf in
    let failed = FailedLast g.S.Shelf.fetched g.S.Shelf.faults c.args.shelf.now c.trace_problem.new.shelf in
    let failed' = FailedLast g.S.Shelf.fetched g.S.Shelf.faults c.read_both.new.shelf c.trace_problem.new.shelf in
    let asked = replay_words_of c.args.asked.now in
    after_both held failed asked.domain asked.problem (IsTold held failed asked) _ _ _ c.in_ok-domain.ensures.holds
    (told_later held held' failed failed' asked _ _ _ c.in_ok-domain.ensures.shelf.kept
    (λ file. failed_after_two g.S.Shelf.fetched g.S.Shelf.faults asked.domain asked.problem c.args.shelf.now c.read_both.new.shelf c.trace_problem.new.shelf file
    c.in_ok-domain.ensures.fetched c.in_ok-domain.ensures.shelf.quiet)
    c.trace_problem.ensures.answer)

pub returns-in_err-domain-clause-fetches : goal.returns-in_err-domain-clause-fetches
returns-in_err-domain-clause-fetches g c =
    let p = err_from_is_err_and c.from_residual.result c.from_residual.ensures.1 in
    let held = g.S.Shelf.held c.args.shelf.now in
    let failed = FailedLast g.S.Shelf.fetched g.S.Shelf.faults c.args.shelf.now c.read_both.new.shelf in
    rw (p.1, p.2) (replay_stopped held failed g.S.Shelf.fetched (replay_words_of c.args.asked.now) (refusal_of c.in_err-domain.field-0.0) c.args.shelf.now c.read_both.new.shelf
    c.in_err-domain.ensures.refused c.in_err-domain.ensures.stopped)

pub returns-clause-fetches : goal.returns-clause-fetches
returns-clause-fetches g c =
    let held = g.S.Shelf.held c.args.shelf.now in
    let held' = g.S.Shelf.held c.read_both.new.shelf in
    let asked = replay_words_of c.args.asked.now in
    let both = c.in_ok-domain.ensures in
    replay_fetched held held' g.S.Shelf.fetched g.S.Shelf.faults asked _ _ _ c.args.shelf.now c.read_both.new.shelf c.trace_problem.new.shelf
    both.holds both.shelf.kept (λ late. failed_after_two g.S.Shelf.fetched g.S.Shelf.faults asked.domain asked.problem c.args.shelf.now c.read_both.new.shelf c.trace_problem.new.shelf asked.plan
    both.fetched both.shelf.quiet late) both.fetched c.trace_problem.ensures.fetches
