use Rattle.std.proofs.Common.{map, string_bytes, inr, refl, subst}
use Rattle.plan_io.specs.Fetches.{FailedLast}
use Rattle.mbp_top.specs.Fetching.{FetchesFiles}
use Rattle.command_base.specs.Values.{answer_of, check_words_of, drill_words_of, ground_words_of, plan_words_of, refute_words_of, replay_words_of}
use Rattle.command_base.specs.Words.{Command, plan, ground, check, replay, drill, refute}
use Rattle.command_base.proofs.OneCommand.{one_command}
use Rattle.mbp_top.proofs.commands.answer.Goals as goal

pub returns-in-Plan-clause-cause : goal.returns-in-Plan-clause-cause
returns-in-Plan-clause-cause g c = inr (plan (plan_words_of c.in-Plan.asked), c.in-Plan.ensures, c.plan_files.ensures.answer)

pub returns-in-Plan-clause-fetches : goal.returns-in-Plan-clause-fetches
returns-in-Plan-clause-fetches g c = λ command says.
    subst (λ (said : Command). FetchesFiles (g.S.Shelf.held c.args.shelf.now) (FailedLast g.S.Shelf.fetched g.S.Shelf.faults c.args.shelf.now c.plan_files.new.shelf) g.S.Shelf.fetched said (answer_of c.plan_files.result) c.args.shelf.now c.plan_files.new.shelf)
    (one_command (map string_bytes c.args.words.now) (plan (plan_words_of c.in-Plan.asked)) command c.in-Plan.ensures says)
    c.plan_files.ensures.fetches

pub returns-in-Plan-clause-no_fetch : goal.returns-in-Plan-clause-no_fetch
returns-in-Plan-clause-no_fetch g c = λ nothing. absurd (nothing (plan (plan_words_of c.in-Plan.asked)) c.in-Plan.ensures)

pub returns-in-Ground-clause-cause : goal.returns-in-Ground-clause-cause
returns-in-Ground-clause-cause g c = inr (ground (ground_words_of c.in-Ground.asked), c.in-Ground.ensures, c.ground_files.ensures.answer)

pub returns-in-Ground-clause-fetches : goal.returns-in-Ground-clause-fetches
returns-in-Ground-clause-fetches g c = λ command says.
    subst (λ (said : Command). FetchesFiles (g.S.Shelf.held c.args.shelf.now) (FailedLast g.S.Shelf.fetched g.S.Shelf.faults c.args.shelf.now c.ground_files.new.shelf) g.S.Shelf.fetched said (answer_of c.ground_files.result) c.args.shelf.now c.ground_files.new.shelf)
    (one_command (map string_bytes c.args.words.now) (ground (ground_words_of c.in-Ground.asked)) command c.in-Ground.ensures says)
    c.ground_files.ensures.fetches

pub returns-in-Ground-clause-no_fetch : goal.returns-in-Ground-clause-no_fetch
returns-in-Ground-clause-no_fetch g c = λ nothing. absurd (nothing (ground (ground_words_of c.in-Ground.asked)) c.in-Ground.ensures)

pub returns-in-Check-clause-cause : goal.returns-in-Check-clause-cause
returns-in-Check-clause-cause g c = inr (check (check_words_of c.in-Check.asked), c.in-Check.ensures, c.check_files.ensures.answer)

pub returns-in-Check-clause-fetches : goal.returns-in-Check-clause-fetches
returns-in-Check-clause-fetches g c = λ command says.
    subst (λ (said : Command). FetchesFiles (g.S.Shelf.held c.args.shelf.now) (FailedLast g.S.Shelf.fetched g.S.Shelf.faults c.args.shelf.now c.check_files.new.shelf) g.S.Shelf.fetched said (answer_of c.check_files.result) c.args.shelf.now c.check_files.new.shelf)
    (one_command (map string_bytes c.args.words.now) (check (check_words_of c.in-Check.asked)) command c.in-Check.ensures says)
    c.check_files.ensures.fetches

pub returns-in-Check-clause-no_fetch : goal.returns-in-Check-clause-no_fetch
returns-in-Check-clause-no_fetch g c = λ nothing. absurd (nothing (check (check_words_of c.in-Check.asked)) c.in-Check.ensures)

pub returns-in-Replay-clause-cause : goal.returns-in-Replay-clause-cause
returns-in-Replay-clause-cause g c = inr (replay (replay_words_of c.in-Replay.asked), c.in-Replay.ensures, c.replay_files.ensures.answer)

pub returns-in-Replay-clause-fetches : goal.returns-in-Replay-clause-fetches
returns-in-Replay-clause-fetches g c = λ command says.
    subst (λ (said : Command). FetchesFiles (g.S.Shelf.held c.args.shelf.now) (FailedLast g.S.Shelf.fetched g.S.Shelf.faults c.args.shelf.now c.replay_files.new.shelf) g.S.Shelf.fetched said (answer_of c.replay_files.result) c.args.shelf.now c.replay_files.new.shelf)
    (one_command (map string_bytes c.args.words.now) (replay (replay_words_of c.in-Replay.asked)) command c.in-Replay.ensures says)
    c.replay_files.ensures.fetches

pub returns-in-Replay-clause-no_fetch : goal.returns-in-Replay-clause-no_fetch
returns-in-Replay-clause-no_fetch g c = λ nothing. absurd (nothing (replay (replay_words_of c.in-Replay.asked)) c.in-Replay.ensures)

pub returns-in-Drill-clause-cause : goal.returns-in-Drill-clause-cause
returns-in-Drill-clause-cause g c = inr (drill (drill_words_of c.in-Drill.asked), c.in-Drill.ensures, c.run_drill.ensures)

pub returns-in-Drill-clause-fetches : goal.returns-in-Drill-clause-fetches
returns-in-Drill-clause-fetches g c = λ command says.
    subst (λ (said : Command). FetchesFiles (g.S.Shelf.held c.args.shelf.now) (FailedLast g.S.Shelf.fetched g.S.Shelf.faults c.args.shelf.now c.args.shelf.now) g.S.Shelf.fetched said (answer_of c.run_drill.result) c.args.shelf.now c.args.shelf.now)
    (one_command (map string_bytes c.args.words.now) (drill (drill_words_of c.in-Drill.asked)) command c.in-Drill.ensures says)
    refl

pub returns-in-Drill-clause-no_fetch : goal.returns-in-Drill-clause-no_fetch
returns-in-Drill-clause-no_fetch g c = λ nothing. absurd (nothing (drill (drill_words_of c.in-Drill.asked)) c.in-Drill.ensures)

pub returns-in-Refute-clause-cause : goal.returns-in-Refute-clause-cause
returns-in-Refute-clause-cause g c = inr (refute (refute_words_of c.in-Refute.asked), c.in-Refute.ensures, c.refute_files.ensures.answer)

pub returns-in-Refute-clause-fetches : goal.returns-in-Refute-clause-fetches
returns-in-Refute-clause-fetches g c = λ command says.
    subst (λ (said : Command). FetchesFiles (g.S.Shelf.held c.args.shelf.now) (FailedLast g.S.Shelf.fetched g.S.Shelf.faults c.args.shelf.now c.refute_files.new.shelf) g.S.Shelf.fetched said (answer_of c.refute_files.result) c.args.shelf.now c.refute_files.new.shelf)
    (one_command (map string_bytes c.args.words.now) (refute (refute_words_of c.in-Refute.asked)) command c.in-Refute.ensures says)
    c.refute_files.ensures.fetches

pub returns-in-Refute-clause-no_fetch : goal.returns-in-Refute-clause-no_fetch
returns-in-Refute-clause-no_fetch g c = λ nothing. absurd (nothing (refute (refute_words_of c.in-Refute.asked)) c.in-Refute.ensures)
