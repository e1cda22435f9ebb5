use Rattle.plan_certs.specs.Named.{plain_certificate}
use Rattle.refute_command.specs.RefuteCommand.{LacksJudgingRoom}
use Rattle.refute_command.proofs.FromInitial.{judged_from}
use Rattle.refute_command.proofs.RefuteSizes.{verdict_at_try}
use Rattle.task_sets.proofs.FullTables.{not_begun}
use Rattle.refute_command.proofs.refute_command.judge_task.Goals as goal

pub returns-clause-judged : goal.returns-clause-judged
returns-clause-judged c =
    let e = c.search_in_tries.ensures in
    judged_from c.args.task.now (plain_certificate c.args.wanted.now.certificate.now) c.search_in_tries.result e.found e.some e.none

pub returns-clause-full : goal.returns-clause-full
returns-clause-full c is =
    verdict_at_try c.tight_is_monotone.ensures c.kept_sets_bound_nodes.ensures c.args.task.now (plain_certificate c.args.wanted.now.certificate.now) c.args.wanted.now.nodes
    (c.search_in_tries.ensures.full is)

pub returns-clause-not_begun : goal.returns-clause-not_begun
returns-clause-not_begun c is none =
    not_begun c.args.wanted.now.nodes c.args.task.now (LacksJudgingRoom c.args.task.now (plain_certificate c.args.wanted.now.certificate.now)) (c.search_in_tries.ensures.full is) none
