use Rattle.std.proofs.Common.{◌∙◌, sym}
use Rattle.command_base.specs.Values.{kind_of}
use Rattle.plan_rules.specs.Rules.{plain_of}
use Rattle.explain_command.proofs.Finding.{by_miss_ok, by_told_ok, has_goal}
use Rattle.explain_command.proofs.findings.finding_for.Goals as goal

pub missed-requires-clause-goal : goal.missed-requires-clause-goal
missed-requires-clause-goal c =
    let grounded = c.args.followed.now.grounded.now in
    has_goal (kind_of c.args.judge.kind) c.args.verdict.now grounded.task grounded.ctl (sym c.misses_goal.ensures ∙ c.if-misses_goal.true) c.requires.goal

pub returns-then-misses_goal : goal.returns-then-misses_goal
returns-then-misses_goal c =
    let followed = c.args.followed.now in
    by_miss_ok c.missed.result followed.grounded.now.task (plain_of followed.plan.now) c.args.judge.fair (kind_of c.args.judge.kind) followed.grounded.now.ctl c.args.verdict.now
    (sym c.misses_goal.ensures ∙ c.if-misses_goal.true) c.missed.ensures

pub returns : goal.returns
returns c =
    let followed = c.args.followed.now in
    by_told_ok c.told.result followed.grounded.now.task (plain_of followed.plan.now) c.args.judge.fair (kind_of c.args.judge.kind) followed.grounded.now.ctl c.args.verdict.now
    (sym c.misses_goal.ensures ∙ c.if-misses_goal.false) c.told.ensures
