use Rattle.std.proofs.Common.{ap}
use Rattle.command_base.specs.Values.{kind_of}
use Rattle.command_base.specs.Words.{of_class, with_contexts}
use Rattle.plan_rules.specs.Rules.{plain_of}
use Rattle.explain_command.proofs.Finding.{class_goal, class_verdict, told_ok}
use Rattle.explain_command.proofs.findings.told.Goals as goal

pub find_for_class-requires-clause-goal : goal.find_for_class-requires-clause-goal
find_for_class-requires-clause-goal c =
    let grounded = c.args.followed.now.grounded.now in
    class_goal (kind_of c.args.kind) c.in-Class.class grounded.task grounded.ctl (ap kind_of c.in-Class.is) c.requires.goal

pub find_for_class-requires-clause-verdict : goal.find_for_class-requires-clause-verdict
find_for_class-requires-clause-verdict c =
    let followed = c.args.followed.now in
    class_verdict (kind_of c.args.kind) c.in-Class.class followed.grounded.now.task followed.grounded.now.ctl (plain_of followed.plan.now) c.args.verdict.now
    (ap kind_of c.in-Class.is) c.requires.verdict

pub returns-in-Class : goal.returns-in-Class
returns-in-Class c =
    let followed = c.args.followed.now in
    told_ok c.find_for_class.result followed.grounded.now.task (plain_of followed.plan.now) (kind_of c.args.kind) (of_class c.in-Class.class) c.args.verdict.now
    (ap kind_of c.in-Class.is) c.find_for_class.ensures

pub returns-in-Contexts : goal.returns-in-Contexts
returns-in-Contexts c =
    let followed = c.args.followed.now in
    told_ok c.find_for_contexts.result followed.grounded.now.task (plain_of followed.plan.now) (kind_of c.args.kind) with_contexts c.args.verdict.now
    (ap kind_of c.in-Contexts.is) c.find_for_contexts.ensures
