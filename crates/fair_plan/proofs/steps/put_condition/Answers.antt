use Rattle.task_core.specs.Conditions.{holds}
use Rattle.fair_plan.proofs.Boards.{condition_fits, puts}
use Rattle.fair_plan.proofs.steps.put_condition.Goals as goal

pub condition-requires-clause-working : goal.condition-requires-clause-working
condition-requires-clause-working c = let r = c.requires.ready in (r.0.start, r.1.at)

pub returns : goal.returns
returns c origin there =
    puts origin (c.args.enc.now, c.args.board.now.slots.items) (c.condition.new.enc, c.condition.new.self.slots.items) c.args.place (holds c.args.cond.now) c.condition.result
    (c.condition.ensures origin.start there.at origin.spare (condition_fits origin c.args.cond.now))
