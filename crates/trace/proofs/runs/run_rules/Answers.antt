use Rattle.task_core.specs.Tasks.{action_count, fluent_count, system_of}
use Rattle.trace.specs.Indexed.{rules_in}
use Rattle.trace.proofs.Courses.{at_first, halted, step_more}
use Rattle.trace.proofs.runs.run_rules.Goals as goal

pub loop-halt-init : goal.loop-halt-init
loop-halt-init c =
    let task = c.args.task.now in
    rw c.new.ensures.items (at_first (system_of task) (rules_in c.args.rules.now) (fluent_count task) (action_count task) c.args.first.now c.args.words.now c.requires.within)

pub loop-halt-preserved : goal.loop-halt-preserved
loop-halt-preserved c =
    let made = c.in_ok-go_on-in-Makes.ensures in
    rw (made.steps, made.state, made.context) (step_more c.in-Makes.made c.loop-halt.invariant c.in-Makes.ensures.turn c.in-Makes.ensures.in_task c.in-Makes.ensures.ruled)

pub returns-in-Halts : goal.returns-in-Halts
returns-in-Halts c =
    halted c.args.task.now (rules_in c.args.rules.now) c.args.first.now c.args.words.now _ c.loop-halt.invariant c.in-Halts.ensures.turn c.in-Halts.ensures.ruled c.in-Halts.ensures.in_task
