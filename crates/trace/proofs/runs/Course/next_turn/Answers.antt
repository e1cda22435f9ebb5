use Rattle.std.proofs.Common.{◌≡◌, arith, length}
use Rattle.task_core.specs.Tasks.{fluent_count, system_of}
use Rattle.trace.specs.Indexed.{rules_in}
use Rattle.trace.proofs.Turned.{next_turn_is}
use Rattle.trace.proofs.runs.Course.next_turn.Goals as goal

pub returns-clause-turn : goal.returns-clause-turn
returns-clause-turn c =
    let course = c.args.self.now in
    let many : c.len-made.result ≡ length course.steps.items = omega (arith, c.len-made.ensures) in
    next_turn_is (fluent_count c.args.task.now) (system_of c.args.task.now) (rules_in c.args.rules.now) course.steps.items course.state course.context c.args.words.now c.len-made.result c.next_word.result c.take_turn.result
    many c.next_word.ensures c.take_turn.ensures.turn
