use Rattle.trace.proofs.Courses.{recorded}
use Rattle.trace.proofs.runs.stopped.Goals as goal

pub returns : goal.returns
returns c = λ plan first words has. recorded c.args.task.now plan first words c.args.halted c.in_ok-stop.stop c.in_ok-stop.ensures has
