use Rattle.std.proofs.Common.{codes}
use Rattle.task_gen.specs.Corridors.{goal_line, start_line, rooms_line}
use Rattle.task_gen.proofs.Spaced.{four_lines}
use Rattle.task_gen.proofs.corridors.problem.Goals as goal

pub returns : goal.returns
returns c =
    four_lines _ _ _ _ _ (codes "(define (problem corridor) (:domain corridor)") (rooms_line c.args.n) (start_line c.args.n) (goal_line c.args.n) c.new-out.ensures.items c.in_ok-push_line.ensures c.in_ok-push_objects.ensures c.in_ok-push_init.ensures c.in_ok-push_goal.ensures
