use Rattle.cyclic_plan.specs.Takers.{start_of}
use Rattle.task_core.specs.declared.classes.Class.TheVariants.{Cyclic}
use Rattle.control_command.proofs.Tables.{rounds_live, width_for}
use Rattle.plan_command.proofs.EnoughNodes.{all_bounds}
use Rattle.control_command.proofs.searches.follow_rounds.Goals as goal

pub follow_table-requires : goal.follow_table-requires
follow_table-requires c =
    let task = c.args.task.now in
    let bounds = all_bounds Cyclic task in
    record {
      live = rounds_live (start_of task c.args.enc.now c.requires.made (width_for task) bounds.wide) c.cyclic_takers.new.enc c.in_ok-board.field-0 c.in-Some.board c.deref.result.now c.in-Some.is
          c.deref.ensures.value (c.in_ok-board.ensures.table c.requires.made (width_for task) bounds);
    }
