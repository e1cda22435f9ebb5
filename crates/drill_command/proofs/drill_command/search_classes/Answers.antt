use Rattle.std.proofs.Common.{rules}
use Rattle.task_core.specs.declared.classes.Class.TheVariants.{Weak}
use Rattle.plan_command.proofs.EnoughNodes.{class_at_search, class_at_sets}
use Rattle.command_base.specs.Words.{default_nodes}
use Rattle.drill_command.proofs.drill_command.search_classes.Goals as goal

pub returns-in_err-enc-clause-full : goal.returns-in_err-enc-clause-full
returns-in_err-enc-clause-full c is =
    (Weak, class_at_sets c.tight_is_monotone.ensures c.args.task.now default_nodes (record { by_sizes = search rules; by_sets = search rules }) Weak)

pub returns-clause-full : goal.returns-clause-full
returns-clause-full c is =
    let e = c.in_ok-enc.ensures in
    let lacks = c.find_classes-found.ensures.full is in (
      lacks.0,
      class_at_search c.tight_is_monotone.ensures c.no_room_is_tight.ensures c.no_room_is_small.ensures c.kept_sets_bound_nodes.ensures c.args.task.now default_nodes
          c.in_ok-enc.enc _ (record { made = e.made; limit = e.limit; order = e.order; few = e.few; are_kept = e.are_kept }) (search rules)
          lacks.0 lacks.1,
    )
