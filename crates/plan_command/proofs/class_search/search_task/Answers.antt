use Rattle.plan_command.proofs.EnoughNodes.{class_at_try}
use Rattle.plan_command.proofs.FromInitial.{sought_from}
use Rattle.task_sets.proofs.FullTables.{not_begun}
use Rattle.plan_command.specs.Enough.{LacksClassRoom}
use Rattle.plan_command.proofs.class_search.search_task.Goals as goal

pub returns-clause-found : goal.returns-clause-found
returns-clause-found c =
    let e = c.search_in_tries.ensures in
    sought_from c.args.wanted.now.certified c.args.wanted.now.class c.args.task.now c.search_in_tries.result e.found e.some e.none

pub returns-clause-full : goal.returns-clause-full
returns-clause-full c is =
    class_at_try c.tight_is_monotone.ensures c.no_room_is_tight.ensures c.no_room_is_small.ensures c.kept_sets_bound_nodes.ensures
    c.args.task.now c.args.wanted.now.nodes c.args.wanted.now.class (c.search_in_tries.ensures.full is)

pub returns-clause-not_begun : goal.returns-clause-not_begun
returns-clause-not_begun c is none =
    not_begun c.args.wanted.now.nodes c.args.task.now (LacksClassRoom c.args.wanted.now.class c.args.task.now) (c.search_in_tries.ensures.full is) none
