use Rattle.plan_command.proofs.FromInitial.{searched_from}
use Rattle.plan_command.proofs.EnoughNodes.{goal_at_try}
use Rattle.plan_command.specs.Enough.{LacksGoalRoom}
use Rattle.plan_command.specs.GoalConditions.{sets_of_goal}
use Rattle.task_sets.proofs.FullTables.{not_begun}
use Rattle.plan_command.proofs.context_search.search_goal.Goals as goal

pub returns-clause-found : goal.returns-clause-found
returns-clause-found c =
    let e = c.search_in_tries.ensures in
    searched_from c.args.task.now (sets_of_goal c.args.goal.now) c.search_in_tries.result e.found e.some e.none

pub returns-clause-full : goal.returns-clause-full
returns-clause-full c is =
    goal_at_try c.tight_is_monotone.ensures c.no_room_is_tight.ensures c.no_room_is_small.ensures c.kept_sets_bound_nodes.ensures
    c.args.task.now c.args.nodes c.args.goal.now (c.search_in_tries.ensures.full is)

pub returns-clause-not_begun : goal.returns-clause-not_begun
returns-clause-not_begun c is none =
    not_begun c.args.nodes c.args.task.now (LacksGoalRoom c.args.goal.now c.args.task.now) (c.search_in_tries.ensures.full is) none
