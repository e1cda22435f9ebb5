use Rattle.short_conditions.proofs.ReplaceLemmas.{goal_replaces, goal_replaces_none, is_short}
use Rattle.short_conditions.proofs.tasks.short_goal.Goals as goal

pub returns-in-None : goal.returns-in-None
returns-in-None c = goal_replaces_none c.args.goal.now c.in-None.is

pub returns-in_ok-short-in-Some : goal.returns-in_ok-short-in-Some
returns-in_ok-short-in-Some c =
    let e = c.in_ok-short-in-Some.ensures in
    goal_replaces c.args.goal.now c.in-Some.goal c.in_ok-short-in-Some.short c.in-Some.is (is_short c.in-Some.goal c.in_ok-short-in-Some.short e.same e.fluents e.depth)
