-- The table of first matching rules as sets of lists of truth values, one an action.
use Rattle.std.specs.Prelude.{ℕ, zero, suc, false, not, ◌&&◌, ◌==◌, List, Option, find}
use Rattle.std.specs.List.{list_any}
use Rattle.std.specs.Option.{option_map_or}
use Rattle.dd_nodes.specs.NodeList.{Values}
use Rattle.dd_nodes.specs.Subfunctions.{Function}
use Rattle.dd_ops.specs.Operations.{and_of, minus_of}
use Rattle.dd_sets.specs.LiveSets.{everything}
use Rattle.encode_task.specs.TaskSets.{cube_set, exec_set, goal_states_set}
use Rattle.task_core.specs.declared.tasks.Task.{Task}
use Rattle.plan_rules.specs.Rules.{PlanRule}

-- the rule that counts: the first that matches
abbrev pub rule_at : List PlanRule → Values → Option PlanRule
rule_at rules values = find (λ (rule : PlanRule). cube_set rule.cube values) rules

-- where some rule matches
abbrev pub matched_set : List PlanRule → Function
matched_set rules values = list_any (λ (rule : PlanRule). cube_set rule.cube values) rules

-- where the rule that counts has the action
abbrev pub taken_set : List PlanRule → ℕ → Function
taken_set rules a values =
    option_map_or (λ (rule : PlanRule). rule.action == a) (rule_at rules values) false

-- where some rule matches that has another action than the one that counts
abbrev pub differ_set : List PlanRule → Function
differ_set rules values =
    option_map_or (λ (first : PlanRule). list_any (λ (rule : PlanRule).
    cube_set rule.cube values && not (first.action == rule.action)) rules) (rule_at rules values)
    false

-- where the goal holds and no rule matches: there the rules are at their end
abbrev pub end_set : Task → List PlanRule → Function
end_set task rules = minus_of (goal_states_set task) (matched_set rules)

-- where the rule that counts has the action and can be followed
abbrev pub step_set : Task → List PlanRule → ℕ → Function
step_set task rules a = and_of (taken_set rules a) (exec_set task a)

-- where no rule counts that has one of the first n actions and can't be followed
abbrev pub followed_by : Task → List PlanRule → ℕ → Function
followed_by task rules zero = everything
followed_by task rules (suc n) =
    minus_of (followed_by task rules n) (minus_of (taken_set rules n) (exec_set task n))
