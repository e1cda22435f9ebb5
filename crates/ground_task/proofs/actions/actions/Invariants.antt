use Rattle.std.proofs.Common.{◌≡◌, ◌++◌, drop, map, true}
use Rattle.std.specs.List.{list_all}
use Rattle.ground_instances.specs.Kept.{kept_by}
use Rattle.ground_instances.specs.Tables.{setting_in}
use Rattle.pddl_ast.specs.Values.{domain_value, problem_value}
use Rattle.pddl_system.specs.Values.{action_has_literals, action_value}
use Rattle.ground_task.specs.Actions.{action_in}
use Rattle.ground_task.proofs.actions.actions.Given as goal

abbrev pub invariant-loop-draft : goal.invariant-loop-draft
invariant-loop-draft l =
    (map action_value l.actions.items ++ map (action_in (setting_in l.setting) l.fluents (domain_value l.naming.domain.now) (problem_value l.naming.problem.now)) (drop l.draft-index (kept_by (setting_in l.setting) (domain_value l.naming.domain.now)))
    ≡ map (action_in (setting_in l.setting) l.fluents (domain_value l.naming.domain.now) (problem_value l.naming.problem.now)) (kept_by (setting_in l.setting) (domain_value l.naming.domain.now)))
    × (list_all action_has_literals l.actions.items ≡ true)
