use Rattle.std.proofs.Common.{◌≡◌, ◌++◌, drop, map, true}
use Rattle.std.specs.List.{list_all}
use Rattle.ground_instances.specs.Tables.{setting_in}
use Rattle.pddl_system.specs.Tasks.{change_of}
use Rattle.pddl_system.specs.Values.{outcome_has_literals, outcome_value}
use Rattle.ground_task.specs.Drafts.{draft_trees}
use Rattle.ground_task.proofs.changes.drafted_outcomes.Given as goal

abbrev pub invariant-loop-draft : goal.invariant-loop-draft
invariant-loop-draft l =
    (map outcome_value l.outcomes.items ++ map (map (change_of (setting_in l.setting) l.fluents)) (draft_trees (drop l.draft-index l.drafts))
    ≡ map (map (change_of (setting_in l.setting) l.fluents)) (draft_trees l.drafts))
    × (list_all outcome_has_literals l.outcomes.items ≡ true)
