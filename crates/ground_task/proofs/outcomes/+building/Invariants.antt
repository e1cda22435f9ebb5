use Rattle.std.proofs.Common.{◌≡◌, ◌++◌, drop}
use Rattle.ground_instances.specs.Tables.{setting_in}
use Rattle.pddl_ast.specs.Values.{effect_value}
use Rattle.pddl_system.specs.Objects.{bindings}
use Rattle.pddl_system.specs.Outcomes as plain
use Rattle.ground_task.specs.Drafts.{draft_trees}
use Rattle.ground_task.proofs.DraftLemmas.{either, together}
use Rattle.ground_task.proofs.outcomes.+building.Given as goal

abbrev pub invariant-outcomes_of_both-loop-effect : goal.invariant-outcomes_of_both-loop-effect
invariant-outcomes_of_both-loop-effect l =
    (l.scope.items ≡ l.fn.scope.items)
    × (plain.products (draft_trees l.made.items) (together (setting_in l.setting) l.possible (λ e. plain.outcomes (setting_in l.setting).objects (effect_value e) l.fn.scope.items) (drop l.effect-index l.effects))
    ≡ together (setting_in l.setting) l.possible (λ e. plain.outcomes (setting_in l.setting).objects (effect_value e) l.fn.scope.items) l.effects)

abbrev pub invariant-outcomes_of_either-loop-effect : goal.invariant-outcomes_of_either-loop-effect
invariant-outcomes_of_either-loop-effect l =
    (l.scope.items ≡ l.fn.scope.items)
    × (draft_trees l.made.items ++ either (setting_in l.setting) l.possible (λ e. plain.outcomes (setting_in l.setting).objects (effect_value e) l.fn.scope.items) (drop l.effect-index l.effects)
    ≡ either (setting_in l.setting) l.possible (λ e. plain.outcomes (setting_in l.setting).objects (effect_value e) l.fn.scope.items) l.effects)

abbrev pub invariant-outcomes_of_each-loop-number : goal.invariant-outcomes_of_each-loop-number
invariant-outcomes_of_each-loop-number l =
    (l.scope.items ≡ l.fn.scope.items)
    × (plain.products (draft_trees l.made.items) (together (setting_in l.setting) l.possible (λ chosen. plain.outcomes (setting_in l.setting).objects (effect_value l.effect) (l.fn.scope.items ++ chosen)) (drop l.number (bindings (setting_in l.setting).objects l.types)))
    ≡ together (setting_in l.setting) l.possible (λ chosen. plain.outcomes (setting_in l.setting).objects (effect_value l.effect) (l.fn.scope.items ++ chosen)) (bindings (setting_in l.setting).objects l.types))
