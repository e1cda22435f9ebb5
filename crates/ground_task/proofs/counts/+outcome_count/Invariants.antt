use Rattle.std.proofs.Common.{◌≡◌, ◌+◌, ◌*◌, ◌≤◌, drop, map}
use Rattle.ground_instances.specs.Tables.{setting_in}
use Rattle.pddl_ast.specs.Trees.{effect_row}
use Rattle.pddl_ast.specs.Values.{effect_value}
use Rattle.pddl_system.specs.Sizes.{product_of_counts, sum_of_counts}
use Rattle.ground_task.specs.Capped.{capped}
use Rattle.ground_task.proofs.counts.+outcome_count.Given as goal

abbrev pub invariant-loop-part : goal.invariant-loop-part
invariant-loop-part l =
    (l.count ≤ 65)
    × (capped (l.count * product_of_counts (setting_in l.setting).objects (effect_row (map effect_value (drop l.part-index l.part-items))))
    ≡ capped (product_of_counts (setting_in l.setting).objects (effect_row (map effect_value l.part-items))))

abbrev pub invariant-loop-part-2 : goal.invariant-loop-part-2
invariant-loop-part-2 l =
    (l.count ≤ 65)
    × (capped (l.count + sum_of_counts (setting_in l.setting).objects (effect_row (map effect_value (drop l.part-index l.part-items))))
    ≡ capped (sum_of_counts (setting_in l.setting).objects (effect_row (map effect_value l.part-items))))
