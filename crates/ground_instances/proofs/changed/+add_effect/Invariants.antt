use Rattle.std.proofs.Common.{◌≡◌, ℕ, ◌||◌, drop, map}
use Rattle.std.specs.Prelude.{nat_eq}
use Rattle.std.specs.List.{list_any}
use Rattle.pddl_ast.specs.Trees.{effect_row}
use Rattle.pddl_ast.specs.Values.{effect_value}
use Rattle.pddl_system.specs.Settings.{changes, some_changes}
use Rattle.ground_instances.proofs.changed.+add_effect.Given as goal

abbrev pub invariant-loop-part : goal.invariant-loop-part
invariant-loop-part l = (q : ℕ)
    → (list_any (nat_eq q) l.changed.keys || some_changes q (effect_row (map effect_value (drop l.part-index l.part-items))))
    ≡ (list_any (nat_eq q) l.fn.changed.keys || changes q (effect_value l.effect))
