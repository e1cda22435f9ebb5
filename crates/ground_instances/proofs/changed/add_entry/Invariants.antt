use Rattle.std.proofs.Common.{◌≡◌, ℕ, ◌||◌, drop, map}
use Rattle.std.specs.Prelude.{nat_eq}
use Rattle.std.specs.List.{list_any}
use Rattle.pddl_ast.specs.Values.{literal_value}
use Rattle.pddl_system.specs.Settings.{entry_names}
use Rattle.ground_instances.proofs.changed.add_entry.Given as goal

abbrev pub invariant-loop-alternative : goal.invariant-loop-alternative
invariant-loop-alternative l = (q : ℕ)
    → (list_any (nat_eq q) l.changed.keys || entry_names q (map (λ alternative. map literal_value alternative.items) (drop l.alternative-index l.entry)))
    ≡ (list_any (nat_eq q) l.fn.changed.keys || entry_names q (map (λ alternative. map literal_value alternative.items) l.entry))
