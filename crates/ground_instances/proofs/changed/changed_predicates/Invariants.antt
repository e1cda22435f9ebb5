use Rattle.std.proofs.Common.{◌≡◌, ℕ, ◌||◌, drop, map}
use Rattle.std.specs.Prelude.{nat_eq}
use Rattle.std.specs.List.{list_any}
use Rattle.pddl_ast.specs.Trees.{SchemaTree}
use Rattle.pddl_ast.specs.Values.{domain_value, literal_value, problem_value, schema_value}
use Rattle.pddl_system.specs.Settings.{changes, entry_names}
use Rattle.ground_instances.proofs.changed.changed_predicates.Given as goal

abbrev pub invariant-loop-schema : goal.invariant-loop-schema
invariant-loop-schema l = (q : ℕ)
    → (list_any (nat_eq q) l.changed.keys || list_any (λ (s : SchemaTree). changes q s.effect) (map schema_value (drop l.schema-index l.schema-items)))
    ≡ list_any (λ (s : SchemaTree). changes q s.effect) (domain_value l.domain).actions

abbrev pub invariant-loop-entry : goal.invariant-loop-entry
invariant-loop-entry l = (q : ℕ)
    → (list_any (nat_eq q) l.changed.keys
    || list_any (entry_names q) (map (λ entry. map (λ alternative. map literal_value alternative.items) entry.items) (drop l.entry-index l.entry-items)))
    ≡ (list_any (λ (s : SchemaTree). changes q s.effect) (domain_value l.domain).actions || list_any (entry_names q) (problem_value l.problem).entries)
