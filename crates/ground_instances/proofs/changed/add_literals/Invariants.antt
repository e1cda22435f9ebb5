use Rattle.std.proofs.Common.{◌≡◌, ℕ, ◌||◌, drop, map}
use Rattle.std.specs.Prelude.{nat_eq}
use Rattle.std.specs.List.{list_any}
use Rattle.pddl_ast.specs.Values.{literal_value}
use Rattle.ground_instances.specs.Tables.{names_predicate}
use Rattle.ground_instances.proofs.changed.add_literals.Given as goal

abbrev pub invariant-loop-literal : goal.invariant-loop-literal
invariant-loop-literal l = (q : ℕ)
    → (list_any (nat_eq q) l.changed.keys || names_predicate q (map literal_value (drop l.literal-index l.literals)))
    ≡ (list_any (nat_eq q) l.fn.changed.keys || names_predicate q (map literal_value l.literals))
