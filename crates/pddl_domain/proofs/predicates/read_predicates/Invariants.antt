use Rattle.std.proofs.Common.{◌≡◌, ◌++◌, [], map, drop}
use Rattle.sexpr_text.specs.Forest.{forest_of}
use Rattle.pddl_ast.specs.declared.trees.Predicate.{Predicate}
use Rattle.pddl_domain.specs.Constants as specs
use Rattle.pddl_domain.proofs.predicates.read_predicates.Given as goal

abbrev pub invariant-loop-form : goal.invariant-loop-form
invariant-loop-form l = record {
  flaws : specs.predicates_flaws l.types [] (forest_of l.list) ≡ specs.predicates_flaws l.types l.names (forest_of (drop l.form-index l.list));
  read : specs.predicates_of (forest_of l.list) ≡ l.predicates.items ++ specs.predicates_of (forest_of (drop l.form-index l.list));
  names : l.names ≡ map (λ (q : Predicate). q.name) l.predicates.items;
}
