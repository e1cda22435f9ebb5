use Rattle.std.proofs.Common.{List, map, ap}
use Rattle.pddl_ast.specs.declared.trees.Schema.{Schema}
use Rattle.pddl_ast.specs.Values.{formula_value, schema_value}
use Rattle.test_readers.proofs.TownLemmas.{town-made}
use Rattle.test_readers.proofs.problem_tests.town.Goals as goal

pub returns : goal.returns
returns c =
    town-made c.in_ok-name.name c.in_ok-type_names.type_names.items c.in_ok-parents.parents.items c.in_ok-constants.constants.items
    c.in_ok-predicates.predicates.items (map schema_value c.new-2.result.items) (formula_value c.always.result)
    c.in_ok-name.ensures c.in_ok-type_names.ensures c.in_ok-parents.ensures c.in_ok-constants.ensures c.in_ok-predicates.ensures
    (ap (λ (xs : List Schema). map schema_value xs) c.new-2.ensures.items) c.always.ensures
