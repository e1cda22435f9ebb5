use Rattle.std.proofs.Common.{◌<◌, ◌≡◌, length, arith}
use Rattle.std.proofs.lemmas.List.{length-map}
use Rattle.pddl_ast.specs.Fits.{names_of_predicates}
use Rattle.pddl_ast.specs.declared.trees.Predicate.{Predicate}
use Rattle.pddl_ast.proofs.Distinct.{table_step, name_at}
use Rattle.pddl_ast.proofs.known.table_of_predicates.Goals as goal

pub loop-predicate-preserved : goal.loop-predicate-preserved
loop-predicate-preserved c =
    let inside : c.loop-predicate.predicate-index < length c.args.predicates.now = c.loop-predicate-test.true in
    let len : length (names_of_predicates c.args.predicates.now) ≡ length c.args.predicates.now = length-map c.args.predicates.now (λ (x : Predicate). x.name) in
    table_step (names_of_predicates c.args.predicates.now) c.loop-predicate.table c.add.new.self c.loop-predicate.predicate-index c.predicate-item.result.name (omega arith) c.requires
    (name_at (λ (x : Predicate). x.name) c.args.predicates.now c.loop-predicate.predicate-index c.predicate-item.result inside c.predicate-item.is) c.loop-predicate.invariant c.in_ok-add.ensures.names
