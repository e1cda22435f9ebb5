use Rattle.std.proofs.Common.{◌<◌, ◌≡◌, length, arith}
use Rattle.std.proofs.lemmas.List.{length-map}
use Rattle.pddl_ast.specs.Fits.{names_of_objects}
use Rattle.pddl_ast.specs.declared.trees.Named.{Named}
use Rattle.pddl_ast.proofs.Distinct.{table_step, name_at}
use Rattle.pddl_ast.proofs.known.table_of_objects.Goals as goal

pub loop-object-preserved : goal.loop-object-preserved
loop-object-preserved c =
    let inside : c.loop-object.object-index < length c.args.objects.now = c.loop-object-test.true in
    let len : length (names_of_objects c.args.objects.now) ≡ length c.args.objects.now = length-map c.args.objects.now (λ (x : Named). x.name) in
    table_step (names_of_objects c.args.objects.now) c.loop-object.table c.add.new.self c.loop-object.object-index c.object-item.result.name (omega arith) c.requires
    (name_at (λ (x : Named). x.name) c.args.objects.now c.loop-object.object-index c.object-item.result inside c.object-item.is) c.loop-object.invariant c.in_ok-add.ensures.names
