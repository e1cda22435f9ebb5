use Rattle.std.proofs.Common.{sym, ◌∙◌, ap, ◌++◌, map}
use Rattle.std.specs.Option.{unwrap_or}
use Rattle.pddl_ast.specs.Environment.{group_value}
use Rattle.pddl_ast.specs.TypedLists.{objects_of, of_type}
use Rattle.pddl_ast.proofs.Objects.{objects-push}
use Rattle.pddl_ast.proofs.typed_lists.objects_of.Goals as goal

pub loop-group-preserved : goal.loop-group-preserved
loop-group-preserved c =
    let names = c.in-Some.group.names.items in
    c.in_ok-push_objects.ensures
    ∙ (ap (λ xs. xs ++ map (of_type c.unwrap_or-type_id.result) names) c.loop-group.invariant
    ∙ (ap (λ n. objects_of c.args.types.now (map group_value c.loop-group.yielded) ++ map (of_type n) names) (c.unwrap_or-type_id.ensures ∙ ap (λ o. unwrap_or o 0) c.number_of.ensures)
    ∙ sym (objects-push c.args.types.now c.loop-group.yielded c.in-Some.group)))
