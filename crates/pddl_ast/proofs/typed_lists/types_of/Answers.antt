use Rattle.std.proofs.Common.{ap, ◌∙◌, ◌++◌, map}
use Rattle.std.specs.Option.{unwrap_or}
use Rattle.pddl_ast.proofs.Pending.{types_step}
use Rattle.pddl_ast.proofs.typed_lists.types_of.Goals as goal

pub loop-group-preserved : goal.loop-group-preserved
loop-group-preserved c =
    types_step c.args.types.now c.args.groups.now c.loop-group.group-index c.group-item.result c.unwrap_or-number.result c.loop-group.numbers.items c.push_each.new.numbers.items
    c.loop-group-test.true c.group-item.is (c.unwrap_or-number.ensures ∙ ap (λ o. unwrap_or o 0) c.number_of.ensures) c.loop-group.invariant
    (c.in_ok-push_each.ensures ∙ ap (λ l. c.loop-group.numbers.items ++ map (λ name. c.unwrap_or-number.result) l) c.deref.ensures.value)
