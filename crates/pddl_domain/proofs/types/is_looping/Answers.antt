use Rattle.std.proofs.Common.{not, false, ◌&&◌, get_or, length, ◌∙◌, ap, arith}
use Rattle.std.proofs.lemmas.List.FromFn.{length-map-range_with_len}
use Rattle.pddl_ast.specs.TypedLists.{type_number}
use Rattle.pddl_domain.specs.Ancestors.{is_own_ancestor}
use Rattle.pddl_domain.proofs.TypeLemmas.{type_number_below, looping-is}
use Rattle.pddl_domain.proofs.types.is_looping.Goals as goal

pub bounds-on_loops-type_number : goal.bounds-on_loops-type_number
bounds-on_loops-type_number c =
    let low = type_number_below c.args.types.now.names c.args.name.now c.requires.some in
    let e = ap length c.requires.loops ∙ length-map-range_with_len (is_own_ancestor c.args.types.now.parents.items) 0 (length c.args.types.now.parents.items) in
    omega (arith, low, e, c.requires.listed, c.type_number.ensures)

pub returns-then-not-is_object : goal.returns-then-not-is_object
returns-then-not-is_object c =
    let own = is_own_ancestor c.args.types.now.parents.items (type_number c.args.types.now.names c.args.name.now) in
    ap (λ n. get_or c.args.on_loops.now n false) c.type_number.ensures
    ∙ (looping-is c.args.types.now.names c.args.types.now.parents.items c.args.name.now c.args.on_loops.now c.requires.some c.requires.listed c.requires.loops
    ∙ ap (λ b. not b && own) c.if-not-is_object.ensures)
