use Rattle.std.proofs.Common.{◌+◌, ◌++◌, drop, map, ap, ◌∙◌, arith, ◌<◌, length}
use Rattle.ground_instances.specs.Atoms.{atom_tree}
use Rattle.pddl_ast.specs.Values.{domain_value, problem_value}
use Rattle.pddl_system.specs.Systems.{atom_name}
use Rattle.task_core.specs.Names.{name_bytes}
use Rattle.ground_task.proofs.ListSteps.{map_push_step}
use Rattle.ground_task.proofs.names.fluent_names.Goals as goal

pub loop-place-preserved : goal.loop-place-preserved
loop-place-preserved c =
    let name = atom_name (domain_value c.args.naming.now.domain.now) (problem_value c.args.naming.now.problem.now) in
    let a = atom_tree c.atom.result.now in
    let there : c.loop-place.place < length c.args.fluents.now = omega (arith, c.len-place-end.ensures.count, c.loop-place-test.true) in
    ap (λ l. map name_bytes l ++ map name (drop (c.loop-place.place + 1) c.args.fluents.now)) c.in_ok-push.ensures.items
    ∙ map_push_step name_bytes name c.args.fluents.now c.loop-place.place a c.loop-place.names.items c.in_ok-fluent_name.field-0 _ there (c.in_ok-fluent_name.ensures ∙ ap name (c.atom.ensures a)) c.loop-place.invariant
