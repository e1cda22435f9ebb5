use Rattle.std.proofs.Common.{length, subst, sym}
use Rattle.task_core.specs.Cubes.{Cube}
use Rattle.plan_rules.specs.Plans.{IsCubeOf}
use Rattle.plan_rules.proofs.MappedItems.{mapped_item}
use Rattle.plan_certs.specs.Named.{cube_of}
use Rattle.plan_certs.proofs.text.push_cubes.Goals as goal

pub push_next_cube-requires : goal.push_next_cube-requires
push_next_cube-requires c =
    subst (λ (cube : Cube). IsCubeOf (length c.args.fluents.now) cube) (sym c.deref.ensures.value)
    (mapped_item (IsCubeOf (length c.args.fluents.now)) cube_of c.args.cubes.now c.loop-cube.cube-index c.cube-item.result c.requires c.loop-cube-test.true c.cube-item.is)
