use Rattle.std.proofs.Common.{map, subst, sym}
use Rattle.std.specs.List.{All}
use Rattle.task_core.specs.Cubes.{Cube}
use Rattle.task_core.specs.Tasks.{fluent_count}
use Rattle.plan_rules.specs.Plans.{IsCubeOf}
use Rattle.plan_rules.proofs.MappedItems.{mapped_item}
use Rattle.plan_certs.specs.Named.{cube_of}
use Rattle.plan_certs.proofs.judging.set_holds.Goals as goal

pub has_all-requires : goal.has_all-requires
has_all-requires c =
    let n = fluent_count c.args.task.now in
    let all : All (IsCubeOf n) (map cube_of c.deref-cube-items.result.now) = rw c.deref-cube-items.ensures.value c.requires in
    subst (λ (cube : Cube). IsCubeOf n cube) (sym c.deref.ensures.value)
    (mapped_item (IsCubeOf n) cube_of c.deref-cube-items.result.now c.loop-cube.cube-index c.cube-item.result all c.loop-cube-test.true c.cube-item.is)
