use Rattle.std.proofs.Common.{subst}
use Rattle.plan_certs.specs.Named.{cube_of}
use Rattle.plan_rules.specs.Plans.{IsCubeOf}
use Rattle.plan_document.proofs.Mapped.{all_taken, one_more}
use Rattle.control_command.proofs.refuted.are_cubes_of.Goals as goal

pub loop-cube-preserved : goal.loop-cube-preserved
loop-cube-preserved c =
    one_more (IsCubeOf c.args.fluents) cube_of c.args.cubes.now c.loop-cube.cube-index c.cube-item.result c.loop-cube-test.true c.cube-item.is c.loop-cube.invariant
    (subst (IsCubeOf c.args.fluents) c.deref.ensures.value (c.is_cube_of.ensures c.if-not-is_cube_of.false))

pub returns : goal.returns
returns c = λ _. all_taken (IsCubeOf c.args.fluents) cube_of c.args.cubes.now c.loop-cube.cube-index c.loop-cube-test.false c.loop-cube.invariant
