use Rattle.std.proofs.Common.{◌≡◌, drop, map}
use Rattle.task_core.specs.States.{vector}
use Rattle.task_core.specs.Tasks.{fluent_count}
use Rattle.plan_certs.specs.Certificates.{holds_state}
use Rattle.plan_certs.specs.Named.{cube_of, set_of}
use Rattle.plan_certs.proofs.judging.set_holds.Given as goal

-- no cube so far matches
abbrev pub invariant-loop-cube : goal.invariant-loop-cube
invariant-loop-cube l =
    let v = vector (fluent_count l.task) l.state in
    holds_state (map cube_of (drop l.cube-index l.set.cubes.items)) v ≡ holds_state (set_of l.set) v
