use Rattle.std.proofs.Common.{◌≡◌, drop, map}
use Rattle.task_core.specs.States.{vector}
use Rattle.task_core.specs.Tasks.{fluent_count}
use Rattle.plan_certs.specs.Certificates.{some_holds}
use Rattle.plan_certs.specs.Named.{set_of}
use Rattle.plan_certs.proofs.judging.some_set_holds.Given as goal

-- no set so far holds the state
abbrev pub invariant-loop-set : goal.invariant-loop-set
invariant-loop-set l =
    let v = vector (fluent_count l.task) l.state in
    some_holds (map set_of (drop l.set-index l.sets)) v ≡ some_holds (map set_of l.sets) v
