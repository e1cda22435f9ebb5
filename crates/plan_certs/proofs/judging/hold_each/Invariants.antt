use Rattle.std.proofs.Common.{◌≡◌, drop, map}
use Rattle.std.specs.List.{list_all}
use Rattle.task_core.specs.States.{vector}
use Rattle.task_core.specs.Tasks.{fluent_count}
use Rattle.plan_certs.specs.Certificates.{some_holds}
use Rattle.plan_certs.specs.Named.{set_of}
use Rattle.plan_certs.proofs.judging.hold_each.Given as goal

-- each of the states so far is held
abbrev pub invariant-loop-state : goal.invariant-loop-state
invariant-loop-state l =
    let held = some_holds (map set_of l.sets) in
    let n = fluent_count l.task in
    list_all held (map (vector n) (drop l.state-index l.states)) ≡ list_all held (map (vector n) l.states)
