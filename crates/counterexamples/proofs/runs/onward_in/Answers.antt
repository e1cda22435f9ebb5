use Rattle.std.proofs.Common.{List, ℕ}
use Rattle.std.specs.Prelude.{Vec}
use Rattle.std.proofs.lemmas.Result.{IfOk-weaker}
use Rattle.task_core.specs.ContextPlans.{Configuration}
use Rattle.task_core.specs.Tasks.{fluent_count, system_of}
use Rattle.plan_rules.specs.Rules.{plain_of}
use Rattle.plan_witness.specs.Onward.{AreMet, AreOnward, places_in}
use Rattle.plan_witness.specs.Scenes.{place_of}
use Rattle.counterexamples.proofs.runs.onward_in.Goals as goal

pub returns : goal.returns
returns g c =
    let scene = c.args.scene.now in
    let sys = system_of scene.task.now in
    let plan = plain_of scene.plan.now in
    let x = place_of (fluent_count scene.task.now) c.args.spot.now in
    IfOk-weaker c.onward_numbers.result (λ (v : Vec ℕ _). AreOnward sys plan (places_in scene) x v.items)
    (λ (v : Vec ℕ _). (met : List Configuration) × AreMet sys plan met × AreOnward sys plan met x v.items)
    (λ v onward. (places_in scene, c.onward_numbers.ensures.met, onward)) c.onward_numbers.ensures.onward
