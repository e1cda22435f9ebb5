use Rattle.std.proofs.Common.{◌≡◌, ◌+◌, arith, length, ◌∙◌}
use Rattle.task_core.specs.Tasks.{action_count}
use Rattle.cyclic_plan.proofs.CertSteps.{set_added}
use Rattle.cyclic_plan.proofs.certs.add_set.Goals as goal

pub only_cubes-requires-clause-working : goal.only_cubes-requires-clause-working
only_cubes-requires-clause-working c = let r = c.requires.ready in (r.0, r.2.rounds.round.at)

pub only_cubes-requires-clause-place : goal.only_cubes-requires-clause-place
only_cubes-requires-clause-place c =
    let r = c.requires.ready in
    let h = r.2.rounds.round in
    let e : length c.args.board.now.slots.items ≡ 7 + action_count r.0.task + action_count r.0.task = h.at.long ∙ h.places in
    omega arith

pub returns-clause-added : goal.returns-clause-added
returns-clause-added c start r ready =
    set_added start c.args.enc.now c.args.board.now.slots.items r c.args.sets.now.items c.push_set.new.sets.items (record { cubes = c.in_ok-cubes.cubes }) ready c.in_ok-cubes.ensures.cubes c.in_ok-push_set.ensures.pushed
