-- What is left makes the certificate, and a last layer means a solution.
use Rattle.std.proofs.Common.{◌≡◌, ◌+◌, ◌∙◌, Err, ap, arith, length, subst, sym}
use Rattle.std.proofs.lemmas.Result.{err_from_is_err_and}
use Rattle.dd_sets.specs.Rooms.{NoRoom}
use Rattle.dd_sets.specs.declared.errors.SetErr.TheVariants.{Full}
use Rattle.encode_task.proofs.MadeLemmas.{goal_there}
use Rattle.preimage.proofs.FrameSteps.{made_now}
use Rattle.task_core.specs.Tasks.{action_count}
use Rattle.reach_plan.specs.Certs.{IsLeft}
use Rattle.reach_plan.proofs.CertSteps.{in_task, printed, solution}
use Rattle.reach_plan.proofs.certs.certify.Goals as goal

pub states_left-requires-clause-goal : goal.states_left-requires-clause-goal
states_left-requires-clause-goal c = goal_there c.args.task.now c.args.enc.now c.requires.made c.requires.goal

pub returns-in_err-cubes-clause-full : goal.returns-in_err-cubes-clause-full
returns-in_err-cubes-clause-full c full width wide =
    let count : length c.args.enc.now.actions ≡ action_count c.args.task.now = c.requires.made.actions in
    let p = err_from_is_err_and c.from_residual.result c.from_residual.ensures.1 in
    let same : p.0 ≡ Full = cc in
    subst (λ n. NoRoom width (n + 24) 16 c.args.enc.now.sets c.states_left.new.enc.sets) (omega arith) (c.in_err-cubes.ensures.full (ap Err (sym p.2 ∙ same)) c.args.task.now c.requires.made width wide)

pub returns-in_err-cubes-clause-made : goal.returns-in_err-cubes-clause-made
returns-in_err-cubes-clause-made c task made = made_now task c.args.enc.now c.states_left.new.enc c.states_left.ensures.same_slots c.states_left.ensures.slots.kept made

pub returns-in_err-certificate-in-Some-clause-made : goal.returns-in_err-certificate-in-Some-clause-made
returns-in_err-certificate-in-Some-clause-made c task made = made_now task c.args.enc.now c.states_left.new.enc c.states_left.ensures.same_slots c.states_left.ensures.slots.kept made

pub returns-in_ok-certificate-in-Some-clause-printed : goal.returns-in_ok-certificate-in-Some-clause-printed
returns-in_ok-certificate-in-Some-clause-printed c =
    let left = subst (IsLeft c.args.class c.args.task.now) c.in-Some.is (c.in_ok-cubes.ensures.answer c.args.task.now c.requires.made) in
    printed c.args.class c.requires.class c.args.task.now c.in-Some.cubes c.in_ok-certificate-in-Some.certificate left c.in_ok-certificate-in-Some.ensures.made

pub returns-in_ok-certificate-in-Some-clause-in_task : goal.returns-in_ok-certificate-in-Some-clause-in_task
returns-in_ok-certificate-in-Some-clause-in_task c =
    let left = subst (IsLeft c.args.class c.args.task.now) c.in-Some.is (c.in_ok-cubes.ensures.answer c.args.task.now c.requires.made) in
    in_task c.args.class c.requires.class c.args.task.now c.in-Some.cubes c.in_ok-certificate-in-Some.certificate left c.in_ok-certificate-in-Some.ensures.made

pub returns-in_ok-certificate-in-Some-clause-no_plan : goal.returns-in_ok-certificate-in-Some-clause-no_plan
returns-in_ok-certificate-in-Some-clause-no_plan c =
    let left = subst (IsLeft c.args.class c.args.task.now) c.in-Some.is (c.in_ok-cubes.ensures.answer c.args.task.now c.requires.made) in
    left.0

pub returns-in_ok-certificate-in-Some-clause-made : goal.returns-in_ok-certificate-in-Some-clause-made
returns-in_ok-certificate-in-Some-clause-made c task made = made_now task c.args.enc.now c.states_left.new.enc c.states_left.ensures.same_slots c.states_left.ensures.slots.kept made

pub returns-in-None-clause-plan : goal.returns-in-None-clause-plan
returns-in-None-clause-plan c =
    let left = subst (IsLeft c.args.class c.args.task.now) c.in-None.is (c.in_ok-cubes.ensures.answer c.args.task.now c.requires.made) in
    solution c.args.class c.requires.class c.args.task.now left.0 left.1

pub returns-in-None-clause-made : goal.returns-in-None-clause-made
returns-in-None-clause-made c task made = made_now task c.args.enc.now c.states_left.new.enc c.states_left.ensures.same_slots c.states_left.ensures.slots.kept made
