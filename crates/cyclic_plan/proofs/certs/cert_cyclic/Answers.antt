use Rattle.std.proofs.Common.{◌+◌, ◌^◌, arith}
use Rattle.task_core.specs.Tasks.{action_count, fluent_count}
use Rattle.cyclic_plan.specs.Stages.{rough_places}
use Rattle.cyclic_plan.specs.Takers.{start_of}
use Rattle.cyclic_plan.proofs.Answered.{any_start, first_places, room_of}
use Rattle.cyclic_plan.proofs.CertSteps.{cert_at, says_full, says_none, says_plan, says_printed}
use Rattle.cyclic_plan.proofs.Fitting.{all_wide}
use Rattle.preimage.proofs.FrameSteps.{made_now, same_chain}
use Rattle.cyclic_plan.proofs.certs.cert_cyclic.Goals as goal

pub find_sets-answer-requires-clause-ready : goal.find_sets-answer-requires-clause-ready
find_sets-answer-requires-clause-ready c = (any_start c.args.task.now c.args.enc.now c.requires.made, first_places c.args.task.now c.args.enc.now c.new.new.enc c.requires.made (2 ^ fluent_count c.args.task.now + 1) (all_wide c.args.task.now) c.places.result _ (omega (arith, c.places.ensures)) (c.in_ok-board.ensures.opened c.args.task.now c.requires.made (action_count c.args.task.now + 17) (2 ^ fluent_count c.args.task.now + 1) (all_wide c.args.task.now).wide rough_places))

pub close-requires : goal.close-requires
close-requires c =
    let start = any_start c.args.task.now c.args.enc.now c.requires.made in
    let ends = c.find_sets-answer.ensures start (first_places c.args.task.now c.args.enc.now c.new.new.enc c.requires.made (2 ^ fluent_count c.args.task.now + 1) (all_wide c.args.task.now) c.places.result _ (omega (arith, c.places.ensures)) (c.in_ok-board.ensures.opened c.args.task.now c.requires.made (action_count c.args.task.now + 17) (2 ^ fluent_count c.args.task.now + 1) (all_wide c.args.task.now).wide rough_places)) in
    (c.args.enc.now.sets, (cert_at start c.find_sets-answer.new.enc c.find_sets-answer.new.board.slots.items c.find_sets-answer.result ends).working)

pub returns-clause-printed : goal.returns-clause-printed
returns-clause-printed c =
    let start = any_start c.args.task.now c.args.enc.now c.requires.made in
    let ends = c.find_sets-answer.ensures start (first_places c.args.task.now c.args.enc.now c.new.new.enc c.requires.made (2 ^ fluent_count c.args.task.now + 1) (all_wide c.args.task.now) c.places.result _ (omega (arith, c.places.ensures)) (c.in_ok-board.ensures.opened c.args.task.now c.requires.made (action_count c.args.task.now + 17) (2 ^ fluent_count c.args.task.now + 1) (all_wide c.args.task.now).wide rough_places)) in
    says_printed start c.find_sets-answer.new.enc c.find_sets-answer.new.board.slots.items c.with_sets.result (c.with_sets.ensures start c.find_sets-answer.new.enc c.find_sets-answer.new.board.slots.items ends)

pub returns-clause-no_plan : goal.returns-clause-no_plan
returns-clause-no_plan c =
    let start = any_start c.args.task.now c.args.enc.now c.requires.made in
    let ends = c.find_sets-answer.ensures start (first_places c.args.task.now c.args.enc.now c.new.new.enc c.requires.made (2 ^ fluent_count c.args.task.now + 1) (all_wide c.args.task.now) c.places.result _ (omega (arith, c.places.ensures)) (c.in_ok-board.ensures.opened c.args.task.now c.requires.made (action_count c.args.task.now + 17) (2 ^ fluent_count c.args.task.now + 1) (all_wide c.args.task.now).wide rough_places)) in
    says_none start c.find_sets-answer.new.enc c.find_sets-answer.new.board.slots.items c.with_sets.result (c.with_sets.ensures start c.find_sets-answer.new.enc c.find_sets-answer.new.board.slots.items ends)

pub returns-clause-plan : goal.returns-clause-plan
returns-clause-plan c =
    let start = any_start c.args.task.now c.args.enc.now c.requires.made in
    let ends = c.find_sets-answer.ensures start (first_places c.args.task.now c.args.enc.now c.new.new.enc c.requires.made (2 ^ fluent_count c.args.task.now + 1) (all_wide c.args.task.now) c.places.result _ (omega (arith, c.places.ensures)) (c.in_ok-board.ensures.opened c.args.task.now c.requires.made (action_count c.args.task.now + 17) (2 ^ fluent_count c.args.task.now + 1) (all_wide c.args.task.now).wide rough_places)) in
    says_plan start c.find_sets-answer.new.enc c.find_sets-answer.new.board.slots.items c.with_sets.result (c.with_sets.ensures start c.find_sets-answer.new.enc c.find_sets-answer.new.board.slots.items ends)

pub returns-clause-full : goal.returns-clause-full
returns-clause-full c full width wide =
    let start = start_of c.args.task.now c.args.enc.now c.requires.made width wide.wide in
    let ends = c.find_sets-answer.ensures start (first_places c.args.task.now c.args.enc.now c.new.new.enc c.requires.made width wide c.places.result _ (omega (arith, c.places.ensures)) (c.in_ok-board.ensures.opened c.args.task.now c.requires.made (action_count c.args.task.now + 17) width wide.wide rough_places)) in
    room_of c.args.task.now c.args.enc.now c.close.new.enc.sets width
    (c.close.ensures.room c.args.enc.now.sets width _ _ (says_full start c.find_sets-answer.new.enc c.find_sets-answer.new.board.slots.items c.with_sets.result (c.with_sets.ensures start c.find_sets-answer.new.enc c.find_sets-answer.new.board.slots.items ends) full))

pub returns-clause-slots : goal.returns-clause-slots
returns-clause-slots c =
    let start = any_start c.args.task.now c.args.enc.now c.requires.made in
    let ends = c.find_sets-answer.ensures start (first_places c.args.task.now c.args.enc.now c.new.new.enc c.requires.made (2 ^ fluent_count c.args.task.now + 1) (all_wide c.args.task.now) c.places.result _ (omega (arith, c.places.ensures)) (c.in_ok-board.ensures.opened c.args.task.now c.requires.made (action_count c.args.task.now + 17) (2 ^ fluent_count c.args.task.now + 1) (all_wide c.args.task.now).wide rough_places)) in
    c.close.ensures.frame c.args.enc.now.sets (cert_at start c.find_sets-answer.new.enc c.find_sets-answer.new.board.slots.items c.find_sets-answer.result ends).working

pub returns-clause-same_slots : goal.returns-clause-same_slots
returns-clause-same_slots c =
    let start = any_start c.args.task.now c.args.enc.now c.requires.made in
    let ends = c.find_sets-answer.ensures start (first_places c.args.task.now c.args.enc.now c.new.new.enc c.requires.made (2 ^ fluent_count c.args.task.now + 1) (all_wide c.args.task.now) c.places.result _ (omega (arith, c.places.ensures)) (c.in_ok-board.ensures.opened c.args.task.now c.requires.made (action_count c.args.task.now + 17) (2 ^ fluent_count c.args.task.now + 1) (all_wide c.args.task.now).wide rough_places)) in
    same_chain c.args.enc.now c.find_sets-answer.new.enc c.close.new.enc (cert_at start c.find_sets-answer.new.enc c.find_sets-answer.new.board.slots.items c.find_sets-answer.result ends).same c.close.ensures.same_slots

pub returns-clause-made : goal.returns-clause-made
returns-clause-made c task made =
    let start = any_start c.args.task.now c.args.enc.now c.requires.made in
    let ends = c.find_sets-answer.ensures start (first_places c.args.task.now c.args.enc.now c.new.new.enc c.requires.made (2 ^ fluent_count c.args.task.now + 1) (all_wide c.args.task.now) c.places.result _ (omega (arith, c.places.ensures)) (c.in_ok-board.ensures.opened c.args.task.now c.requires.made (action_count c.args.task.now + 17) (2 ^ fluent_count c.args.task.now + 1) (all_wide c.args.task.now).wide rough_places)) in
    let at = cert_at start c.find_sets-answer.new.enc c.find_sets-answer.new.board.slots.items c.find_sets-answer.result ends in
    made_now task c.args.enc.now c.close.new.enc (same_chain c.args.enc.now c.find_sets-answer.new.enc c.close.new.enc at.same c.close.ensures.same_slots) (c.close.ensures.frame c.args.enc.now.sets at.working).kept made

pub returns-in_err-board-clause-made : goal.returns-in_err-board-clause-made
returns-in_err-board-clause-made c task made = made_now task c.args.enc.now c.new.new.enc c.new.ensures.same_slots c.in_err-board.ensures.refused.kept made
