use Rattle.std.proofs.Common.{◌+◌, ◌^◌, arith}
use Rattle.task_core.specs.Tasks.{action_count, fluent_count}
use Rattle.preimage.proofs.FrameSteps.{same_chain}
use Rattle.cyclic_plan.specs.Stages.{rough_places}
use Rattle.cyclic_plan.specs.Takers.{start_of}
use Rattle.cyclic_plan.proofs.Answered.{any_start, ends_found, ends_none, ends_refusal, first_places, room_of}
use Rattle.cyclic_plan.proofs.Fitting.{all_wide}
use Rattle.cyclic_plan.proofs.plan.cyclic_takers.Goals as goal

pub search-requires-clause-ready : goal.search-requires-clause-ready
search-requires-clause-ready c =
    (any_start c.args.task.now c.args.enc.now c.requires.made, first_places c.args.task.now c.args.enc.now c.new.new.enc c.requires.made (2 ^ fluent_count c.args.task.now + 1) (all_wide c.args.task.now) c.places.result _ (omega (arith, c.places.ensures)) (c.in_ok-board.ensures.opened c.args.task.now c.requires.made (action_count c.args.task.now + 17) (2 ^ fluent_count c.args.task.now + 1) (all_wide c.args.task.now).wide rough_places))

pub close-requires : goal.close-requires
close-requires c =
    let start = any_start c.args.task.now c.args.enc.now c.requires.made in
    let ends = c.search.ensures start (first_places c.args.task.now c.args.enc.now c.new.new.enc c.requires.made (2 ^ fluent_count c.args.task.now + 1) (all_wide c.args.task.now) c.places.result _ (omega (arith, c.places.ensures)) (c.in_ok-board.ensures.opened c.args.task.now c.requires.made (action_count c.args.task.now + 17) (2 ^ fluent_count c.args.task.now + 1) (all_wide c.args.task.now).wide rough_places)) in
    let none = ends_none start c.search.new.enc c.search.new.board.slots.items c.search.result (let e = c.in-Ok-false.is in let f = c.in-Ok-false.field-0-test in cc) ends in
    (c.args.enc.now.sets, none.0.working)

pub close-requires-in-Err : goal.close-requires-in-Err
close-requires-in-Err c =
    let start = any_start c.args.task.now c.args.enc.now c.requires.made in
    let ends = c.search.ensures start (first_places c.args.task.now c.args.enc.now c.new.new.enc c.requires.made (2 ^ fluent_count c.args.task.now + 1) (all_wide c.args.task.now) c.places.result _ (omega (arith, c.places.ensures)) (c.in_ok-board.ensures.opened c.args.task.now c.requires.made (action_count c.args.task.now + 17) (2 ^ fluent_count c.args.task.now + 1) (all_wide c.args.task.now).wide rough_places)) in
    let left = ends_refusal start c.search.new.enc c.search.new.board.slots.items c.search.result _ c.in-Err.is ends in
    (c.args.enc.now.sets, left.0.working)

pub returns-in-Ok-true-clause-table : goal.returns-in-Ok-true-clause-table
returns-in-Ok-true-clause-table c made width wide =
    let start = start_of c.args.task.now c.args.enc.now made width wide.wide in
    ends_found start c.search.new.enc c.search.new.board.slots.items c.search.result (let e = c.in-Ok-true.is in let f = c.in-Ok-true.field-0-test in cc)
    (c.search.ensures start
    (first_places c.args.task.now c.args.enc.now c.new.new.enc made width wide c.places.result _ (omega (arith, c.places.ensures)) (c.in_ok-board.ensures.opened c.args.task.now made (action_count c.args.task.now + 17) width wide.wide rough_places)))

pub returns-in-Ok-true-clause-same_slots : goal.returns-in-Ok-true-clause-same_slots
returns-in-Ok-true-clause-same_slots c =
    let start = any_start c.args.task.now c.args.enc.now c.requires.made in
    let ends = c.search.ensures start (first_places c.args.task.now c.args.enc.now c.new.new.enc c.requires.made (2 ^ fluent_count c.args.task.now + 1) (all_wide c.args.task.now) c.places.result _ (omega (arith, c.places.ensures)) (c.in_ok-board.ensures.opened c.args.task.now c.requires.made (action_count c.args.task.now + 17) (2 ^ fluent_count c.args.task.now + 1) (all_wide c.args.task.now).wide rough_places)) in
    (ends_found start c.search.new.enc c.search.new.board.slots.items c.search.result (let e = c.in-Ok-true.is in let f = c.in-Ok-true.field-0-test in cc) ends).at.same

pub returns-in-Ok-false-clause-no_plan : goal.returns-in-Ok-false-clause-no_plan
returns-in-Ok-false-clause-no_plan c =
    let start = any_start c.args.task.now c.args.enc.now c.requires.made in
    let ends = c.search.ensures start (first_places c.args.task.now c.args.enc.now c.new.new.enc c.requires.made (2 ^ fluent_count c.args.task.now + 1) (all_wide c.args.task.now) c.places.result _ (omega (arith, c.places.ensures)) (c.in_ok-board.ensures.opened c.args.task.now c.requires.made (action_count c.args.task.now + 17) (2 ^ fluent_count c.args.task.now + 1) (all_wide c.args.task.now).wide rough_places)) in
    let none = ends_none start c.search.new.enc c.search.new.board.slots.items c.search.result (let e = c.in-Ok-false.is in let f = c.in-Ok-false.field-0-test in cc) ends in
    none.1

pub returns-in-Ok-false-clause-closed : goal.returns-in-Ok-false-clause-closed
returns-in-Ok-false-clause-closed c =
    let start = any_start c.args.task.now c.args.enc.now c.requires.made in
    let ends = c.search.ensures start (first_places c.args.task.now c.args.enc.now c.new.new.enc c.requires.made (2 ^ fluent_count c.args.task.now + 1) (all_wide c.args.task.now) c.places.result _ (omega (arith, c.places.ensures)) (c.in_ok-board.ensures.opened c.args.task.now c.requires.made (action_count c.args.task.now + 17) (2 ^ fluent_count c.args.task.now + 1) (all_wide c.args.task.now).wide rough_places)) in
    let none = ends_none start c.search.new.enc c.search.new.board.slots.items c.search.result (let e = c.in-Ok-false.is in let f = c.in-Ok-false.field-0-test in cc) ends in
    c.close.ensures.frame c.args.enc.now.sets none.0.working

pub returns-in-Ok-false-clause-same_slots : goal.returns-in-Ok-false-clause-same_slots
returns-in-Ok-false-clause-same_slots c =
    let start = any_start c.args.task.now c.args.enc.now c.requires.made in
    let ends = c.search.ensures start (first_places c.args.task.now c.args.enc.now c.new.new.enc c.requires.made (2 ^ fluent_count c.args.task.now + 1) (all_wide c.args.task.now) c.places.result _ (omega (arith, c.places.ensures)) (c.in_ok-board.ensures.opened c.args.task.now c.requires.made (action_count c.args.task.now + 17) (2 ^ fluent_count c.args.task.now + 1) (all_wide c.args.task.now).wide rough_places)) in
    let none = ends_none start c.search.new.enc c.search.new.board.slots.items c.search.result (let e = c.in-Ok-false.is in let f = c.in-Ok-false.field-0-test in cc) ends in
    same_chain c.args.enc.now c.search.new.enc c.close.new.enc none.0.same c.close.ensures.same_slots

pub returns-in-Err-clause-full : goal.returns-in-Err-clause-full
returns-in-Err-clause-full c full width wide =
    let made = c.requires.made in
    let start = start_of c.args.task.now c.args.enc.now made width wide.wide in
    let ends =
    c.search.ensures start
    (first_places c.args.task.now c.args.enc.now c.new.new.enc made width wide c.places.result _ (omega (arith, c.places.ensures)) (c.in_ok-board.ensures.opened c.args.task.now made (action_count c.args.task.now + 17) width wide.wide rough_places)) in
    let left = ends_refusal start c.search.new.enc c.search.new.board.slots.items c.search.result _ c.in-Err.is ends in
    room_of c.args.task.now c.args.enc.now c.close-in-Err.new.enc.sets width (c.close-in-Err.ensures.room c.args.enc.now.sets width _ _ (left.1 (let e = full in cc)))

pub returns-in-Err-clause-refused : goal.returns-in-Err-clause-refused
returns-in-Err-clause-refused c =
    let start = any_start c.args.task.now c.args.enc.now c.requires.made in
    let ends = c.search.ensures start (first_places c.args.task.now c.args.enc.now c.new.new.enc c.requires.made (2 ^ fluent_count c.args.task.now + 1) (all_wide c.args.task.now) c.places.result _ (omega (arith, c.places.ensures)) (c.in_ok-board.ensures.opened c.args.task.now c.requires.made (action_count c.args.task.now + 17) (2 ^ fluent_count c.args.task.now + 1) (all_wide c.args.task.now).wide rough_places)) in
    let left = ends_refusal start c.search.new.enc c.search.new.board.slots.items c.search.result _ c.in-Err.is ends in
    c.close-in-Err.ensures.frame c.args.enc.now.sets left.0.working

pub returns-in-Err-clause-same_slots : goal.returns-in-Err-clause-same_slots
returns-in-Err-clause-same_slots c =
    let start = any_start c.args.task.now c.args.enc.now c.requires.made in
    let ends = c.search.ensures start (first_places c.args.task.now c.args.enc.now c.new.new.enc c.requires.made (2 ^ fluent_count c.args.task.now + 1) (all_wide c.args.task.now) c.places.result _ (omega (arith, c.places.ensures)) (c.in_ok-board.ensures.opened c.args.task.now c.requires.made (action_count c.args.task.now + 17) (2 ^ fluent_count c.args.task.now + 1) (all_wide c.args.task.now).wide rough_places)) in
    let left = ends_refusal start c.search.new.enc c.search.new.board.slots.items c.search.result _ c.in-Err.is ends in
    same_chain c.args.enc.now c.search.new.enc c.close-in-Err.new.enc left.0.same c.close-in-Err.ensures.same_slots
