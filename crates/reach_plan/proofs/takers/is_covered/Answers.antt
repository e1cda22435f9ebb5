-- What the pass found, and no slot of it stays.
use Rattle.std.proofs.Common.{◌+◌, ◌≡◌, ◌∙◌, [], arith, ap, length, sym, subst}
use Rattle.std.specs.Prelude.{IsSome}
use Rattle.encode_task.specs.Slots.{Encoded}
use Rattle.dd_sets.proofs.RoomSteps.{room_wider}
use Rattle.preimage.proofs.FrameSteps.{same_chain}
use Rattle.slot_board.proofs.Endings.{ends_at, ends_full}
use Rattle.reach_plan.proofs.PlanSteps.{decided_by, left_at, first_pass}
use Rattle.reach_plan.proofs.SmallSets.{wide_enough}
use Rattle.reach_plan.proofs.takers.is_covered.Goals as goal

pub search_back-covered-requires-clause-goal : goal.search_back-covered-requires-clause-goal
search_back-covered-requires-clause-goal c = subst (λ (e : Encoded). IsSome e.goal) (sym c.new.ensures.same_slots) c.requires.goal

pub search_back-covered-requires-clause-ready : goal.search_back-covered-requires-clause-ready
search_back-covered-requires-clause-ready c =
    let m = c.requires.made in
    let any = wide_enough c.args.class m.0 in
    let opened = c.in_ok-board.ensures.opened m.0 m.1 (c.args.actions + 12) _ any.wide [] in
    (first_pass m.0 c.args.enc.now m.1 c.args.actions _ any.wide, opened, any)

pub search_back-covered-requires-clause-places : goal.search_back-covered-requires-clause-places
search_back-covered-requires-clause-places c =
    let m = c.requires.made in
    let any = wide_enough c.args.class m.0 in
    let opened = c.in_ok-board.ensures.opened m.0 m.1 (c.args.actions + 12) _ any.wide [] in
    let long : length c.in_ok-board.board.slots.items ≡ 4 = opened.at.long in
    omega arith

pub search_back-covered-requires-clause-actions : goal.search_back-covered-requires-clause-actions
search_back-covered-requires-clause-actions c = c.requires.actions ∙ sym (ap (λ (e : Encoded). length e.actions) c.new.ensures.same_slots)

pub close-requires : goal.close-requires
close-requires c =
    let m = c.requires.made in
    let any = wide_enough c.args.class m.0 in
    let opened = c.in_ok-board.ensures.opened m.0 m.1 (c.args.actions + 12) _ any.wide [] in
    let start = first_pass m.0 c.args.enc.now m.1 c.args.actions _ any.wide in
    let now = c.search_back-covered.new.enc in
    let slots = c.search_back-covered.new.board.slots.items in (
      c.args.enc.now.sets,
      (ends_at start now slots _ c.search_back-covered.result (λ b left. left_at c.args.class start now slots c.search_back-covered.new.steps.items b left) (c.search_back-covered.ensures start opened any)).working,
    )

pub returns-clause-answer : goal.returns-clause-answer
returns-clause-answer c task made =
    let any = wide_enough c.args.class task in
    let opened = c.in_ok-board.ensures.opened task made (c.args.actions + 12) _ any.wide [] in
    let start = first_pass task c.args.enc.now made c.args.actions _ any.wide in
    decided_by c.args.class start c.search_back-covered.new.enc c.search_back-covered.new.board.slots.items c.search_back-covered.new.steps.items c.search_back-covered.result (c.search_back-covered.ensures start opened any)

pub returns-clause-full : goal.returns-clause-full
returns-clause-full c full task made width wide =
    let start = first_pass task c.args.enc.now made c.args.actions width wide.wide in
    let opened = c.in_ok-board.ensures.opened task made (c.args.actions + 12) width wide.wide [] in
    room_wider c.args.enc.now.sets (4 + (c.args.actions + 12) + 8) (c.args.actions + 24) 4 16 (omega arith) (omega arith)
    (c.close.ensures.room c.args.enc.now.sets width _ _
    (ends_full start c.search_back-covered.new.enc c.search_back-covered.new.board.slots.items _ c.search_back-covered.result (c.search_back-covered.ensures start opened wide) full))

pub returns-clause-slots : goal.returns-clause-slots
returns-clause-slots c =
    let m = c.requires.made in
    let any = wide_enough c.args.class m.0 in
    let opened = c.in_ok-board.ensures.opened m.0 m.1 (c.args.actions + 12) _ any.wide [] in
    let start = first_pass m.0 c.args.enc.now m.1 c.args.actions _ any.wide in
    let now = c.search_back-covered.new.enc in
    let slots = c.search_back-covered.new.board.slots.items in
    c.close.ensures.frame c.args.enc.now.sets
    (ends_at start now slots _ c.search_back-covered.result (λ b left. left_at c.args.class start now slots c.search_back-covered.new.steps.items b left) (c.search_back-covered.ensures start opened any)).working

pub returns-clause-same_slots : goal.returns-clause-same_slots
returns-clause-same_slots c =
    let m = c.requires.made in
    let any = wide_enough c.args.class m.0 in
    let opened = c.in_ok-board.ensures.opened m.0 m.1 (c.args.actions + 12) _ any.wide [] in
    let start = first_pass m.0 c.args.enc.now m.1 c.args.actions _ any.wide in
    let now = c.search_back-covered.new.enc in
    let slots = c.search_back-covered.new.board.slots.items in
    same_chain c.args.enc.now now c.close.new.enc
    (ends_at start now slots _ c.search_back-covered.result (λ b left. left_at c.args.class start now slots c.search_back-covered.new.steps.items b left) (c.search_back-covered.ensures start opened any)).same
    c.close.ensures.same_slots
