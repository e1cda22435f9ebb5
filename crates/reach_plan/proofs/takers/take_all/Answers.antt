-- What the steps leave, and the slots of the actions stay.
use Rattle.std.proofs.Common.{◌+◌, ◌≡◌, ◌∙◌, [], ◌∷◌, Err, arith, ap, length, sym, subst, true}
use Rattle.std.specs.Prelude.{IsSome}
use Rattle.std.specs.List.{list_all}
use Rattle.dd_sets.specs.declared.errors.SetErr.TheVariants.{Full}
use Rattle.dd_sets.proofs.RoomSteps.{room_wider}
use Rattle.encode_task.specs.Slots.{Encoded}
use Rattle.preimage.proofs.FrameSteps.{same_chain}
use Rattle.reach_plan.specs.Steps.{is_step_of}
use Rattle.reach_plan.proofs.PlanSteps.{may_retrace, second_pass, takers_held}
use Rattle.reach_plan.proofs.SmallSets.{wide_enough}
use Rattle.reach_plan.proofs.takers.take_all.Goals as goal

pub retrace-requires-clause-goal : goal.retrace-requires-clause-goal
retrace-requires-clause-goal c = subst (λ (e : Encoded). IsSome e.goal) (sym c.new.ensures.same_slots) c.requires.goal

pub retrace-requires-clause-ready : goal.retrace-requires-clause-ready
retrace-requires-clause-ready c =
    let m = c.requires.last in
    let any = wide_enough c.args.class m.0 in
    (second_pass m.0 c.args.enc.now m.1 c.args.actions _ any.wide, c.in_ok-board.ensures.opened m.0 m.1 12 _ any.wide ((c.args.actions + 3) ∷ []), may_retrace c.args.class m.0 c.args.enc.now m.1 c.args.actions _ any c.args.steps.now m.2)

pub retrace-requires-clause-places : goal.retrace-requires-clause-places
retrace-requires-clause-places c =
    let m = c.requires.last in
    let any = wide_enough c.args.class m.0 in
    (c.in_ok-board.ensures.opened m.0 m.1 12 _ any.wide ((c.args.actions + 3) ∷ [])).at.long

pub retrace-requires-clause-steps : goal.retrace-requires-clause-steps
retrace-requires-clause-steps c = let m = c.requires.last in subst (λ n. list_all (is_step_of n) c.args.steps.now ≡ true) (sym (c.requires.actions ∙ m.1.actions)) m.2.led.within

pub retrace-requires-clause-actions : goal.retrace-requires-clause-actions
retrace-requires-clause-actions c = c.requires.actions ∙ sym (ap (λ (e : Encoded). length e.actions) c.new.ensures.same_slots)

pub cut-requires-clause-working : goal.cut-requires-clause-working
cut-requires-clause-working c =
    let m = c.requires.last in
    let any = wide_enough c.args.class m.0 in
    let start = second_pass m.0 c.args.enc.now m.1 c.args.actions _ any.wide in
    let opened = c.in_ok-board.ensures.opened m.0 m.1 12 _ any.wide ((c.args.actions + 3) ∷ []) in
    (c.args.enc.now.sets, (c.in-Ok.ensures start opened (may_retrace c.args.class m.0 c.args.enc.now m.1 c.args.actions _ any c.args.steps.now m.2)).by_layer.at.working)

pub cut-requires-clause-places : goal.cut-requires-clause-places
cut-requires-clause-places c =
    let m = c.requires.last in
    let any = wide_enough c.args.class m.0 in
    let start = second_pass m.0 c.args.enc.now m.1 c.args.actions _ any.wide in
    let opened = c.in_ok-board.ensures.opened m.0 m.1 12 _ any.wide ((c.args.actions + 3) ∷ []) in
    let long : length c.retrace.new.board.slots.items ≡ c.args.actions + 4 = (c.in-Ok.ensures start opened (may_retrace c.args.class m.0 c.args.enc.now m.1 c.args.actions _ any c.args.steps.now m.2)).by_layer.at.long in
    omega arith

pub returns-in-Ok-clause-answer : goal.returns-in-Ok-clause-answer
returns-in-Ok-clause-answer c task made leads =
    let any = wide_enough c.args.class task in
    let start = second_pass task c.args.enc.now made c.args.actions _ any.wide in
    let opened = c.in_ok-board.ensures.opened task made 12 _ any.wide ((c.args.actions + 3) ∷ []) in
    takers_held c.args.class start c.retrace.new.enc c.cut.new.enc c.retrace.new.board.slots.items c.cut.new.self.slots.items c.args.actions c.args.steps.now leads (c.in-Ok.ensures start opened (may_retrace c.args.class task c.args.enc.now made c.args.actions _ any c.args.steps.now leads))
    (c.requires.actions ∙ made.actions) c.cut.ensures.long c.cut.ensures.sets

pub returns-in-Ok-clause-slots : goal.returns-in-Ok-clause-slots
returns-in-Ok-clause-slots c =
    let m = c.requires.last in
    let any = wide_enough c.args.class m.0 in
    let start = second_pass m.0 c.args.enc.now m.1 c.args.actions _ any.wide in
    let opened = c.in_ok-board.ensures.opened m.0 m.1 12 _ any.wide ((c.args.actions + 3) ∷ []) in
    c.cut.ensures.frame c.args.enc.now.sets (c.in-Ok.ensures start opened (may_retrace c.args.class m.0 c.args.enc.now m.1 c.args.actions _ any c.args.steps.now m.2)).by_layer.at.working

pub returns-in-Ok-clause-same_slots : goal.returns-in-Ok-clause-same_slots
returns-in-Ok-clause-same_slots c =
    let m = c.requires.last in
    let any = wide_enough c.args.class m.0 in
    let start = second_pass m.0 c.args.enc.now m.1 c.args.actions _ any.wide in
    let opened = c.in_ok-board.ensures.opened m.0 m.1 12 _ any.wide ((c.args.actions + 3) ∷ []) in
    same_chain c.args.enc.now c.retrace.new.enc c.cut.new.enc (c.in-Ok.ensures start opened (may_retrace c.args.class m.0 c.args.enc.now m.1 c.args.actions _ any c.args.steps.now m.2)).by_layer.at.same c.cut.ensures.same_slots

pub close-requires : goal.close-requires
close-requires c =
    let m = c.requires.last in
    let any = wide_enough c.args.class m.0 in
    let start = second_pass m.0 c.args.enc.now m.1 c.args.actions _ any.wide in
    let opened = c.in_ok-board.ensures.opened m.0 m.1 12 _ any.wide ((c.args.actions + 3) ∷ []) in
    (c.args.enc.now.sets, (c.in-Err.ensures start opened (may_retrace c.args.class m.0 c.args.enc.now m.1 c.args.actions _ any c.args.steps.now m.2)).0.working)

pub returns-in-Err-clause-full : goal.returns-in-Err-clause-full
returns-in-Err-clause-full c full task made leads width wide =
    let start = second_pass task c.args.enc.now made c.args.actions width wide.wide in
    let opened = c.in_ok-board.ensures.opened task made 12 width wide.wide ((c.args.actions + 3) ∷ []) in
    room_wider c.args.enc.now.sets (c.args.actions + 4 + 12 + 8) (c.args.actions + 24) 5 16 (omega arith) (omega arith)
    (c.close.ensures.room c.args.enc.now.sets width _ _
    ((c.in-Err.ensures start opened (may_retrace c.args.class task c.args.enc.now made c.args.actions width wide c.args.steps.now leads)).1 (let h : Err c.in-Err.refusal ≡ Err Full = full in cc)))

pub returns-in-Err-clause-refused : goal.returns-in-Err-clause-refused
returns-in-Err-clause-refused c =
    let m = c.requires.last in
    let any = wide_enough c.args.class m.0 in
    let start = second_pass m.0 c.args.enc.now m.1 c.args.actions _ any.wide in
    let opened = c.in_ok-board.ensures.opened m.0 m.1 12 _ any.wide ((c.args.actions + 3) ∷ []) in
    c.close.ensures.frame c.args.enc.now.sets (c.in-Err.ensures start opened (may_retrace c.args.class m.0 c.args.enc.now m.1 c.args.actions _ any c.args.steps.now m.2)).0.working

pub returns-in-Err-clause-same_slots : goal.returns-in-Err-clause-same_slots
returns-in-Err-clause-same_slots c =
    let m = c.requires.last in
    let any = wide_enough c.args.class m.0 in
    let start = second_pass m.0 c.args.enc.now m.1 c.args.actions _ any.wide in
    let opened = c.in_ok-board.ensures.opened m.0 m.1 12 _ any.wide ((c.args.actions + 3) ∷ []) in
    same_chain c.args.enc.now c.retrace.new.enc c.close.new.enc (c.in-Err.ensures start opened (may_retrace c.args.class m.0 c.args.enc.now m.1 c.args.actions _ any c.args.steps.now m.2)).0.same c.close.ensures.same_slots
