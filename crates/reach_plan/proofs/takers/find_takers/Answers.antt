-- The first pass, then the second one.
use Rattle.std.proofs.Common.{◌+◌, ◌≡◌, ◌∙◌, Err, arith, ap, length, sym, subst}
use Rattle.std.specs.Prelude.{IsSome}
use Rattle.std.proofs.lemmas.Result.{err_from_is_err_and}
use Rattle.dd_sets.specs.Rooms.{NoRoom}
use Rattle.dd_sets.specs.declared.errors.SetErr.TheVariants.{Full}
use Rattle.encode_task.specs.Slots.{Encoded}
use Rattle.encode_task.proofs.MadeLemmas.{goal_there}
use Rattle.preimage.proofs.FrameSteps.{made_now, same_chain}
use Rattle.task_core.specs.Tasks.{action_count}
use Rattle.reach_plan.specs.Steps.{LeadToLast}
use Rattle.reach_plan.specs.Takers.{IsDecided}
use Rattle.reach_plan.proofs.PlanSteps.{on_err, owns_after, owns_working, room_after, working_after}
use Rattle.reach_plan.proofs.takers.find_takers.Goals as goal

pub is_covered-requires-clause-goal : goal.is_covered-requires-clause-goal
is_covered-requires-clause-goal c = goal_there c.args.task.now c.args.enc.now c.requires.made c.requires.goal

pub returns-in_err-is_covered-clause-full : goal.returns-in_err-is_covered-clause-full
returns-in_err-is_covered-clause-full c full width wide =
    let count : length c.args.enc.now.actions ≡ action_count c.args.task.now = c.requires.made.actions in
    let p = err_from_is_err_and c.from_residual.result c.from_residual.ensures.1 in
    let same : p.0 ≡ Full = cc in
    subst (λ n. NoRoom width (n + 24) 16 c.args.enc.now.sets c.is_covered.new.enc.sets) (omega arith) (c.in_err-is_covered.ensures.full (ap Err (sym p.2 ∙ same)) c.args.task.now c.requires.made width wide)

pub returns-in_err-is_covered-clause-made : goal.returns-in_err-is_covered-clause-made
returns-in_err-is_covered-clause-made c task made = made_now task c.args.enc.now c.is_covered.new.enc c.is_covered.ensures.same_slots c.is_covered.ensures.slots.kept made

pub returns-then-not-branch-clause-found : goal.returns-then-not-branch-clause-found
returns-then-not-branch-clause-found c = subst (IsDecided c.args.class c.args.task.now c.is_covered.new.steps.items) c.if-not-branch.true (c.in_ok-is_covered.ensures.answer c.args.task.now c.requires.made)

pub returns-then-not-branch-clause-slots : goal.returns-then-not-branch-clause-slots
returns-then-not-branch-clause-slots c = owns_working c.args.enc.now.sets c.is_covered.new.enc.sets c.is_covered.ensures.slots

pub returns-then-not-branch-clause-made : goal.returns-then-not-branch-clause-made
returns-then-not-branch-clause-made c task made = made_now task c.args.enc.now c.is_covered.new.enc c.is_covered.ensures.same_slots c.is_covered.ensures.slots.kept made

pub take_all-requires-clause-goal : goal.take_all-requires-clause-goal
take_all-requires-clause-goal c = subst (λ (e : Encoded). IsSome e.goal) (sym c.is_covered.ensures.same_slots) (goal_there c.args.task.now c.args.enc.now c.requires.made c.requires.goal)

pub take_all-requires-clause-last : goal.take_all-requires-clause-last
take_all-requires-clause-last c =
    let mid = c.is_covered.new.enc in
    let made = made_now c.args.task.now c.args.enc.now mid c.is_covered.ensures.same_slots c.is_covered.ensures.slots.kept c.requires.made in
    let decided = subst (IsDecided c.args.class c.args.task.now c.is_covered.new.steps.items) c.if-not-branch.false (c.in_ok-is_covered.ensures.answer c.args.task.now c.requires.made) in
    (c.args.task.now, made, subst (LeadToLast c.args.class c.args.task.now) (sym c.deref.ensures.value) decided)

pub take_all-requires-clause-actions : goal.take_all-requires-clause-actions
take_all-requires-clause-actions c =
    let count : length c.args.enc.now.actions ≡ action_count c.args.task.now = c.requires.made.actions in
    let same : length c.is_covered.new.enc.actions ≡ length c.args.enc.now.actions = ap (λ (e : Encoded). length e.actions) c.is_covered.ensures.same_slots in
    omega arith

pub returns-in_err-board-clause-full : goal.returns-in_err-board-clause-full
returns-in_err-board-clause-full c full width wide =
    let mid = c.is_covered.new.enc in
    let made = made_now c.args.task.now c.args.enc.now mid c.is_covered.ensures.same_slots c.is_covered.ensures.slots.kept c.requires.made in
    let decided = subst (IsDecided c.args.class c.args.task.now c.is_covered.new.steps.items) c.if-not-branch.false (c.in_ok-is_covered.ensures.answer c.args.task.now c.requires.made) in
    let leads = subst (LeadToLast c.args.class c.args.task.now) (sym c.deref.ensures.value) decided in
    let count : length c.args.enc.now.actions ≡ action_count c.args.task.now = c.requires.made.actions in
    let p = err_from_is_err_and c.from_residual-in_err-board.result c.from_residual-in_err-board.ensures.1 in
    let same : p.0 ≡ Full = cc in
    subst (λ n. NoRoom width (n + 24) 16 c.args.enc.now.sets c.take_all.new.enc.sets) (omega arith)
    (room_after width c.args.enc.now.sets c.is_covered.new.enc.sets c.take_all.new.enc.sets _ 16 c.is_covered.ensures.slots (c.in_err-board.ensures.full (ap Err (sym p.2 ∙ same)) c.args.task.now made leads width wide))

pub returns-in_err-board-clause-refused : goal.returns-in_err-board-clause-refused
returns-in_err-board-clause-refused c =
    on_err c.from_residual-in_err-board.result _ (owns_after c.args.enc.now.sets c.is_covered.new.enc.sets c.take_all.new.enc.sets c.is_covered.ensures.slots c.in_err-board.ensures.refused)

pub returns-in_err-board-clause-same_slots : goal.returns-in_err-board-clause-same_slots
returns-in_err-board-clause-same_slots c = same_chain c.args.enc.now c.is_covered.new.enc c.take_all.new.enc c.is_covered.ensures.same_slots c.take_all.ensures.same_slots

pub returns-in_err-board-clause-made : goal.returns-in_err-board-clause-made
returns-in_err-board-clause-made c task made =
    made_now task c.args.enc.now c.take_all.new.enc (same_chain c.args.enc.now c.is_covered.new.enc c.take_all.new.enc c.is_covered.ensures.same_slots c.take_all.ensures.same_slots)
    (owns_after c.args.enc.now.sets c.is_covered.new.enc.sets c.take_all.new.enc.sets c.is_covered.ensures.slots c.in_err-board.ensures.refused).kept made

pub returns-clause-found : goal.returns-clause-found
returns-clause-found c =
    let mid = c.is_covered.new.enc in
    let made = made_now c.args.task.now c.args.enc.now mid c.is_covered.ensures.same_slots c.is_covered.ensures.slots.kept c.requires.made in
    let decided = subst (IsDecided c.args.class c.args.task.now c.is_covered.new.steps.items) c.if-not-branch.false (c.in_ok-is_covered.ensures.answer c.args.task.now c.requires.made) in
    c.in_ok-board.ensures.answer c.args.task.now made (subst (LeadToLast c.args.class c.args.task.now) (sym c.deref.ensures.value) decided)

pub returns-clause-slots : goal.returns-clause-slots
returns-clause-slots c = working_after c.args.enc.now.sets c.is_covered.new.enc.sets c.take_all.new.enc.sets c.in_ok-board.board.slots.items c.is_covered.ensures.slots c.in_ok-board.ensures.slots

pub returns-clause-same_slots : goal.returns-clause-same_slots
returns-clause-same_slots c = same_chain c.args.enc.now c.is_covered.new.enc c.take_all.new.enc c.is_covered.ensures.same_slots c.take_all.ensures.same_slots

pub returns-clause-made : goal.returns-clause-made
returns-clause-made c task made =
    made_now task c.args.enc.now c.take_all.new.enc (same_chain c.args.enc.now c.is_covered.new.enc c.take_all.new.enc c.is_covered.ensures.same_slots c.take_all.ensures.same_slots)
    (working_after c.args.enc.now.sets c.is_covered.new.enc.sets c.take_all.new.enc.sets c.in_ok-board.board.slots.items c.is_covered.ensures.slots c.in_ok-board.ensures.slots).kept made
