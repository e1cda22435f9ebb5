use Rattle.std.proofs.Common.{suc, ◌≡◌, ◌+◌, ◌++◌, [], ◌∷◌, arith, length, ◌∙◌}
use Rattle.std.proofs.lemmas.Result.{err_from_is_err_and}
use Rattle.task_core.specs.Tasks.{action_count}
use Rattle.slot_board.specs.declared.steps.Step.TheVariants.{Advance}
use Rattle.slot_board.proofs.BoardSlots.{passed, same_actions, same_fluents, went}
use Rattle.slot_board.proofs.Endings.{memory_passed, noted_then}
use Rattle.cyclic_plan.proofs.Followed.{spread_end}
use Rattle.cyclic_plan.proofs.Growth.{spread_less}
use Rattle.cyclic_plan.proofs.rounds.spread.Goals as goal

pub returns-in_err-spent : goal.returns-in_err-spent
returns-in_err-spent c start left near ready =
    let p = err_from_is_err_and c.from_residual.result c.from_residual.ensures.1 in
    memory_passed start c.args.enc.now c.args.board.now.slots.items _ c.none_spent.result c.from_residual.result _ c.in_err-spent.was p c.none_spent.ensures.never_full ready.round.at

pub returns-in_err-first_step : goal.returns-in_err-first_step
returns-in_err-first_step c start left near ready =
    let p = err_from_is_err_and c.from_residual-in_err-first_step.result c.from_residual-in_err-first_step.ensures.1 in
    passed start c.first_step.new.enc c.first_step.new.board.slots.items _ _ c.first_step.result c.from_residual-in_err-first_step.result _ c.in_err-first_step.was p (c.first_step.ensures start left near ready)

pub loop-enc-init : goal.loop-enc-init
loop-enc-init c start left near ready = (0, went start c.first_step.new.enc c.first_step.new.board.slots.items _ c.first_step.result _ c.in_ok-first_step.was (c.first_step.ensures start left near ready))

pub is_same-requires-clause-working : goal.is_same-requires-clause-working
is_same-requires-clause-working c = let r = c.requires.ready in (r.0, (c.loop-enc.invariant r.0 r.1 r.2 r.3).1.by_next.by_near.round.at)

pub is_same-requires-clause-a : goal.is_same-requires-clause-a
is_same-requires-clause-a c =
    let r = c.requires.ready in
    let h = (c.loop-enc.invariant r.0 r.1 r.2 r.3).1.by_next.by_near.round in
    let e : length c.loop-enc.board.slots.items ≡ 7 + action_count r.0.task + action_count r.0.task = h.at.long ∙ h.places in
    omega arith

pub is_same-requires-clause-b : goal.is_same-requires-clause-b
is_same-requires-clause-b c =
    let r = c.requires.ready in
    let h = (c.loop-enc.invariant r.0 r.1 r.2 r.3).1.by_next.by_near.round in
    let e : length c.loop-enc.board.slots.items ≡ 7 + action_count r.0.task + action_count r.0.task = h.at.long ∙ h.places in
    omega arith

pub next_step-requires-clause-ready : goal.next_step-requires-clause-ready
next_step-requires-clause-ready c = let r = c.requires.ready in let k = c.loop-enc.invariant r.0 r.1 r.2 r.3 in (r.0, r.1, k.0, k.1)

pub next_step-requires-clause-actions : goal.next_step-requires-clause-actions
next_step-requires-clause-actions c =
    let r = c.requires.ready in
    let e : length c.loop-enc.enc.actions ≡ length c.args.enc.now.actions = same_actions r.0 c.args.enc.now c.loop-enc.enc c.args.board.now.slots.items c.loop-enc.board.slots.items r.3.round.at (c.loop-enc.invariant r.0 r.1 r.2 r.3).1.by_next.by_near.round.at in
    omega (arith, c.requires.actions)

pub returns-in_err-next_step : goal.returns-in_err-next_step
returns-in_err-next_step c start left near ready =
    let p = err_from_is_err_and c.from_residual-in_err-next_step.result c.from_residual-in_err-next_step.ensures.1 in
    let k = c.loop-enc.invariant start left near ready in
    passed start c.next_step.new.enc c.next_step.new.board.slots.items _ _ c.next_step.result c.from_residual-in_err-next_step.result _ c.in_err-next_step.was p (c.next_step.ensures start left k.0 k.1)

pub loop-enc-smaller : goal.loop-enc-smaller
loop-enc-smaller c =
    let r = c.requires.ready in
    let k = c.loop-enc.invariant r.0 r.1 r.2 r.3 in
    let now = c.next_step.new.enc in
    let slots = c.next_step.new.board.slots.items in
    let after = went r.0 now slots _ c.next_step.result _ c.in_ok-next_step.was (c.next_step.ensures r.0 r.1 k.0 k.1) in
    spread_less r.0 c.loop-enc.enc now c.loop-enc.board.slots.items slots r.1 k.0 c.args.enc.now.fluents k.1.by_next
    (λ same. let e = c.is_same.ensures.1 same in let f = c.loop-enc-test.true in cc)
    (same_fluents r.0 c.args.enc.now c.args.board.now.slots.items r.3.round.at) _ after.by_next

pub loop-enc-preserved : goal.loop-enc-preserved
loop-enc-preserved c start left near ready =
    let k = c.loop-enc.invariant start left near ready in
    (suc k.0, went start c.next_step.new.enc c.next_step.new.board.slots.items _ c.next_step.result _ c.in_ok-next_step.was (c.next_step.ensures start left k.0 k.1))

pub returns : goal.returns
returns c start left near ready =
    let k = c.loop-enc.invariant start left near ready in
    noted_then start c.loop-enc.enc c.loop-enc.board.slots.items (c.note.new.steps.items ≡ c.loop-enc.steps.items ++ Advance ∷ []) _ c.note.result c.note.ensures.never_full c.note.ensures.noted k.1.by_next.by_near.round.at
    (λ done. spread_end start c.loop-enc.enc c.loop-enc.board.slots.items left k.0 c.loop-enc.steps.items c.note.new.steps.items c.loop-enc.spent.items k.1 (c.is_same.ensures.0 (let f = c.loop-enc-test.false in cc)) done)
