use Rattle.std.proofs.Common.{suc, ◌≡◌, ◌+◌, arith, length, ◌∙◌}
use Rattle.std.proofs.lemmas.Result.{err_from_is_err_and}
use Rattle.task_core.specs.Tasks.{action_count}
use Rattle.slot_board.proofs.BoardSlots.{passed, same_actions, same_fluents, went}
use Rattle.cyclic_plan.proofs.CertSteps.{sets_begun, sets_done, sets_less, sets_more}
use Rattle.cyclic_plan.proofs.certs.all_sets.Goals as goal

pub loop-alloc-init : goal.loop-alloc-init
loop-alloc-init c start ready = (0, sets_begun start c.args.enc.now c.args.board.now.slots.items c.args.sets.now.items ready c.requires.sets)

pub is_empty-requires-clause-working : goal.is_empty-requires-clause-working
is_empty-requires-clause-working c = let r = c.requires.ready in (r.0, (c.loop-alloc.invariant r.0 r.1).1.lost.rounds.round.at)

pub is_empty-requires-clause-place : goal.is_empty-requires-clause-place
is_empty-requires-clause-place c =
    let r = c.requires.ready in
    let h = (c.loop-alloc.invariant r.0 r.1).1.lost.rounds.round in
    let e : length c.loop-alloc.board.slots.items ≡ 7 + action_count r.0.task + action_count r.0.task = h.at.long ∙ h.places in
    omega arith

pub add_set-requires : goal.add_set-requires
add_set-requires c = let r = c.requires.ready in let k = c.loop-alloc.invariant r.0 r.1 in record { ready = (r.0, k.0, k.1.lost) }

pub lose_more-requires-clause-ready : goal.lose_more-requires-clause-ready
lose_more-requires-clause-ready c = let r = c.requires.ready in let k = c.loop-alloc.invariant r.0 r.1 in (r.0, k.0, k.1.lost)

pub lose_more-requires-clause-actions : goal.lose_more-requires-clause-actions
lose_more-requires-clause-actions c =
    let r = c.requires.ready in
    let e : length c.loop-alloc.enc.actions ≡ length c.args.enc.now.actions = same_actions r.0 c.args.enc.now c.loop-alloc.enc c.args.board.now.slots.items c.loop-alloc.board.slots.items r.1.rounds.round.at (c.loop-alloc.invariant r.0 r.1).1.lost.rounds.round.at in
    omega (arith, c.requires.actions)

pub loop-alloc-preserved : goal.loop-alloc-preserved
loop-alloc-preserved c start ready =
    let k = c.loop-alloc.invariant start ready in
    let now = c.lose_more.new.enc in
    let slots = c.lose_more.new.board.slots.items in (
      suc k.0,
      sets_more start c.loop-alloc.enc now c.loop-alloc.board.slots.items slots k.0 c.loop-alloc.sets.items c.add_set.new.sets.items k.1 (λ same. let e = c.is_empty.ensures.1 same in let f = c.loop-alloc-test.true in cc)
          (c.in_ok-add_set.ensures.added start k.0 k.1.lost) (went start now slots _ c.lose_more.result _ c.in_ok-lose_more.was (c.lose_more.ensures start k.0 k.1.lost)),
    )

pub loop-alloc-smaller : goal.loop-alloc-smaller
loop-alloc-smaller c =
    let r = c.requires.ready in
    let k = c.loop-alloc.invariant r.0 r.1 in
    let now = c.lose_more.new.enc in
    let slots = c.lose_more.new.board.slots.items in
    sets_less r.0 c.loop-alloc.enc now c.loop-alloc.board.slots.items slots k.0 c.args.enc.now.fluents k.1.lost (λ same. let e = c.is_empty.ensures.1 same in let f = c.loop-alloc-test.true in cc)
    (same_fluents r.0 c.args.enc.now c.args.board.now.slots.items r.1.rounds.round.at)
    (went r.0 now slots _ c.lose_more.result _ c.in_ok-lose_more.was (c.lose_more.ensures r.0 k.0 k.1.lost))

pub returns : goal.returns
returns c start ready =
    let k = c.loop-alloc.invariant start ready in
    sets_done start c.loop-alloc.enc c.loop-alloc.board.slots.items k.0 c.loop-alloc.sets.items k.1 (c.is_empty.ensures.0 (let f = c.loop-alloc-test.false in cc))

pub returns-in_err-lose_more : goal.returns-in_err-lose_more
returns-in_err-lose_more c start ready =
    let k = c.loop-alloc.invariant start ready in
    let p = err_from_is_err_and c.from_residual-in_err-lose_more.result c.from_residual-in_err-lose_more.ensures.1 in
    passed start c.lose_more.new.enc c.lose_more.new.board.slots.items _ _ c.lose_more.result c.from_residual-in_err-lose_more.result _ c.in_err-lose_more.was p (c.lose_more.ensures start k.0 k.1.lost)
