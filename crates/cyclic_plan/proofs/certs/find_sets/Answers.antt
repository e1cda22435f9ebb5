use Rattle.std.proofs.Common.{◌≡◌, ◌+◌, arith, length, ◌∙◌}
use Rattle.std.proofs.lemmas.Result.{err_from_is_err_and}
use Rattle.task_core.specs.Tasks.{action_count}
use Rattle.slot_board.proofs.BoardSlots.{same_actions, went}
use Rattle.cyclic_plan.proofs.CertSteps.{cert_refused, ends_with_plan, ends_with_sets}
use Rattle.cyclic_plan.proofs.Premises.{test_near}
use Rattle.cyclic_plan.proofs.certs.find_sets.Goals as goal

pub all_sets-requires-clause-ready : goal.all_sets-requires-clause-ready
all_sets-requires-clause-ready c =
    let r = c.requires.ready in
    (r.0, went r.0 c.lose_first.new.enc c.lose_first.new.board.slots.items _ c.lose_first.result _ c.in_ok-lose_first.was (c.lose_first.ensures r.0 r.1))

pub all_sets-requires-clause-actions : goal.all_sets-requires-clause-actions
all_sets-requires-clause-actions c =
    let r = c.requires.ready in
    let f = went r.0 c.lose_first.new.enc c.lose_first.new.board.slots.items _ c.lose_first.result _ c.in_ok-lose_first.was (c.lose_first.ensures r.0 r.1) in
    let e : length c.lose_first.new.enc.actions ≡ length c.args.enc.now.actions = same_actions r.0 c.args.enc.now c.lose_first.new.enc c.args.board.now.slots.items c.lose_first.new.board.slots.items r.1.at f.rounds.round.at in
    omega (arith, c.requires.actions)

pub covers_initial-requires-clause-working : goal.covers_initial-requires-clause-working
covers_initial-requires-clause-working c =
    let r = c.requires.ready in
    let f = went r.0 c.lose_first.new.enc c.lose_first.new.board.slots.items _ c.lose_first.result _ c.in_ok-lose_first.was (c.lose_first.ensures r.0 r.1) in
    let h = went r.0 c.all_sets.new.enc c.all_sets.new.board.slots.items _ c.all_sets.result _ c.in_ok-all_sets.was (c.all_sets.ensures r.0 f) in
    (r.0, h.so_far.lost.rounds.round.at)

pub covers_initial-requires-clause-place : goal.covers_initial-requires-clause-place
covers_initial-requires-clause-place c =
    let r = c.requires.ready in
    let f = went r.0 c.lose_first.new.enc c.lose_first.new.board.slots.items _ c.lose_first.result _ c.in_ok-lose_first.was (c.lose_first.ensures r.0 r.1) in
    let h = went r.0 c.all_sets.new.enc c.all_sets.new.board.slots.items _ c.all_sets.result _ c.in_ok-all_sets.was (c.all_sets.ensures r.0 f) in
    let e : length c.all_sets.new.board.slots.items ≡ 7 + action_count r.0.task + action_count r.0.task = h.so_far.lost.rounds.round.at.long ∙ h.so_far.lost.rounds.round.places in
    omega arith

pub returns-then-branch : goal.returns-then-branch
returns-then-branch c start ready =
    let f = went start c.lose_first.new.enc c.lose_first.new.board.slots.items _ c.lose_first.result _ c.in_ok-lose_first.was (c.lose_first.ensures start ready) in
    let h = went start c.all_sets.new.enc c.all_sets.new.board.slots.items _ c.all_sets.result _ c.in_ok-all_sets.was (c.all_sets.ensures start f) in
    let at = h.so_far.lost.rounds.round.at in
    ends_with_plan start c.all_sets.new.enc c.covers_initial.new.enc c.all_sets.new.board.slots.items c.all_sets.new.sets h (c.in_ok-covers_initial.ensures.left start at (test_near start c.all_sets.new.enc c.all_sets.new.board.slots.items _ _ h.so_far.lost.rounds.round))
    c.in_ok-covers_initial.field-0 (c.in_ok-covers_initial.ensures.answer start at) (let t = c.if-branch.true in cc)

pub returns-else-branch : goal.returns-else-branch
returns-else-branch c start ready =
    let f = went start c.lose_first.new.enc c.lose_first.new.board.slots.items _ c.lose_first.result _ c.in_ok-lose_first.was (c.lose_first.ensures start ready) in
    let h = went start c.all_sets.new.enc c.all_sets.new.board.slots.items _ c.all_sets.result _ c.in_ok-all_sets.was (c.all_sets.ensures start f) in
    let at = h.so_far.lost.rounds.round.at in
    ends_with_sets start c.all_sets.new.enc c.covers_initial.new.enc c.all_sets.new.board.slots.items c.all_sets.new.sets h (c.in_ok-covers_initial.ensures.left start at (test_near start c.all_sets.new.enc c.all_sets.new.board.slots.items _ _ h.so_far.lost.rounds.round))
    c.in_ok-covers_initial.field-0 (c.in_ok-covers_initial.ensures.answer start at) (let t = c.if-branch.false in cc)

pub returns-in_err-lose_first : goal.returns-in_err-lose_first
returns-in_err-lose_first c start ready =
    let p = err_from_is_err_and c.from_residual.result c.from_residual.ensures.1 in
    cert_refused start c.lose_first.new.enc c.lose_first.new.board.slots.items _ c.lose_first.result c.from_residual.result _ c.in_err-lose_first.was p (c.lose_first.ensures start ready)

pub returns-in_err-all_sets : goal.returns-in_err-all_sets
returns-in_err-all_sets c start ready =
    let p = err_from_is_err_and c.from_residual-in_err-all_sets.result c.from_residual-in_err-all_sets.ensures.1 in
    let f = went start c.lose_first.new.enc c.lose_first.new.board.slots.items _ c.lose_first.result _ c.in_ok-lose_first.was (c.lose_first.ensures start ready) in
    cert_refused start c.all_sets.new.enc c.all_sets.new.board.slots.items _ c.all_sets.result c.from_residual-in_err-all_sets.result _ c.in_err-all_sets.was p (c.all_sets.ensures start f)

pub returns-in_err-covers_initial : goal.returns-in_err-covers_initial
returns-in_err-covers_initial c start ready =
    let p = err_from_is_err_and c.from_residual-in_err-covers_initial.result c.from_residual-in_err-covers_initial.ensures.1 in
    let f = went start c.lose_first.new.enc c.lose_first.new.board.slots.items _ c.lose_first.result _ c.in_ok-lose_first.was (c.lose_first.ensures start ready) in
    let h = went start c.all_sets.new.enc c.all_sets.new.board.slots.items _ c.all_sets.result _ c.in_ok-all_sets.was (c.all_sets.ensures start f) in
    cert_refused start c.covers_initial.new.enc c.all_sets.new.board.slots.items _ c.covers_initial.result c.from_residual-in_err-covers_initial.result _ c.in_err-covers_initial.was p
    (c.covers_initial.ensures.left start h.so_far.lost.rounds.round.at (test_near start c.all_sets.new.enc c.all_sets.new.board.slots.items _ _ h.so_far.lost.rounds.round))
