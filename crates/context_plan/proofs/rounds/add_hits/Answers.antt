use Rattle.context_plan.proofs.SizeSteps.{hits_after}
use Rattle.context_plan.proofs.SkipSteps.{adds_after, adds_same}
use Rattle.context_plan.proofs.NotedSteps.{noted_after}
use Rattle.context_plan.proofs.SpentSteps.{adds_spent, hits_spent}
use Rattle.context_plan.specs.Scenes.{board_of}
use Rattle.slot_board.proofs.BoardSlots.{left_with, passed, same_actions, went}
use Rattle.std.proofs.Common.{◌≡◌, arith, inr, length, refl}
use Rattle.std.proofs.lemmas.Result.{err_from_is_err_and}
use Rattle.context_plan.proofs.rounds.add_hits.Goals as goal

pub returns-in_err-adds_none : goal.returns-in_err-adds_none
returns-in_err-adds_none c start ready fits marks =
    let p = err_from_is_err_and c.from_residual.result c.from_residual.ensures.1 in
    passed (board_of start) c.adds_none.new.enc c.adds_none.new.board.slots.items _ _ c.adds_none.result c.from_residual.result _ c.in_err-adds_none.was p (c.adds_none.ensures.left start ready fits.lead.exec)

pub returns-then-branch : goal.returns-then-branch
returns-then-branch c start ready fits marks =
    let o = went (board_of start) c.adds_none.new.enc c.adds_none.new.board.slots.items _ c.adds_none.result _ c.in_ok-adds_none.was (c.adds_none.ensures.left start ready fits.lead.exec) in
    let among = c.in_ok-adds_none.ensures.none start ready fits.lead.exec marks (let t = c.if-branch.true in cc) in (
      adds_same c.args.leading.way start (c.args.enc.now, c.args.board.now.slots.items) (c.adds_none.new.enc, c.adds_none.new.board.slots.items) c.args.leading.action.0 o among,
      hits_spent c.args.leading.way start (c.args.enc.now, c.args.board.now.slots.items) (c.adds_none.new.enc, c.adds_none.new.board.slots.items) c.adds_none.new.spent.items o (c.in_ok-adds_none.ensures.spent start ready fits.lead.exec marks),
      inr (refl, among),
    )

pub join_hits-requires-clause-ready : goal.join_hits-requires-clause-ready
join_hits-requires-clause-ready c =
    let start = c.requires.ready.0 in
    let o = went (board_of start) c.adds_none.new.enc c.adds_none.new.board.slots.items _ c.adds_none.result _ c.in_ok-adds_none.was (c.adds_none.ensures.left start c.requires.ready.1 c.requires.ready.2.lead.exec) in
    (start, o.ready, (hits_after c.args.leading.way start (c.args.enc.now, c.args.board.now.slots.items) (c.adds_none.new.enc, c.adds_none.new.board.slots.items) c.args.leading.action.0 o c.requires.ready.2))

pub join_hits-requires-clause-action : goal.join_hits-requires-clause-action
join_hits-requires-clause-action c =
    let start = c.requires.ready.0 in
    let o = went (board_of start) c.adds_none.new.enc c.adds_none.new.board.slots.items _ c.adds_none.result _ c.in_ok-adds_none.was (c.adds_none.ensures.left start c.requires.ready.1 c.requires.ready.2.lead.exec) in
    let e : length c.adds_none.new.enc.actions ≡ length c.args.enc.now.actions = same_actions (board_of start) c.args.enc.now c.adds_none.new.enc c.args.board.now.slots.items c.adds_none.new.board.slots.items c.requires.ready.1.at o.ready.at in
    omega (arith, c.requires.action)

pub returns : goal.returns
returns c start ready fits marks =
    let o = went (board_of start) c.adds_none.new.enc c.adds_none.new.board.slots.items _ c.adds_none.result _ c.in_ok-adds_none.was (c.adds_none.ensures.left start ready fits.lead.exec) in
    left_with (board_of start) c.join_hits.new.enc c.join_hits.new.board.slots.items _ _ c.join_hits.result
    (λ adds. (
      adds_after c.args.leading.way start (c.args.enc.now, c.args.board.now.slots.items) (c.adds_none.new.enc, c.adds_none.new.board.slots.items) (c.join_hits.new.enc, c.join_hits.new.board.slots.items) c.args.leading.action.0 o adds.0,
      adds_spent c.args.leading.way start (c.adds_none.new.enc, c.adds_none.new.board.slots.items) (c.join_hits.new.enc, c.join_hits.new.board.slots.items) c.args.leading.action.0 c.adds_none.new.spent.items adds.0
          (hits_spent c.args.leading.way start (c.args.enc.now, c.args.board.now.slots.items) (c.adds_none.new.enc, c.adds_none.new.board.slots.items) c.adds_none.new.spent.items o (c.in_ok-adds_none.ensures.spent start ready fits.lead.exec marks)),
      noted_after c.args.leading.way start (c.args.enc.now, c.args.board.now.slots.items) (c.adds_none.new.enc, c.adds_none.new.board.slots.items) c.args.leading.action c.args.steps.now.items c.join_hits.new.steps.items o adds.1,
    ))
    (c.join_hits.ensures start o.ready (hits_after c.args.leading.way start (c.args.enc.now, c.args.board.now.slots.items) (c.adds_none.new.enc, c.adds_none.new.board.slots.items) c.args.leading.action.0 o fits))

pub adds_none-requires-clause-ready : goal.adds_none-requires-clause-ready
adds_none-requires-clause-ready c = (c.requires.ready.0, c.requires.ready.1, c.requires.ready.2.lead.exec, c.requires.ready.3)
