use Rattle.context_plan.proofs.SizeSteps.{hit_fits}
use Rattle.context_plan.proofs.RoundSteps.{leads_more, leads_all}
use Rattle.context_plan.proofs.NotedSteps.{noted_more}
use Rattle.context_plan.proofs.SpentSteps.{spent_begun}
use Rattle.context_plan.specs.Noted.{LedBy}
use Rattle.context_plan.specs.Scenes.{board_of, states_at}
use Rattle.slot_board.proofs.BoardSlots.{went, passed, made_at, same_actions}
use Rattle.std.proofs.Common.{◌≡◌, ◌∙◌, arith, length, subst, sym}
use Rattle.std.proofs.lemmas.Result.{err_from_is_err_and}
use Rattle.task_core.specs.Tasks.{action_count}
use Rattle.context_plan.proofs.rounds.lead_all.Goals as goal

pub returns-in_err-begin_next : goal.returns-in_err-begin_next
returns-in_err-begin_next c start ready fits marks =
    let p = err_from_is_err_and c.from_residual.result c.from_residual.ensures.1 in
    passed (board_of start) c.begin_next.new.enc c.begin_next.new.board.slots.items _ _ c.begin_next.result c.from_residual.result _ c.in_err-begin_next.was p (c.begin_next.ensures start ready (fits.turned c.args.turning.way 0 (omega arith)))

pub loop-a-init : goal.loop-a-init
loop-a-init c start ready fits marks =
    let l = went (board_of start) c.begin_next.new.enc c.begin_next.new.board.slots.items _ c.begin_next.result _ c.in_ok-begin_next.was (c.begin_next.ensures start ready (fits.turned c.args.turning.way 0 (omega arith))) in
    (l, spent_begun c.args.turning.way start (c.args.enc.now, c.args.board.now.slots.items) (c.begin_next.new.enc, c.begin_next.new.board.slots.items) c.args.spent.now.items l marks, λ set k same led. led)

pub add_hits-requires-clause-long : goal.add_hits-requires-clause-long
add_hits-requires-clause-long c =
    let r = c.requires.ready in
    let inv = c.loop-a.invariant r.0 r.1 r.2 r.3 in
    inv.1.long ∙ sym (made_at (board_of r.0) c.loop-a.enc c.loop-a.board.slots.items inv.0.worked.ready.at).actions

pub add_hits-requires-clause-ready : goal.add_hits-requires-clause-ready
add_hits-requires-clause-ready c = let r = c.requires.ready in (r.0, (c.loop-a.invariant r.0 r.1 r.2 r.3).0.worked.ready, (hit_fits c.args.turning.way r.0 (states_at (c.args.enc.now, c.args.board.now.slots.items) 0) _ _ c.loop-a.a (c.loop-a.invariant r.0 r.1 r.2 r.3).0.near (c.loop-a.invariant r.0 r.1 r.2 r.3).0.next (let e : length c.args.enc.now.actions ≡ action_count r.0.task = (made_at (board_of r.0) c.args.enc.now c.args.board.now.slots.items r.1.at).actions in omega (arith, c.requires.actions)) r.2), (c.loop-a.invariant r.0 r.1 r.2 r.3).1)

pub add_hits-requires-clause-action : goal.add_hits-requires-clause-action
add_hits-requires-clause-action c =
    let r = c.requires.ready in
    let e : length c.loop-a.enc.actions ≡ length c.args.enc.now.actions = same_actions (board_of r.0) c.args.enc.now c.loop-a.enc c.args.board.now.slots.items c.loop-a.board.slots.items r.1.at (c.loop-a.invariant r.0 r.1 r.2 r.3).0.worked.ready.at in
    omega (arith, c.requires.actions)

pub returns-in_err-add_hits : goal.returns-in_err-add_hits
returns-in_err-add_hits c start ready fits marks =
    let p = err_from_is_err_and c.from_residual-in_err-add_hits.result c.from_residual-in_err-add_hits.ensures.1 in
    passed (board_of start) c.add_hits.new.enc c.add_hits.new.board.slots.items _ _ c.add_hits.result c.from_residual-in_err-add_hits.result _ c.in_err-add_hits.was p (c.add_hits.ensures start (c.loop-a.invariant start ready fits marks).0.worked.ready (hit_fits c.args.turning.way start (states_at (c.args.enc.now, c.args.board.now.slots.items) 0) _ _ c.loop-a.a (c.loop-a.invariant start ready fits marks).0.near (c.loop-a.invariant start ready fits marks).0.next (let e : length c.args.enc.now.actions ≡ action_count start.task = (made_at (board_of start) c.args.enc.now c.args.board.now.slots.items ready.at).actions in omega (arith, c.requires.actions)) fits) (c.loop-a.invariant start ready fits marks).1)

pub loop-a-preserved : goal.loop-a-preserved
loop-a-preserved c start ready fits marks =
    let w = went (board_of start) c.add_hits.new.enc c.add_hits.new.board.slots.items _ c.add_hits.result _ c.in_ok-add_hits.was (c.add_hits.ensures start (c.loop-a.invariant start ready fits marks).0.worked.ready (hit_fits c.args.turning.way start (states_at (c.args.enc.now, c.args.board.now.slots.items) 0) _ _ c.loop-a.a (c.loop-a.invariant start ready fits marks).0.near (c.loop-a.invariant start ready fits marks).0.next (let e : length c.args.enc.now.actions ≡ action_count start.task = (made_at (board_of start) c.args.enc.now c.args.board.now.slots.items ready.at).actions in omega (arith, c.requires.actions)) fits) (c.loop-a.invariant start ready fits marks).1) in (
      leads_more c.args.turning.way start (c.args.enc.now, c.args.board.now.slots.items) (c.loop-a.enc, c.loop-a.board.slots.items) (c.add_hits.new.enc, c.add_hits.new.board.slots.items) c.loop-a.a (c.loop-a.invariant start ready fits marks).0 w.0,
      w.1,
      λ set k same led.
          noted_more c.args.turning.way start (c.args.enc.now, c.args.board.now.slots.items) (c.loop-a.enc, c.loop-a.board.slots.items) (record { 0 = c.loop-a.a }) c.loop-a.steps.items c.add_hits.new.steps.items set k
          (let e : length c.args.enc.now.actions ≡ action_count start.task = (made_at (board_of start) c.args.enc.now c.args.board.now.slots.items ready.at).actions in omega (arith, c.requires.actions))
          (c.loop-a.invariant start ready fits marks).0 w.2 same ((c.loop-a.invariant start ready fits marks).2 set k same led),
    )

pub returns : goal.returns
returns c start ready fits marks =
    let e : length c.args.enc.now.actions ≡ action_count start.task = (made_at (board_of start) c.args.enc.now c.args.board.now.slots.items ready.at).actions in
    (leads_all c.args.turning.way start (c.args.enc.now, c.args.board.now.slots.items) (c.loop-a.enc, c.loop-a.board.slots.items) c.loop-a.a (omega (arith, c.requires.actions)) (c.loop-a.invariant start ready fits marks).0, (c.loop-a.invariant start ready fits marks).1, λ set k same led. subst (λ n. LedBy c.args.turning.way start set k n c.loop-a.steps.items) (let f : c.loop-a.a ≡ action_count start.task = omega (arith, e, c.requires.actions) in f) ((c.loop-a.invariant start ready fits marks).2 set k same led))
