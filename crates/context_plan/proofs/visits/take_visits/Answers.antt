use Rattle.std.proofs.Common.{◌≡◌, ◌∙◌, ◌+◌, ◌<◌, ap, arith, length, refl, subst, suc, sym}
use Rattle.std.proofs.lemmas.Result.{err_from_is_err_and}
use Rattle.slot_board.proofs.BoardSlots.{made_at, passed, same_actions, went}
use Rattle.task_core.specs.Tasks.{action_count}
use Rattle.context_plan.proofs.VisitNotes.{followed_at}
use Rattle.context_plan.specs.PatrolSteps.{HasPatrol}
use Rattle.context_plan.specs.Scenes.{board_of, takers_place}
use Rattle.context_plan.proofs.visits.take_visits.Goals as goal

pub take_visit-requires-clause-ready : goal.take_visit-requires-clause-ready
take_visit-requires-clause-ready c =
    let start = c.requires.ready.0 in
    let conds = c.requires.ready.1 in
    let n = c.requires.ready.2 in
    let h = c.requires.ready.3 in
    let covered = c.requires.ready.4 in
    let noted = c.requires.ready.5 in
    let inv = c.loop-i.invariant start conds n h covered noted in
    let acts = (made_at (board_of start) c.args.enc.now c.args.board.now.slots.items h.ready.at).actions in
    let place = c.takers_at.ensures ∙ ap (λ k. takers_place k c.args.patrol.visits c.loop-i.i) (c.requires.actions ∙ acts) ∙ ap (λ k. takers_place (action_count start.task) k c.loop-i.i) (sym n) in
    let less = (let l : c.loop-i.i < start.stages = omega (arith, n) in l) in
    let followed = followed_at start conds c.loop-i.i c.steps_of.result.now c.args.notes.now c.steps_of.ensures (let l = inv.count in omega arith) noted in
    (start, conds, c.loop-i.i, refl, c.visit_at.ensures, place, less, inv, covered, followed)

pub take_visit-requires-clause-actions : goal.take_visit-requires-clause-actions
take_visit-requires-clause-actions c =
    let start = c.requires.ready.0 in
    let conds = c.requires.ready.1 in
    let n = c.requires.ready.2 in
    let h = c.requires.ready.3 in
    let covered = c.requires.ready.4 in
    let noted = c.requires.ready.5 in
    let inv = c.loop-i.invariant start conds n h covered noted in
    let e : length c.loop-i.enc.actions ≡ length c.args.enc.now.actions = same_actions (board_of start) c.args.enc.now c.loop-i.enc c.args.board.now.slots.items c.loop-i.board.slots.items h.ready.at inv.ready.at in omega (arith, c.requires.actions)

pub returns-in_err-take_visit : goal.returns-in_err-take_visit
returns-in_err-take_visit c start conds n h covered noted =
    let inv = c.loop-i.invariant start conds n h covered noted in
    let acts = (made_at (board_of start) c.args.enc.now c.args.board.now.slots.items h.ready.at).actions in
    let place = c.takers_at.ensures ∙ ap (λ k. takers_place k c.args.patrol.visits c.loop-i.i) (c.requires.actions ∙ acts) ∙ ap (λ k. takers_place (action_count start.task) k c.loop-i.i) (sym n) in
    let less = (let l : c.loop-i.i < start.stages = omega (arith, n) in l) in
    let followed = followed_at start conds c.loop-i.i c.steps_of.result.now c.args.notes.now c.steps_of.ensures (let l = inv.count in omega arith) noted in
    passed (board_of start) c.take_visit.new.enc c.take_visit.new.board.slots.items _ _ c.take_visit.result c.from_residual.result _ c.in_err-take_visit.was (err_from_is_err_and c.from_residual.result c.from_residual.ensures.1) (c.take_visit.ensures start conds c.loop-i.i refl c.visit_at.ensures place less inv covered followed)

pub loop-i-preserved : goal.loop-i-preserved
loop-i-preserved c start conds n h covered noted =
    let inv = c.loop-i.invariant start conds n h covered noted in
    let acts = (made_at (board_of start) c.args.enc.now c.args.board.now.slots.items h.ready.at).actions in
    let place = c.takers_at.ensures ∙ ap (λ k. takers_place k c.args.patrol.visits c.loop-i.i) (c.requires.actions ∙ acts) ∙ ap (λ k. takers_place (action_count start.task) k c.loop-i.i) (sym n) in
    let less = (let l : c.loop-i.i < start.stages = omega (arith, n) in l) in
    let followed = followed_at start conds c.loop-i.i c.steps_of.result.now c.args.notes.now c.steps_of.ensures (let l = inv.count in omega arith) noted in
    subst (HasPatrol start conds (c.take_visit.new.enc, c.take_visit.new.board.slots.items)) (let e : suc c.loop-i.i ≡ c.loop-i.i + 1 = omega arith in e) (went (board_of start) c.take_visit.new.enc c.take_visit.new.board.slots.items _ c.take_visit.result _ c.in_ok-take_visit.was (c.take_visit.ensures start conds c.loop-i.i refl c.visit_at.ensures place less inv covered followed))

pub returns : goal.returns
returns c start conds n h covered noted =
    let inv = c.loop-i.invariant start conds n h covered noted in
    subst (HasPatrol start conds (c.loop-i.enc, c.loop-i.board.slots.items)) (let e : c.loop-i.i ≡ start.stages = omega (arith, n) in e) inv

pub steps_of-requires : goal.steps_of-requires
steps_of-requires c =
    let start = c.requires.ready.0 in
    let n = c.requires.ready.2 in
    let h = c.requires.ready.3 in
    let noted = c.requires.ready.5 in
    let e = noted.0 in
    let l = h.count in
    omega (arith, n)
