use Rattle.std.proofs.Common.{◌≡◌, arith, length}
use Rattle.std.proofs.lemmas.Result.{err_from_is_err_and}
use Rattle.slot_board.proofs.BoardSlots.{left_with, made_at, passed, same_actions, went}
use Rattle.plan_theory.specs.Patrols.{patrol_set}
use Rattle.task_core.specs.Tasks.{action_count}
use Rattle.context_plan.specs.Chains.{visit_sets}
use Rattle.context_plan.specs.Scenes.{board_of, guarded, sys_of}
use Rattle.context_plan.proofs.SceneSteps.{same_length}
use Rattle.context_plan.proofs.VisitNotes.{visit_follows}
use Rattle.context_plan.proofs.VisitTakers.{first_taken_at, t_high, t_within, visit_climbs_at, visit_mets, visit_shares_at, visit_taken_at}
use Rattle.context_plan.proofs.visits.take_visit.Goals as goal

pub take_first-requires-clause-ready : goal.take_first-requires-clause-ready
take_first-requires-clause-ready c =
    let start = c.requires.ready.0 in
    let conds = c.requires.ready.1 in
    let i = c.requires.ready.2 in
    let near = c.requires.ready.3 in
    let rest = c.requires.ready.4 in
    let takers = c.requires.ready.5 in
    let less = c.requires.ready.6 in
    let h = c.requires.ready.7 in
    let covered = c.requires.ready.8 in
    let follows = c.requires.ready.9 in
    let shares = visit_shares_at start conds (c.args.enc.now, c.args.board.now.slots.items) i c.args.at.near c.args.at.rest c.args.at.takers near rest takers less h covered in
    ((guarded start (patrol_set (sys_of start) (visit_sets conds))), h.ready, shares)

pub take_first-requires-clause-places : goal.take_first-requires-clause-places
take_first-requires-clause-places c =
    let start = c.requires.ready.0 in
    let conds = c.requires.ready.1 in
    let i = c.requires.ready.2 in
    let near = c.requires.ready.3 in
    let rest = c.requires.ready.4 in
    let takers = c.requires.ready.5 in
    let less = c.requires.ready.6 in
    let h = c.requires.ready.7 in
    let covered = c.requires.ready.8 in
    let follows = c.requires.ready.9 in
    let acts : length c.args.enc.now.actions ≡ action_count start.task = (made_at (board_of start) c.args.enc.now c.args.board.now.slots.items h.ready.at).actions in
    let w = t_within start conds (c.args.enc.now, c.args.board.now.slots.items) i less h in
    omega (arith, takers, c.requires.actions)

pub take_first-requires-clause-near : goal.take_first-requires-clause-near
take_first-requires-clause-near c = let near = c.requires.ready.3 in omega (arith, near)

pub take_first-requires-clause-rest : goal.take_first-requires-clause-rest
take_first-requires-clause-rest c = let rest = c.requires.ready.4 in omega (arith, rest)

pub take_first-requires-clause-apart : goal.take_first-requires-clause-apart
take_first-requires-clause-apart c =
    let start = c.requires.ready.0 in
    let conds = c.requires.ready.1 in
    let i = c.requires.ready.2 in
    let near = c.requires.ready.3 in
    let rest = c.requires.ready.4 in
    let takers = c.requires.ready.5 in
    let less = c.requires.ready.6 in
    let h = c.requires.ready.7 in
    let covered = c.requires.ready.8 in
    let follows = c.requires.ready.9 in
    let w = t_high start conds (c.args.enc.now, c.args.board.now.slots.items) i less h in
    (omega (arith, near, takers), omega (arith, rest, takers))

pub returns-in_err-take_first : goal.returns-in_err-take_first
returns-in_err-take_first c start conds i near rest takers less h covered follows =
    let shares = visit_shares_at start conds (c.args.enc.now, c.args.board.now.slots.items) i c.args.at.near c.args.at.rest c.args.at.takers near rest takers less h covered in
    passed (board_of start) c.take_first.new.enc c.take_first.new.board.slots.items _ _ c.take_first.result c.from_residual.result _ c.in_err-take_first.was (err_from_is_err_and c.from_residual.result c.from_residual.ensures.1) (c.take_first.ensures (guarded start (patrol_set (sys_of start) (visit_sets conds))) h.ready shares)

pub climb-requires-clause-ready : goal.climb-requires-clause-ready
climb-requires-clause-ready c =
    let start = c.requires.ready.0 in
    let conds = c.requires.ready.1 in
    let i = c.requires.ready.2 in
    let near = c.requires.ready.3 in
    let rest = c.requires.ready.4 in
    let takers = c.requires.ready.5 in
    let less = c.requires.ready.6 in
    let h = c.requires.ready.7 in
    let covered = c.requires.ready.8 in
    let follows = c.requires.ready.9 in
    let shares = visit_shares_at start conds (c.args.enc.now, c.args.board.now.slots.items) i c.args.at.near c.args.at.rest c.args.at.takers near rest takers less h covered in
    let m = went (board_of start) c.take_first.new.enc c.take_first.new.board.slots.items _ c.take_first.result _ c.in_ok-take_first.was (c.take_first.ensures (guarded start (patrol_set (sys_of start) (visit_sets conds))) h.ready shares) in
    let first = first_taken_at start conds (c.args.enc.now, c.args.board.now.slots.items) (c.take_first.new.enc, c.take_first.new.board.slots.items) i c.args.at.near c.args.at.rest c.args.at.takers near rest takers m in
    let climbs = visit_climbs_at start conds (c.args.enc.now, c.args.board.now.slots.items) (c.take_first.new.enc, c.take_first.new.board.slots.items) i c.args.at.rest c.args.at.takers rest takers less h first covered in
    let followed = visit_follows start conds (c.take_first.new.enc, c.take_first.new.board.slots.items) i c.args.at.rest c.args.steps.now rest (visit_mets start conds (c.args.enc.now, c.args.board.now.slots.items) (c.take_first.new.enc, c.take_first.new.board.slots.items) i less h first) follows in
    ((guarded start (patrol_set (sys_of start) (visit_sets conds))), first.changed.ready, climbs, followed)

pub climb-requires-clause-places : goal.climb-requires-clause-places
climb-requires-clause-places c =
    let start = c.requires.ready.0 in
    let conds = c.requires.ready.1 in
    let i = c.requires.ready.2 in
    let near = c.requires.ready.3 in
    let rest = c.requires.ready.4 in
    let takers = c.requires.ready.5 in
    let less = c.requires.ready.6 in
    let h = c.requires.ready.7 in
    let covered = c.requires.ready.8 in
    let follows = c.requires.ready.9 in
    let shares = visit_shares_at start conds (c.args.enc.now, c.args.board.now.slots.items) i c.args.at.near c.args.at.rest c.args.at.takers near rest takers less h covered in
    let m = went (board_of start) c.take_first.new.enc c.take_first.new.board.slots.items _ c.take_first.result _ c.in_ok-take_first.was (c.take_first.ensures (guarded start (patrol_set (sys_of start) (visit_sets conds))) h.ready shares) in
    let acts : length c.args.enc.now.actions ≡ action_count start.task = (made_at (board_of start) c.args.enc.now c.args.board.now.slots.items h.ready.at).actions in
    let same : length c.take_first.new.enc.actions ≡ length c.args.enc.now.actions = same_actions (board_of start) c.args.enc.now c.take_first.new.enc c.args.board.now.slots.items c.take_first.new.board.slots.items h.ready.at m.changed.ready.at in
    let e : length c.take_first.new.board.slots.items ≡ length c.args.board.now.slots.items = same_length start (c.args.enc.now, c.args.board.now.slots.items) (c.take_first.new.enc, c.take_first.new.board.slots.items) h.ready.at m.changed.ready.at in
    let w = t_within start conds (c.args.enc.now, c.args.board.now.slots.items) i less h in
    omega (arith, takers, c.requires.actions)

pub climb-requires-clause-met : goal.climb-requires-clause-met
climb-requires-clause-met c = let rest = c.requires.ready.4 in omega (arith, rest)

pub climb-requires-clause-apart : goal.climb-requires-clause-apart
climb-requires-clause-apart c =
    let start = c.requires.ready.0 in
    let conds = c.requires.ready.1 in
    let i = c.requires.ready.2 in
    let near = c.requires.ready.3 in
    let rest = c.requires.ready.4 in
    let takers = c.requires.ready.5 in
    let less = c.requires.ready.6 in
    let h = c.requires.ready.7 in
    let covered = c.requires.ready.8 in
    let follows = c.requires.ready.9 in
    let w = t_high start conds (c.args.enc.now, c.args.board.now.slots.items) i less h in
    omega (arith, rest, takers)

pub returns : goal.returns
returns c start conds i near rest takers less h covered follows =
    let shares = visit_shares_at start conds (c.args.enc.now, c.args.board.now.slots.items) i c.args.at.near c.args.at.rest c.args.at.takers near rest takers less h covered in
    let m = went (board_of start) c.take_first.new.enc c.take_first.new.board.slots.items _ c.take_first.result _ c.in_ok-take_first.was (c.take_first.ensures (guarded start (patrol_set (sys_of start) (visit_sets conds))) h.ready shares) in
    let first = first_taken_at start conds (c.args.enc.now, c.args.board.now.slots.items) (c.take_first.new.enc, c.take_first.new.board.slots.items) i c.args.at.near c.args.at.rest c.args.at.takers near rest takers m in
    let climbs = visit_climbs_at start conds (c.args.enc.now, c.args.board.now.slots.items) (c.take_first.new.enc, c.take_first.new.board.slots.items) i c.args.at.rest c.args.at.takers rest takers less h first covered in
    let followed = visit_follows start conds (c.take_first.new.enc, c.take_first.new.board.slots.items) i c.args.at.rest c.args.steps.now rest (visit_mets start conds (c.args.enc.now, c.args.board.now.slots.items) (c.take_first.new.enc, c.take_first.new.board.slots.items) i less h first) follows in
    left_with (board_of start) c.climb.new.enc c.climb.new.board.slots.items _ _ c.climb.result
    (λ z. visit_taken_at start conds (c.args.enc.now, c.args.board.now.slots.items) (c.take_first.new.enc, c.take_first.new.board.slots.items) (c.climb.new.enc, c.climb.new.board.slots.items) i c.args.at.rest c.args.at.takers rest takers less h first z)
    (c.climb.ensures (guarded start (patrol_set (sys_of start) (visit_sets conds))) first.changed.ready climbs followed)
