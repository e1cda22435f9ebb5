use Rattle.std.proofs.Common.{◌≡◌, ◌+◌, ap, arith, map, suc}
use Rattle.std.proofs.lemmas.Result.{err_from_is_err_and}
use Rattle.slot_board.proofs.BoardSlots.{action_within, passed, went}
use Rattle.slot_board.proofs.Endings.{noted_then}
use Rattle.context_plan.specs.Scenes.{board_of}
use Rattle.plan_rules.specs.Rules.{context_rule_of}
use Rattle.context_plan.proofs.SceneSteps.{low, unguarded}
use Rattle.context_plan.proofs.VisitRules.{taken_listed, taker_within}
use Rattle.context_plan.specs.Chains.{visit_sets}
use Rattle.plan_theory.specs.Patrols.{patrol_set}
use Rattle.context_plan.specs.Scenes.{guarded, sys_of}
use Rattle.context_plan.proofs.patrol_rules.list_taken.Goals as goal

pub put_part-requires : goal.put_part-requires
put_part-requires c =
    let start = c.requires.ready.0 in
    let conds = c.requires.ready.1 in
    let less = c.requires.ready.2 in
    let is_takers = c.requires.ready.3 in
    let h = c.requires.ready.4 in
    let below = (action_within (board_of start) c.args.enc.now c.args.board.now.slots.items c.args.taken.action.0 h.patrol.ready.at c.requires.action) in
    record { ready = (start, conds, c.args.turn.visit, c.args.taken.action.0, c.visit_at.ensures, less, (ap (λ k. k + c.args.taken.action.0) is_takers), below, h) }

pub returns-in_err-put_part : goal.returns-in_err-put_part
returns-in_err-put_part c start conds less is_takers goes h =
    let below = (action_within (board_of start) c.args.enc.now c.args.board.now.slots.items c.args.taken.action.0 h.patrol.ready.at c.requires.action) in
    passed (board_of start) c.put_part.new.enc c.put_part.new.board.slots.items _ _ c.put_part.result c.from_residual.result _ c.in_err-put_part.was (err_from_is_err_and c.from_residual.result c.from_residual.ensures.1) (c.put_part.ensures start conds c.args.turn.visit c.args.taken.action.0 c.visit_at.ensures less (ap (λ k. k + c.args.taken.action.0) is_takers) below h)

pub list_at-requires-clause-ready : goal.list_at-requires-clause-ready
list_at-requires-clause-ready c =
    let start = c.requires.ready.0 in
    let conds = c.requires.ready.1 in
    let less = c.requires.ready.2 in
    let is_takers = c.requires.ready.3 in
    let h = c.requires.ready.4 in
    let below = (action_within (board_of start) c.args.enc.now c.args.board.now.slots.items c.args.taken.action.0 h.patrol.ready.at c.requires.action) in
    let p = went (board_of start) c.put_part.new.enc c.put_part.new.board.slots.items _ c.put_part.result _ c.in_ok-put_part.was (c.put_part.ensures start conds c.args.turn.visit c.args.taken.action.0 c.visit_at.ensures less (ap (λ k. k + c.args.taken.action.0) is_takers) below h) in
    (guarded start (patrol_set (sys_of start) (visit_sets conds)), unguarded (guarded start (patrol_set (sys_of start) (visit_sets conds))) (c.put_part.new.enc, c.put_part.new.board.slots.items) p.table.patrol.ready)

pub list_at-requires-clause-place : goal.list_at-requires-clause-place
list_at-requires-clause-place c =
    let start = c.requires.ready.0 in
    let conds = c.requires.ready.1 in
    let less = c.requires.ready.2 in
    let is_takers = c.requires.ready.3 in
    let h = c.requires.ready.4 in
    let below = (action_within (board_of start) c.args.enc.now c.args.board.now.slots.items c.args.taken.action.0 h.patrol.ready.at c.requires.action) in
    let p = went (board_of start) c.put_part.new.enc c.put_part.new.board.slots.items _ c.put_part.result _ c.in_ok-put_part.was (c.put_part.ensures start conds c.args.turn.visit c.args.taken.action.0 c.visit_at.ensures less (ap (λ k. k + c.args.taken.action.0) is_takers) below h) in
    low start (c.put_part.new.enc, c.put_part.new.board.slots.items) p.table.patrol.ready.at 2 (omega arith)

pub returns : goal.returns
returns c start conds less is_takers goes h =
    let below = (action_within (board_of start) c.args.enc.now c.args.board.now.slots.items c.args.taken.action.0 h.patrol.ready.at c.requires.action) in
    let p = went (board_of start) c.put_part.new.enc c.put_part.new.board.slots.items _ c.put_part.result _ c.in_ok-put_part.was (c.put_part.ensures start conds c.args.turn.visit c.args.taken.action.0 c.visit_at.ensures less (ap (λ k. k + c.args.taken.action.0) is_takers) below h) in
    let next : c.args.turn.visit + 1 ≡ suc c.args.turn.visit = omega arith in
    noted_then (board_of start) c.put_part.new.enc c.put_part.new.board.slots.items _ _ c.list_at.result c.list_at.ensures.never_full
    (c.list_at.ensures.listed (guarded start (patrol_set (sys_of start) (visit_sets conds))) (unguarded (guarded start (patrol_set (sys_of start) (visit_sets conds))) (c.put_part.new.enc, c.put_part.new.board.slots.items) p.table.patrol.ready))
    p.table.patrol.ready.at
    (λ listed. taken_listed start conds (c.put_part.new.enc, c.put_part.new.board.slots.items) c.args.turn.part (map context_rule_of c.args.rules.now.items) (map context_rule_of c.list_at.new.rules.items) c.args.turn.visit c.args.taken.action.0 (c.args.turn.visit + 1) c.args.turn.next next goes p listed)

pub overflow_add-taker : goal.overflow_add-taker
overflow_add-taker c =
    let start = c.requires.ready.0 in
    let conds = c.requires.ready.1 in
    let less = c.requires.ready.2 in
    let is_takers = c.requires.ready.3 in
    let h = c.requires.ready.4 in
    let below = (action_within (board_of start) c.args.enc.now c.args.board.now.slots.items c.args.taken.action.0 h.patrol.ready.at c.requires.action) in
    let w = taker_within start conds (c.args.enc.now, c.args.board.now.slots.items) c.args.turn.visit c.args.taken.action.0 less below h in omega (arith, c.args.board.now.slots.ok.0, is_takers)
