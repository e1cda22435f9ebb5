use Rattle.context_plan.proofs.RuleFits.{action_fits, action_place}
use Rattle.context_plan.proofs.RuleSteps.{action_listed}
use Rattle.context_plan.proofs.SceneSteps.{low, moved_ready}
use Rattle.context_plan.specs.Scenes.{board_of}
use Rattle.plan_rules.specs.Rules.{context_rule_of}
use Rattle.slot_board.proofs.BoardSlots.{action_within, passed, went}
use Rattle.slot_board.proofs.Endings.{noted_then}
use Rattle.std.proofs.Common.{◌≡◌, ◌+◌, ◌<◌, arith, length, map, refl, suc}
use Rattle.std.proofs.lemmas.Result.{err_from_is_err_and}
use Rattle.context_plan.proofs.rules.list_action.Goals as goal

pub combine-requires-clause-working : goal.combine-requires-clause-working
combine-requires-clause-working c =
    let start = c.requires.ready.0 in
    let chain = c.requires.ready.1 in
    let place = c.requires.ready.2 in
    let h = c.requires.ready.3 in
    (board_of start, h.table.takers.ready.at)

pub combine-requires-clause-place : goal.combine-requires-clause-place
combine-requires-clause-place c =
    let start = c.requires.ready.0 in
    let chain = c.requires.ready.1 in
    let place = c.requires.ready.2 in
    let h = c.requires.ready.3 in
    low start (c.args.enc.now, c.args.board.now.slots.items) h.table.takers.ready.at 2 (omega arith)

pub combine-requires-clause-a : goal.combine-requires-clause-a
combine-requires-clause-a c =
    let start = c.requires.ready.0 in
    let chain = c.requires.ready.1 in
    let place = c.requires.ready.2 in
    let h = c.requires.ready.3 in
    low start (c.args.enc.now, c.args.board.now.slots.items) h.table.takers.ready.at 4 (omega arith)

pub combine-requires-clause-b : goal.combine-requires-clause-b
combine-requires-clause-b c =
    let start = c.requires.ready.0 in
    let chain = c.requires.ready.1 in
    let place = c.requires.ready.2 in
    let h = c.requires.ready.3 in
    (action_place start (c.args.enc.now, c.args.board.now.slots.items) chain c.args.advance.stage c.args.advance.next c.args.taken.takers c.args.taken.action.0 place (action_within (board_of start) c.args.enc.now c.args.board.now.slots.items c.args.taken.action.0 h.table.takers.ready.at c.requires.action) h)

pub returns-in_err-combine : goal.returns-in_err-combine
returns-in_err-combine c start chain place h =
    let p = err_from_is_err_and c.from_residual.result c.from_residual.ensures.1 in
    passed (board_of start) c.combine.new.enc c.combine.new.self.slots.items _ _ c.combine.result c.from_residual.result _ c.in_err-combine.was p (c.combine.ensures (board_of start) h.table.takers.ready.at (action_fits start (c.args.enc.now, c.args.board.now.slots.items) chain c.args.advance.stage c.args.advance.next c.args.taken.takers c.args.taken.action.0 place (action_within (board_of start) c.args.enc.now c.args.board.now.slots.items c.args.taken.action.0 h.table.takers.ready.at c.requires.action) h))

pub list_at-requires-clause-ready : goal.list_at-requires-clause-ready
list_at-requires-clause-ready c =
    let start = c.requires.ready.0 in
    let chain = c.requires.ready.1 in
    let place = c.requires.ready.2 in
    let h = c.requires.ready.3 in
    let m = went (board_of start) c.combine.new.enc c.combine.new.self.slots.items _ c.combine.result _ c.in_ok-combine.was (c.combine.ensures (board_of start) h.table.takers.ready.at (action_fits start (c.args.enc.now, c.args.board.now.slots.items) chain c.args.advance.stage c.args.advance.next c.args.taken.takers c.args.taken.action.0 place (action_within (board_of start) c.args.enc.now c.args.board.now.slots.items c.args.taken.action.0 h.table.takers.ready.at c.requires.action) h)) in
    (start, moved_ready start (c.args.enc.now, c.args.board.now.slots.items) (c.combine.new.enc, c.combine.new.self.slots.items) 2 _ m)

pub list_at-requires-clause-place : goal.list_at-requires-clause-place
list_at-requires-clause-place c =
    let start = c.requires.ready.0 in
    let chain = c.requires.ready.1 in
    let place = c.requires.ready.2 in
    let h = c.requires.ready.3 in
    let m = went (board_of start) c.combine.new.enc c.combine.new.self.slots.items _ c.combine.result _ c.in_ok-combine.was (c.combine.ensures (board_of start) h.table.takers.ready.at (action_fits start (c.args.enc.now, c.args.board.now.slots.items) chain c.args.advance.stage c.args.advance.next c.args.taken.takers c.args.taken.action.0 place (action_within (board_of start) c.args.enc.now c.args.board.now.slots.items c.args.taken.action.0 h.table.takers.ready.at c.requires.action) h)) in
    low start (c.combine.new.enc, c.combine.new.self.slots.items) m.at 2 (omega arith)

pub returns : goal.returns
returns c start chain place h =
    let m = went (board_of start) c.combine.new.enc c.combine.new.self.slots.items _ c.combine.result _ c.in_ok-combine.was (c.combine.ensures (board_of start) h.table.takers.ready.at (action_fits start (c.args.enc.now, c.args.board.now.slots.items) chain c.args.advance.stage c.args.advance.next c.args.taken.takers c.args.taken.action.0 place (action_within (board_of start) c.args.enc.now c.args.board.now.slots.items c.args.taken.action.0 h.table.takers.ready.at c.requires.action) h)) in
    let next : c.args.advance.stage + 1 ≡ suc c.args.advance.stage = omega arith in
    let later : c.args.advance.next + 1 ≡ suc c.args.advance.next = omega arith in
    noted_then (board_of start) c.combine.new.enc c.combine.new.self.slots.items _ _ c.list_at.result c.list_at.ensures.never_full
    (c.list_at.ensures.listed start (moved_ready start (c.args.enc.now, c.args.board.now.slots.items) (c.combine.new.enc, c.combine.new.self.slots.items) 2 _ m))
    m.at
    (λ listed. action_listed start (c.args.enc.now, c.args.board.now.slots.items) (c.combine.new.enc, c.combine.new.self.slots.items) chain (map context_rule_of c.args.rules.now.items) (map context_rule_of c.list_at.new.rules.items) c.args.advance.stage c.args.advance.next c.args.taken.takers (c.args.taken.takers + c.args.taken.action.0) c.args.taken.action.0 (c.args.advance.stage + 1) (c.args.advance.next + 1)
    (action_within (board_of start) c.args.enc.now c.args.board.now.slots.items c.args.taken.action.0 h.table.takers.ready.at c.requires.action) place refl next later h m listed)

pub overflow_add-place : goal.overflow_add-place
overflow_add-place c =
    let start = c.requires.ready.0 in
    let chain = c.requires.ready.1 in
    let place = c.requires.ready.2 in
    let h = c.requires.ready.3 in
    let within : c.args.taken.takers + c.args.taken.action.0 < length c.args.board.now.slots.items = (action_place start (c.args.enc.now, c.args.board.now.slots.items) chain c.args.advance.stage c.args.advance.next c.args.taken.takers c.args.taken.action.0 place (action_within (board_of start) c.args.enc.now c.args.board.now.slots.items c.args.taken.action.0 h.table.takers.ready.at c.requires.action) h) in
    omega (arith, c.args.board.now.slots.ok.0)
