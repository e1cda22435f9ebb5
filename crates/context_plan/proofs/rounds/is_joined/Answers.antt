use Rattle.context_plan.proofs.SizeSteps.{exec_fits, exec_meet_fits}
use Rattle.context_plan.proofs.SceneSteps.{low}
use Rattle.context_plan.proofs.SkipSteps.{leads_among, moved_hits}
use Rattle.context_plan.specs.Scenes.{board_of}
use Rattle.preimage.proofs.FrameSteps.{exec_holds}
use Rattle.slot_board.proofs.BoardSlots.{made_at, passed, went}
use Rattle.std.proofs.Common.{arith}
use Rattle.std.proofs.lemmas.Result.{err_from_is_err_and}
use Rattle.context_plan.proofs.rounds.is_joined.Goals as goal

pub copy-requires-clause-working : goal.copy-requires-clause-working
copy-requires-clause-working c = (board_of c.requires.ready.0, c.requires.ready.1.at)

pub copy-requires-clause-place : goal.copy-requires-clause-place
copy-requires-clause-place c = low c.requires.ready.0 (c.args.enc.now, c.args.board.now.slots.items) c.requires.ready.1.at 2 (omega arith)

pub copy-requires-clause-live : goal.copy-requires-clause-live
copy-requires-clause-live c =
    let start = c.requires.ready.0 in
    (exec_holds start.task c.args.enc.now c.args.a.0 c.exec-executable.result (made_at (board_of start) c.args.enc.now c.args.board.now.slots.items c.requires.ready.1.at) c.requires.action c.exec-executable.ensures).live

pub returns-in_err-copy-clause-left : goal.returns-in_err-copy-clause-left
returns-in_err-copy-clause-left c start ready fits =
    let p = err_from_is_err_and c.from_residual.result c.from_residual.ensures.1 in
    passed (board_of start) c.copy.new.enc c.copy.new.self.slots.items _ _ c.copy.result c.from_residual.result _ c.in_err-copy.was p (c.copy.ensures (board_of start) ready.at (exec_fits start (c.args.enc.now, c.args.board.now.slots.items) c.args.a.0 c.exec-executable.result ready c.requires.action c.exec-executable.ensures fits))

pub combine-requires-clause-working : goal.combine-requires-clause-working
combine-requires-clause-working c =
    let start = c.requires.ready.0 in
    let m = went (board_of start) c.copy.new.enc c.copy.new.self.slots.items _ c.copy.result _ c.in_ok-copy.was (c.copy.ensures (board_of start) c.requires.ready.1.at (exec_fits start (c.args.enc.now, c.args.board.now.slots.items) c.args.a.0 c.exec-executable.result c.requires.ready.1 c.requires.action c.exec-executable.ensures c.requires.ready.2)) in
    (board_of start, m.at)

pub combine-requires-clause-place : goal.combine-requires-clause-place
combine-requires-clause-place c =
    let start = c.requires.ready.0 in
    let m = went (board_of start) c.copy.new.enc c.copy.new.self.slots.items _ c.copy.result _ c.in_ok-copy.was (c.copy.ensures (board_of start) c.requires.ready.1.at (exec_fits start (c.args.enc.now, c.args.board.now.slots.items) c.args.a.0 c.exec-executable.result c.requires.ready.1 c.requires.action c.exec-executable.ensures c.requires.ready.2)) in
    low start (c.copy.new.enc, c.copy.new.self.slots.items) m.at 4 (omega arith)

pub combine-requires-clause-a : goal.combine-requires-clause-a
combine-requires-clause-a c =
    let start = c.requires.ready.0 in
    let m = went (board_of start) c.copy.new.enc c.copy.new.self.slots.items _ c.copy.result _ c.in_ok-copy.was (c.copy.ensures (board_of start) c.requires.ready.1.at (exec_fits start (c.args.enc.now, c.args.board.now.slots.items) c.args.a.0 c.exec-executable.result c.requires.ready.1 c.requires.action c.exec-executable.ensures c.requires.ready.2)) in
    low start (c.copy.new.enc, c.copy.new.self.slots.items) m.at 2 (omega arith)

pub combine-requires-clause-b : goal.combine-requires-clause-b
combine-requires-clause-b c =
    let start = c.requires.ready.0 in
    let m = went (board_of start) c.copy.new.enc c.copy.new.self.slots.items _ c.copy.result _ c.in_ok-copy.was (c.copy.ensures (board_of start) c.requires.ready.1.at (exec_fits start (c.args.enc.now, c.args.board.now.slots.items) c.args.a.0 c.exec-executable.result c.requires.ready.1 c.requires.action c.exec-executable.ensures c.requires.ready.2)) in
    low start (c.copy.new.enc, c.copy.new.self.slots.items) m.at 1 (omega arith)

pub returns-in_err-combine-clause-left : goal.returns-in_err-combine-clause-left
returns-in_err-combine-clause-left c start ready fits =
    let p = err_from_is_err_and c.from_residual-in_err-combine.result c.from_residual-in_err-combine.ensures.1 in
    let m = went (board_of start) c.copy.new.enc c.copy.new.self.slots.items _ c.copy.result _ c.in_ok-copy.was (c.copy.ensures (board_of start) ready.at (exec_fits start (c.args.enc.now, c.args.board.now.slots.items) c.args.a.0 c.exec-executable.result ready c.requires.action c.exec-executable.ensures fits)) in
    passed (board_of start) c.combine.new.enc c.combine.new.self.slots.items _ _ c.combine.result c.from_residual-in_err-combine.result _ c.in_err-combine.was p (c.combine.ensures (board_of start) m.at (exec_meet_fits start (c.args.enc.now, c.args.board.now.slots.items) (c.copy.new.enc, c.copy.new.self.slots.items) c.args.a.0 c.exec-executable.result ready c.requires.action c.exec-executable.ensures m fits))

pub is_same-requires-clause-working : goal.is_same-requires-clause-working
is_same-requires-clause-working c =
    let start = c.requires.ready.0 in
    let m = went (board_of start) c.copy.new.enc c.copy.new.self.slots.items _ c.copy.result _ c.in_ok-copy.was (c.copy.ensures (board_of start) c.requires.ready.1.at (exec_fits start (c.args.enc.now, c.args.board.now.slots.items) c.args.a.0 c.exec-executable.result c.requires.ready.1 c.requires.action c.exec-executable.ensures c.requires.ready.2)) in
    let n = went (board_of start) c.combine.new.enc c.combine.new.self.slots.items _ c.combine.result _ c.in_ok-combine.was (c.combine.ensures (board_of start) m.at (exec_meet_fits start (c.args.enc.now, c.args.board.now.slots.items) (c.copy.new.enc, c.copy.new.self.slots.items) c.args.a.0 c.exec-executable.result c.requires.ready.1 c.requires.action c.exec-executable.ensures m c.requires.ready.2)) in
    (board_of start, n.at)

pub is_same-requires-clause-a : goal.is_same-requires-clause-a
is_same-requires-clause-a c =
    let start = c.requires.ready.0 in
    let m = went (board_of start) c.copy.new.enc c.copy.new.self.slots.items _ c.copy.result _ c.in_ok-copy.was (c.copy.ensures (board_of start) c.requires.ready.1.at (exec_fits start (c.args.enc.now, c.args.board.now.slots.items) c.args.a.0 c.exec-executable.result c.requires.ready.1 c.requires.action c.exec-executable.ensures c.requires.ready.2)) in
    let n = went (board_of start) c.combine.new.enc c.combine.new.self.slots.items _ c.combine.result _ c.in_ok-combine.was (c.combine.ensures (board_of start) m.at (exec_meet_fits start (c.args.enc.now, c.args.board.now.slots.items) (c.copy.new.enc, c.copy.new.self.slots.items) c.args.a.0 c.exec-executable.result c.requires.ready.1 c.requires.action c.exec-executable.ensures m c.requires.ready.2)) in
    low start (c.combine.new.enc, c.combine.new.self.slots.items) n.at 4 (omega arith)

pub is_same-requires-clause-b : goal.is_same-requires-clause-b
is_same-requires-clause-b c =
    let start = c.requires.ready.0 in
    let m = went (board_of start) c.copy.new.enc c.copy.new.self.slots.items _ c.copy.result _ c.in_ok-copy.was (c.copy.ensures (board_of start) c.requires.ready.1.at (exec_fits start (c.args.enc.now, c.args.board.now.slots.items) c.args.a.0 c.exec-executable.result c.requires.ready.1 c.requires.action c.exec-executable.ensures c.requires.ready.2)) in
    let n = went (board_of start) c.combine.new.enc c.combine.new.self.slots.items _ c.combine.result _ c.in_ok-combine.was (c.combine.ensures (board_of start) m.at (exec_meet_fits start (c.args.enc.now, c.args.board.now.slots.items) (c.copy.new.enc, c.copy.new.self.slots.items) c.args.a.0 c.exec-executable.result c.requires.ready.1 c.requires.action c.exec-executable.ensures m c.requires.ready.2)) in
    low start (c.combine.new.enc, c.combine.new.self.slots.items) n.at 2 (omega arith)

pub returns-clause-left : goal.returns-clause-left
returns-clause-left c start ready fits =
    let m = went (board_of start) c.copy.new.enc c.copy.new.self.slots.items _ c.copy.result _ c.in_ok-copy.was (c.copy.ensures (board_of start) ready.at (exec_fits start (c.args.enc.now, c.args.board.now.slots.items) c.args.a.0 c.exec-executable.result ready c.requires.action c.exec-executable.ensures fits)) in
    let n = went (board_of start) c.combine.new.enc c.combine.new.self.slots.items _ c.combine.result _ c.in_ok-combine.was (c.combine.ensures (board_of start) m.at (exec_meet_fits start (c.args.enc.now, c.args.board.now.slots.items) (c.copy.new.enc, c.copy.new.self.slots.items) c.args.a.0 c.exec-executable.result ready c.requires.action c.exec-executable.ensures m fits)) in
    moved_hits start (c.args.enc.now, c.args.board.now.slots.items) (c.copy.new.enc, c.copy.new.self.slots.items) (c.combine.new.enc, c.combine.new.self.slots.items) _ _ ready m n

pub returns-clause-joined : goal.returns-clause-joined
returns-clause-joined c start ready fits joined =
    let m = went (board_of start) c.copy.new.enc c.copy.new.self.slots.items _ c.copy.result _ c.in_ok-copy.was (c.copy.ensures (board_of start) ready.at (exec_fits start (c.args.enc.now, c.args.board.now.slots.items) c.args.a.0 c.exec-executable.result ready c.requires.action c.exec-executable.ensures fits)) in
    let n = went (board_of start) c.combine.new.enc c.combine.new.self.slots.items _ c.combine.result _ c.in_ok-combine.was (c.combine.ensures (board_of start) m.at (exec_meet_fits start (c.args.enc.now, c.args.board.now.slots.items) (c.copy.new.enc, c.copy.new.self.slots.items) c.args.a.0 c.exec-executable.result ready c.requires.action c.exec-executable.ensures m fits)) in
    leads_among start (c.args.enc.now, c.args.board.now.slots.items) (c.copy.new.enc, c.copy.new.self.slots.items) (c.combine.new.enc, c.combine.new.self.slots.items) c.args.a.0 c.exec-executable.result ready c.requires.action c.exec-executable.ensures m n (c.is_same.ensures.0 joined)
