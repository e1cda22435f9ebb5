-- The slot of where the action can be executed holds that set.
use Rattle.std.proofs.Common.{◌∙◌, ap, subst, sym}
use Rattle.dd_sets.specs.LiveSets.{IsLive, set_of}
use Rattle.preimage.proofs.FrameSteps.{exec_holds}
use Rattle.slot_board.proofs.BoardSlots.{made_at}
use Rattle.reach_plan.proofs.spent.has_all.Goals as goal

pub are_same-requires-clause-a_live : goal.are_same-requires-clause-a_live
are_same-requires-clause-a_live c = let r = c.requires.ready in subst (IsLive c.args.enc.now.sets) (sym c.at-set.ensures) (r.1.working.live c.args.place c.requires.place)

pub are_same-requires-clause-b_live : goal.are_same-requires-clause-b_live
are_same-requires-clause-b_live c =
    let r = c.requires.ready in
    (exec_holds r.0.task c.args.enc.now c.args.a.0 c.exec-exec.result (made_at r.0 c.args.enc.now c.args.board.now.slots.items r.1) c.requires.action c.exec-exec.ensures).live

pub returns : goal.returns
returns c start at is =
    ap (set_of c.args.enc.now.sets) (sym c.at-set.ensures) ∙ c.are_same.ensures is
    ∙ (exec_holds start.task c.args.enc.now c.args.a.0 c.exec-exec.result (made_at start c.args.enc.now c.args.board.now.slots.items at) c.requires.action c.exec-exec.ensures).holds
