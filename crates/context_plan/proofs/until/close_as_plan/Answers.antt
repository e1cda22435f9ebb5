use Rattle.preimage.proofs.FrameSteps.{same_chain}
use Rattle.slot_board.proofs.Endings.{ends_at, ends_full}
use Rattle.context_plan.specs.Scenes.{board_of}
use Rattle.context_plan.proofs.until.close_as_plan.Goals as goal

pub close-requires : goal.close-requires
close-requires c =
    let start = c.requires.ready.0 in
    let chain = c.requires.ready.1 in
    let n = c.requires.ready.2 in
    let h = c.requires.ready.3 in
    let at = ends_at (board_of start) c.write-plan.new.enc c.write-plan.new.board.slots.items _ c.write-plan.result (λ t at. at) (c.write-plan.ensures.left start chain n h) in
    (start.enc.sets, at.working)

pub returns-clause-plan : goal.returns-clause-plan
returns-clause-plan c start chain n h =
    c.write-plan.ensures.plan start chain n h

pub returns-clause-full : goal.returns-clause-full
returns-clause-full c start chain n h full =
    c.close.ensures.room start.enc.sets _ _ _ (ends_full (board_of start) c.write-plan.new.enc c.write-plan.new.board.slots.items _ c.write-plan.result (c.write-plan.ensures.left start chain n h) full)

pub returns-clause-slots : goal.returns-clause-slots
returns-clause-slots c start chain n h =
    let at = ends_at (board_of start) c.write-plan.new.enc c.write-plan.new.board.slots.items _ c.write-plan.result (λ t at. at) (c.write-plan.ensures.left start chain n h) in
    c.close.ensures.frame start.enc.sets at.working

pub returns-clause-same_slots : goal.returns-clause-same_slots
returns-clause-same_slots c start chain n h =
    let at = ends_at (board_of start) c.write-plan.new.enc c.write-plan.new.board.slots.items _ c.write-plan.result (λ t at. at) (c.write-plan.ensures.left start chain n h) in
    same_chain start.enc c.write-plan.new.enc c.close.new.enc at.same c.close.ensures.same_slots
