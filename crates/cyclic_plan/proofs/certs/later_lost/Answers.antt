use Rattle.slot_board.proofs.BoardSlots.{left_with}
use Rattle.cyclic_plan.proofs.CertSteps.{later_fits, lost_later}
use Rattle.std.proofs.Common.{suc}
use Rattle.cyclic_plan.proofs.certs.later_lost.Goals as goal

pub returns : goal.returns
returns c start r ready =
    let enc = c.args.enc.now in
    let old = c.args.board.now.slots.items in
    left_with start c.combine.new.enc c.combine.new.self.slots.items _ _ c.combine.result
    (λ m. lost_later start enc c.combine.new.enc old c.combine.new.self.slots.items r ready m)
    (c.combine.ensures start ready.round.at (later_fits start enc old (suc r) ready))
