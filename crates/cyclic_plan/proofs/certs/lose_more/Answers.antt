use Rattle.std.proofs.lemmas.Result.{err_from_is_err_and}
use Rattle.slot_board.proofs.BoardSlots.{passed, went}
use Rattle.cyclic_plan.proofs.certs.lose_more.Goals as goal

pub next_round-requires-clause-ready : goal.next_round-requires-clause-ready
next_round-requires-clause-ready c = let r = c.requires.ready in (r.0, r.1, r.2.rounds)

pub later_lost-requires : goal.later_lost-requires
later_lost-requires c =
    let r = c.requires.ready in
    record { ready = (r.0, r.1, (went r.0 c.next_round.new.enc c.next_round.new.board.slots.items _ c.next_round.result _ c.in_ok-next_round.was (c.next_round.ensures r.0 r.1 r.2.rounds)).0) }

pub returns : goal.returns
returns c start r ready =
    c.later_lost.ensures start r
    (went start c.next_round.new.enc c.next_round.new.board.slots.items _ c.next_round.result _ c.in_ok-next_round.was (c.next_round.ensures start r ready.rounds)).0

pub returns-in_err-next_round : goal.returns-in_err-next_round
returns-in_err-next_round c start r ready =
    let p = err_from_is_err_and c.from_residual.result c.from_residual.ensures.1 in
    passed start c.next_round.new.enc c.next_round.new.board.slots.items _ _ c.next_round.result c.from_residual.result _ c.in_err-next_round.was p (c.next_round.ensures start r ready.rounds)
