-- What is new first, then the place with it.
use Rattle.std.proofs.Common.{◌≡◌, arith, length}
use Rattle.std.proofs.lemmas.Result.{err_from_is_err_and}
use Rattle.slot_board.proofs.BoardSlots.{left_with, passed, went}
use Rattle.reach_plan.proofs.PlaceFits.{new_fits, taken_fits}
use Rattle.reach_plan.proofs.SearchSteps.{take_one}
use Rattle.reach_plan.proofs.retrace.take.Goals as goal

pub combine-requires-clause-working : goal.combine-requires-clause-working
combine-requires-clause-working c = let r = c.requires.ready in (r.0, r.5.by_next.by_layer.at)

pub returns-in_err-combine : goal.returns-in_err-combine
returns-in_err-combine c start f h g hits ready may =
    let p = err_from_is_err_and c.from_residual.result c.from_residual.ensures.1 in
    passed start c.combine.new.enc c.combine.new.self.slots.items _ _ c.combine.result c.from_residual.result _ c.in_err-combine.was p (c.combine.ensures start ready.by_next.by_layer.at (new_fits start c.args.enc.now c.args.board.now.slots.items c.args.takers c.args.a.0 f h g hits ready may))

pub combine-requires-2-clause-working : goal.combine-requires-2-clause-working
combine-requires-2-clause-working c =
    let r = c.requires.ready in
    (r.0, (went r.0 c.combine.new.enc c.combine.new.self.slots.items _ c.combine.result _ c.in_ok-combine.was (c.combine.ensures r.0 r.5.by_next.by_layer.at (new_fits r.0 c.args.enc.now c.args.board.now.slots.items c.args.takers c.args.a.0 r.1 r.2 r.3 r.4 r.5 r.6))).at)

pub returns : goal.returns
returns c start f h g hits ready may =
    let m = went start c.combine.new.enc c.combine.new.self.slots.items _ c.combine.result _ c.in_ok-combine.was (c.combine.ensures start ready.by_next.by_layer.at (new_fits start c.args.enc.now c.args.board.now.slots.items c.args.takers c.args.a.0 f h g hits ready may)) in
    left_with start c.combine-2.new.enc c.combine-2.new.self.slots.items _ _ c.combine-2.result
    (λ w. take_one start c.args.enc.now c.combine.new.enc c.combine-2.new.enc c.args.board.now.slots.items c.combine.new.self.slots.items c.combine-2.new.self.slots.items c.args.takers c.args.a.0 f h g hits c.requires.places c.requires.action ready m w)
    (c.combine-2.ensures start m.at (taken_fits start c.args.enc.now c.combine.new.enc c.args.board.now.slots.items c.combine.new.self.slots.items c.args.takers c.args.a.0 f h g hits c.requires.places c.requires.action ready may m))

pub combine-requires-2-clause-place : goal.combine-requires-2-clause-place
combine-requires-2-clause-place c =
    let r = c.requires.ready in
    let now : length c.combine.new.self.slots.items ≡ r.0.places = (went r.0 c.combine.new.enc c.combine.new.self.slots.items _ c.combine.result _ c.in_ok-combine.was (c.combine.ensures r.0 r.5.by_next.by_layer.at (new_fits r.0 c.args.enc.now c.args.board.now.slots.items c.args.takers c.args.a.0 r.1 r.2 r.3 r.4 r.5 r.6))).at.long in
    let was : length c.args.board.now.slots.items ≡ r.0.places = r.5.by_next.by_layer.at.long in
    omega (arith, c.requires.places)

pub combine-requires-2-clause-a : goal.combine-requires-2-clause-a
combine-requires-2-clause-a c =
    let r = c.requires.ready in
    let now : length c.combine.new.self.slots.items ≡ r.0.places = (went r.0 c.combine.new.enc c.combine.new.self.slots.items _ c.combine.result _ c.in_ok-combine.was (c.combine.ensures r.0 r.5.by_next.by_layer.at (new_fits r.0 c.args.enc.now c.args.board.now.slots.items c.args.takers c.args.a.0 r.1 r.2 r.3 r.4 r.5 r.6))).at.long in
    let was : length c.args.board.now.slots.items ≡ r.0.places = r.5.by_next.by_layer.at.long in
    omega (arith, c.requires.places)

pub combine-requires-2-clause-b : goal.combine-requires-2-clause-b
combine-requires-2-clause-b c =
    let r = c.requires.ready in
    let now : length c.combine.new.self.slots.items ≡ r.0.places = (went r.0 c.combine.new.enc c.combine.new.self.slots.items _ c.combine.result _ c.in_ok-combine.was (c.combine.ensures r.0 r.5.by_next.by_layer.at (new_fits r.0 c.args.enc.now c.args.board.now.slots.items c.args.takers c.args.a.0 r.1 r.2 r.3 r.4 r.5 r.6))).at.long in
    let was : length c.args.board.now.slots.items ≡ r.0.places = r.5.by_next.by_layer.at.long in
    omega (arith, c.requires.places)
