use Rattle.std.proofs.Common.{◌≡◌, ◌∙◌, ap, arith, inl, length, subst, sym}
use Rattle.dd_ops.specs.Operations.{or_of}
use Rattle.slot_board.specs.Board.{Fits, set_at}
use Rattle.slot_board.proofs.BoardSlots.{left_with}
use Rattle.cert_check.proofs.JudgeLemmas.{union_moved}
use Rattle.cert_check.proofs.judging.join_set.Goals as goal

pub combine-requires-clause-working : goal.combine-requires-clause-working
combine-requires-clause-working c = let r = c.requires in (r.0, r.3.by_union.at)

pub combine-requires-clause-place : goal.combine-requires-clause-place
combine-requires-clause-place c = let r = c.requires in let long : length c.args.board.now.slots.items ≡ r.0.places = r.3.by_union.at.long in let five : r.0.places ≡ 5 = r.4.five in omega arith

pub combine-requires-clause-a : goal.combine-requires-clause-a
combine-requires-clause-a c = let r = c.requires in let long : length c.args.board.now.slots.items ≡ r.0.places = r.3.by_union.at.long in let five : r.0.places ≡ 5 = r.4.five in omega arith

pub combine-requires-clause-b : goal.combine-requires-clause-b
combine-requires-clause-b c = let r = c.requires in let long : length c.args.board.now.slots.items ≡ r.0.places = r.3.by_union.at.long in let five : r.0.places ≡ 5 = r.4.five in omega arith

pub returns : goal.returns
returns c start f g has board small =
    let sets = c.args.enc.now.sets in
    let slots = c.args.board.now.slots.items in
    let e : or_of (set_at sets slots 0) (set_at sets slots 1) ≡ or_of f g = ap (λ s. or_of s (set_at sets slots 1)) has.by_union.union ∙ ap (or_of f) has.set in
    left_with start c.combine.new.enc c.combine.new.self.slots.items _ _ c.combine.result
    (λ moved. union_moved start c.args.enc.now c.combine.new.enc slots c.combine.new.self.slots.items _ _ moved e)
    (c.combine.ensures start has.by_union.at (subst (Fits start 0) (sym e) (inl small)))
