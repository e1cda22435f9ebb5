use Rattle.std.proofs.Common.{◌≡◌, arith, inl, length, subst, sym}
use Rattle.slot_board.specs.Board.{Fits, set_at}
use Rattle.slot_board.proofs.BoardSlots.{left_with}
use Rattle.cert_check.proofs.JudgeLemmas.{union_moved}
use Rattle.cert_check.proofs.ProgramLemmas.{minus_itself, nothing_fits}
use Rattle.cert_check.proofs.judging.clear_union.Goals as goal

pub combine-requires-clause-working : goal.combine-requires-clause-working
combine-requires-clause-working c = let r = c.requires in (r.0, r.1)

pub combine-requires-clause-place : goal.combine-requires-clause-place
combine-requires-clause-place c = let r = c.requires in let long : length c.args.board.now.slots.items ≡ r.0.places = r.1.long in let five : r.0.places ≡ 5 = r.2.five in omega arith

pub combine-requires-clause-a : goal.combine-requires-clause-a
combine-requires-clause-a c = let r = c.requires in let long : length c.args.board.now.slots.items ≡ r.0.places = r.1.long in let five : r.0.places ≡ 5 = r.2.five in omega arith

pub combine-requires-clause-b : goal.combine-requires-clause-b
combine-requires-clause-b c = let r = c.requires in let long : length c.args.board.now.slots.items ≡ r.0.places = r.1.long in let five : r.0.places ≡ 5 = r.2.five in omega arith

pub returns : goal.returns
returns c start at board =
    let set = set_at c.args.enc.now.sets c.args.board.now.slots.items 0 in
    left_with start c.combine.new.enc c.combine.new.self.slots.items _ _ c.combine.result
    (λ moved. union_moved start c.args.enc.now c.combine.new.enc c.args.board.now.slots.items c.combine.new.self.slots.items _ _ moved (minus_itself set))
    (c.combine.ensures start at (subst (Fits start 0) (sym (minus_itself set)) (inl (nothing_fits start))))
