use Rattle.std.proofs.Common.{ℕ, subst}
use Rattle.dd_sets.specs.LiveSets.{IsLive, set_of}
use Rattle.slot_board.specs.Board.{Fits, Left, Moved}
use Rattle.slot_board.proofs.board.Board.copy_of.Goals as goal
use Rattle.std.proofs.Common.{sym}

pub copy-requires-clause-live : goal.copy-requires-clause-live
copy-requires-clause-live c = subst (IsLive c.args.enc.now.sets) (sym c.at-set.ensures) (c.requires.working.1.working.live c.args.from c.requires.from)

pub returns : goal.returns
returns c start here fits =
    subst (λ (s : ℕ). Left start c.copy.new.enc c.copy.new.self.slots.items (Moved start c.args.enc.now.sets c.args.self.now.slots.items c.copy.new.enc c.copy.new.self.slots.items c.args.place (set_of c.args.enc.now.sets s)) c.copy.result) c.at-set.ensures (c.copy.ensures start here (subst (λ (s : ℕ). Fits start c.args.place (set_of c.args.enc.now.sets s)) (sym c.at-set.ensures) fits))
