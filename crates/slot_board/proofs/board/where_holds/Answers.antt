use Rattle.slot_board.proofs.board.where_holds.Goals as goal

pub returns-clause-full : goal.returns-clause-full
returns-clause-full c full width parts = c.set_of.ensures.full full c.requires.shallow width parts
