use Rattle.mbp_top.proofs.RunLaws.{is_due_answer}
use Rattle.mbp_top.proofs.laws.due_answers_come.Goals as goal

pub returns : goal.returns
returns g c = λ run has. is_due_answer g.S.Shelf.held g.S.Shelf.faults g.S.Shelf.fetched run has c.texts_are_read_one_way.ensures
