-- What the answer leaves.
use Rattle.std.proofs.Common.{◌+◌, sym, subst, ap, arith}
use Rattle.std.proofs.lemmas.Bool.{leb-true}
use Rattle.task_core.specs.Conditions.{depth}
use Rattle.dd_sets.proofs.RoomSteps.{room_same}
use Rattle.encode_task.specs.Made.{MadeOf}
use Rattle.encode_task.proofs.PartLemmas.{small_at}
use Rattle.encode_task.proofs.MadeLemmas.{made_kept}
use Rattle.dd_sets.proofs.OwnedLemmas.{answer_kept}
use Rattle.encode_task.proofs.enc.Enc.set_of.Goals as goal

pub returns-clause-full : goal.returns-clause-full
returns-clause-full c full shallow w small =
    let same = ap (λ enc. enc.sets) c.self.view_is in
    room_same _ _ same (depth c.args.cond.now + 4) 204 0 0 (omega (arith, leb-true (depth c.args.cond.now) 200 shallow)) (omega arith)
    (c.set_where-answer.ensures.full full w (small_at w _ _ (ap (λ sets. sets.vars) same) small))

pub returns-clause-made : goal.returns-clause-made
returns-clause-made c task made = made_kept task _ c.set_where-answer.new.sets (answer_kept _ _ _ c.set_where-answer.result c.set_where-answer.ensures.answer) (subst (MadeOf task) (sym c.self.view_is) made)
