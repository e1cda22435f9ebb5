-- One operation that found no room.
use Rattle.dd_sets.proofs.RoomSteps.{room_for}
use Rattle.std.proofs.Common.{subst}
use Rattle.dd_sets.specs.LiveSets.{set_of}
use Rattle.dd_sets.specs.Rooms.{Rough}
use Rattle.slot_board.specs.Board.{combined}
use Rattle.slot_board.specs.declared.board.Operation.{Operation}
use Rattle.slot_board.proofs.board.operate.Goals as goal

pub returns-in-Meet-clause-full : goal.returns-in-Meet-clause-full
returns-in-Meet-clause-full c full width rough =
    room_for _ _ _ (c.meet.ensures.full full) c.meet.ensures.kept.vars c.meet.ensures.kept.limit 0 0
    (subst (λ (o : Operation). Rough c.args.sets.now.vars width (combined o (set_of c.args.sets.now c.args.a.0) (set_of c.args.sets.now c.args.b.0))) c.in-Meet.is rough)

pub returns-in-Join-clause-full : goal.returns-in-Join-clause-full
returns-in-Join-clause-full c full width rough =
    room_for _ _ _ (c.join.ensures.full full) c.join.ensures.kept.vars c.join.ensures.kept.limit 0 0
    (subst (λ (o : Operation). Rough c.args.sets.now.vars width (combined o (set_of c.args.sets.now c.args.a.0) (set_of c.args.sets.now c.args.b.0))) c.in-Join.is rough)

pub returns-in-Minus-clause-full : goal.returns-in-Minus-clause-full
returns-in-Minus-clause-full c full width rough =
    room_for _ _ _ (c.minus.ensures.full full) c.minus.ensures.kept.vars c.minus.ensures.kept.limit 0 0
    (subst (λ (o : Operation). Rough c.args.sets.now.vars width (combined o (set_of c.args.sets.now c.args.a.0) (set_of c.args.sets.now c.args.b.0))) c.in-Minus.is rough)
