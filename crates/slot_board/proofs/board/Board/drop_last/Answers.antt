use Rattle.std.proofs.Common.{◌∙◌, List, subst, sym, ap}
use Rattle.dd_sets.specs.declared.slots.SetId.{SetId}
use Rattle.dd_sets.proofs.RoomSteps.{room_released}
use Rattle.slot_board.specs.Board.{Working, set_at}
use Rattle.slot_board.proofs.BoardSlots.{sets_popped, working_popped}
use Rattle.slot_board.proofs.board.Board.drop_last.Goals as goal

pub returns-in-Some-clause-frame : goal.returns-in-Some-clause-frame
returns-in-Some-clause-frame c before work =
    working_popped before c.args.enc.now.sets c.end.new.enc.sets c.pop.new.self.items c.in-Some.slot (subst (Working before c.args.enc.now.sets) c.in-Some.ensures.items work) c.end.ensures.released

pub returns-in-Some-clause-sets : goal.returns-in-Some-clause-sets
returns-in-Some-clause-sets c place l =
    sets_popped c.requires.working.0 c.args.enc.now.sets c.end.new.enc.sets c.pop.new.self.items c.in-Some.slot (subst (Working c.requires.working.0 c.args.enc.now.sets) c.in-Some.ensures.items c.requires.working.1) c.end.ensures.released place l
    ∙ ap (λ (slots : List SetId). set_at c.args.enc.now.sets slots place) (sym c.in-Some.ensures.items)

pub returns-in-Some-clause-room : goal.returns-in-Some-clause-room
returns-in-Some-clause-room c before width most others none = room_released before none c.end.ensures.released
