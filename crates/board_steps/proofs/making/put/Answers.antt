use Rattle.std.proofs.Common.{subst}
use Rattle.dd_sets.specs.Frames.{OwnsAnswer}
use Rattle.dd_sets.specs.Calls.{Releases}
use Rattle.slot_board.proofs.BoardSlots.{set_here, set_other, working_put}
use Rattle.board_steps.proofs.making.put.Goals as goal

pub returns-clause-frame : goal.returns-clause-frame
returns-clause-frame c before mid set work answer =
    working_put before mid c.args.enc.now.sets c.end.new.enc.sets c.args.board.now.slots.items c.args.place c.in_ok-new.new set c.requires.place work
    (subst (OwnsAnswer mid c.args.enc.now.sets set) c.in_ok-new.was answer) (subst (Releases c.args.enc.now.sets c.end.new.enc.sets) c.at-old.ensures c.end.ensures.released)

pub returns-clause-others : goal.returns-clause-others
returns-clause-others c before mid set work answer other l differs =
    set_other before mid c.args.enc.now.sets c.end.new.enc.sets c.args.board.now.slots.items c.args.place c.in_ok-new.new set c.requires.place work
    (subst (OwnsAnswer mid c.args.enc.now.sets set) c.in_ok-new.was answer) (subst (Releases c.args.enc.now.sets c.end.new.enc.sets) c.at-old.ensures c.end.ensures.released) other l differs

pub returns-clause-here : goal.returns-clause-here
returns-clause-here c before mid set work answer =
    set_here before mid c.args.enc.now.sets c.end.new.enc.sets c.args.board.now.slots.items c.args.place c.in_ok-new.new set c.requires.place work
    (subst (OwnsAnswer mid c.args.enc.now.sets set) c.in_ok-new.was answer) (subst (Releases c.args.enc.now.sets c.end.new.enc.sets) c.at-old.ensures c.end.ensures.released)
