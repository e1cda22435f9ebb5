use Rattle.std.proofs.Common.{◌≡◌, arith, inl, length, subst, sym, ap}
use Rattle.slot_board.specs.Board.{AllNothing, Working}
use Rattle.dd_sets.specs.Rooms.{Small}
use Rattle.task_core.specs.Tasks.{fluent_count}
use Rattle.slot_board.proofs.BoardSizes.{nothing_small}
use Rattle.slot_board.proofs.BoardSlots.{nothing_none, working_none}
use Rattle.slot_board.proofs.board.Board.new.Goals as goal

pub fill-requires : goal.fill-requires
fill-requires c = (c.args.enc.now.sets, subst (Working c.args.enc.now.sets c.args.enc.now.sets) (sym c.new.ensures.items) (working_none c.args.enc.now.sets))

pub close-requires : goal.close-requires
close-requires c = (c.args.enc.now.sets, c.fill.ensures.frame c.args.enc.now.sets (subst (Working c.args.enc.now.sets c.args.enc.now.sets) (sym c.new.ensures.items) (working_none c.args.enc.now.sets)))

pub returns-in-Ok-clause-opened : goal.returns-in-Ok-clause-opened
returns-in-Ok-clause-opened c task made spare width wide rough =
    let sets = c.args.enc.now.sets in
    let empty = subst (Working sets sets) (sym c.new.ensures.items) (working_none sets) in
    let none : length c.new.result.items ≡ 0 = ap length c.new.ensures.items in
    let nothing_there : AllNothing c.fill.new.enc.sets c.fill.new.self.slots.items = c.in-Ok.ensures.filled sets empty (subst (AllNothing sets) (sym c.new.ensures.items) (nothing_none sets)) in
    record {
      at = record {
        same = c.fill.ensures.same_slots;
        working = c.fill.ensures.frame sets empty;
        long = omega (arith, c.in-Ok.ensures.long);
        each = λ place within. inl (subst (Small (fluent_count task) width) (sym (nothing_there place within)) (nothing_small (fluent_count task) width wide));
      };
      holds_nothing = nothing_there;
    }

pub returns-in-Err-clause-refused : goal.returns-in-Err-clause-refused
returns-in-Err-clause-refused c =
    let sets = c.args.enc.now.sets in
    c.close.ensures.frame sets (c.fill.ensures.frame sets (subst (Working sets sets) (sym c.new.ensures.items) (working_none sets)))
