-- By the slot of what the outcome leads to states, or without.
use Rattle.std.proofs.Common.{arith, sym, subst}
use Rattle.dd_nodes.specs.Subfunctions.{Function}
use Rattle.dd_sets.specs.Frames.{OwnsAnswer}
use Rattle.dd_sets.proofs.OwnedLemmas.{both}
use Rattle.dd_sets.proofs.RoomSteps.{room_join}
use Rattle.encode_task.proofs.PartLemmas.{answer_ready}
use Rattle.dd_sets.specs.LiveSets.{everything}
use Rattle.dd_sets.specs.Rooms.{Rough}
use Rattle.preimage.specs.Sides.{PartFits, on_side}
use Rattle.preimage.proofs.SizeLemmas.{rough_slot, small_rough_slots}
use Rattle.preimage.proofs.SideLemmas.{lands_none, lands_some}
use Rattle.preimage.proofs.slots.part_of.Goals as goal

pub part_landing-requires-clause-lands : goal.part_landing-requires-clause-lands
part_landing-requires-clause-lands c = (lands_some _ c.args.lands c.in-Some.lands c.requires.lands.0 c.in-Some.is c.requires.lands.1).live

pub returns-in-Some-clause-answer : goal.returns-in-Some-clause-answer
returns-in-Some-clause-answer c before now landing f g held owns answer =
    subst (λ (l : Function). OwnsAnswer before c.part_landing.new.enc.sets (on_side c.args.side l f g) c.part_landing.result)
    (lands_some _ c.args.lands c.in-Some.lands landing c.in-Some.is held).holds (c.part_landing.ensures.answer before now f g owns answer)

pub part_led-requires : goal.part_led-requires
part_led-requires c = let owned = c.requires.owned in answer_ready owned.0 owned.1 _ c.args.a owned.2 owned.3 c.args.b owned.4 owned.5

pub returns-in-None-clause-answer : goal.returns-in-None-clause-answer
returns-in-None-clause-answer c before now landing f g held owns answer =
    subst (λ (l : Function). OwnsAnswer before c.part_led.new.enc.sets (on_side c.args.side l f g) c.part_led.result)
    (sym (lands_none _ c.args.lands landing c.in-None.is held)) (c.part_led.ensures.answer before f g (both _ _ _ c.args.a f g c.args.b owns answer))

pub returns-in-Some-clause-full : goal.returns-in-Some-clause-full
returns-in-Some-clause-full c full before now landing f g held owns answer width fits room =
    c.part_landing.ensures.full full before now f g owns answer width
    (subst (λ (l : Function). PartFits before.vars width c.args.side l f g) (sym (lands_some _ c.args.lands c.in-Some.lands landing c.in-Some.is held).holds) fits) room

pub returns-in-None-clause-full : goal.returns-in-None-clause-full
returns-in-None-clause-full c full before now landing f g held owns answer width fits room =
    let left : Rough before.vars width (on_side c.args.side everything f g) = subst (λ (l : Function). Rough before.vars width (on_side c.args.side l f g)) (lands_none _ c.args.lands landing c.in-None.is held) fits.left in
    room_join (on_side c.args.side everything) before now _ c.args.a f g c.args.b 0 3 0 1 1 2 owns answer room
    (rough_slot before.vars width 0 f fits.rest) (small_rough_slots before.vars width 0 0 g f fits.led fits.rest) left (omega arith) (omega arith) (omega arith) (omega arith)
    (λ rough. c.part_led.ensures.full full width rough)
