-- On one side.
use Rattle.std.proofs.Common.{subst, sym}
use Rattle.dd_nodes.specs.Subfunctions.{Function}
use Rattle.dd_sets.specs.Frames.{OwnsAnswer, piece_of}
use Rattle.preimage.specs.Sides.{on_side}
use Rattle.preimage.specs.declared.slots.Side.{Side}
use Rattle.dd_sets.specs.LiveSets.{everything}
use Rattle.dd_sets.specs.Rooms.{AreRough}
use Rattle.preimage.proofs.SideLemmas.{inside_everything, outside_everything, piece_inside, piece_outside}
use Rattle.preimage.proofs.slots.part_led.Goals as goal

pub returns-in-Inside-clause-answer : goal.returns-in-Inside-clause-answer
returns-in-Inside-clause-answer c before f g owns =
    subst (λ (s : Side). OwnsAnswer before c.in_both.new.enc.sets (on_side s everything f g) c.in_both.result) (sym c.in-Inside.is)
    (subst (λ (h : Function). OwnsAnswer before c.in_both.new.enc.sets h c.in_both.result) (inside_everything f g) (c.in_both.ensures.answer before f g owns))

pub returns-in-Outside-clause-answer : goal.returns-in-Outside-clause-answer
returns-in-Outside-clause-answer c before f g owns =
    subst (λ (s : Side). OwnsAnswer before c.without.new.enc.sets (on_side s everything f g) c.without.result) (sym c.in-Outside.is)
    (subst (λ (h : Function). OwnsAnswer before c.without.new.enc.sets h c.without.result) (outside_everything f g) (c.without.ensures.answer before f g owns))

pub returns-in-Inside-clause-full : goal.returns-in-Inside-clause-full
returns-in-Inside-clause-full c full width rough =
    let sets = c.args.enc.now.sets in
    c.in_both.ensures.full full width
    (piece_inside sets.vars width sets c.args.a c.args.b (subst (λ (s : Side). AreRough sets.vars width (piece_of (on_side s everything) sets c.args.a c.args.b)) c.in-Inside.is rough))

pub returns-in-Outside-clause-full : goal.returns-in-Outside-clause-full
returns-in-Outside-clause-full c full width rough =
    let sets = c.args.enc.now.sets in
    c.without.ensures.full full width
    (piece_outside sets.vars width sets c.args.a c.args.b (subst (λ (s : Side). AreRough sets.vars width (piece_of (on_side s everything) sets c.args.a c.args.b)) c.in-Outside.is rough))
