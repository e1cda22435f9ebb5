-- The answer takes the place of both slots.
use Rattle.std.proofs.Common.{inr, Result, sym, subst}
use Rattle.dd_ops.specs.Operations.{and_of}
use Rattle.dd_sets.specs.Calls.{MakesOnly}
use Rattle.dd_sets.specs.Frames.{piece_of}
use Rattle.dd_sets.specs.Rooms.{AreRough}
use Rattle.dd_sets.specs.declared.errors.SetErr.{SetErr}
use Rattle.dd_sets.specs.declared.slots.SetId.{SetId}
use Rattle.dd_sets.proofs.MadeLemmas.{makes_then}
use Rattle.dd_sets.proofs.NoRoomLemmas.{no_room_two}
use Rattle.dd_sets.proofs.sets.Sets.in_both.Goals as goal

pub returns-in-Ok-clause-full : goal.returns-in-Ok-clause-full
returns-in-Ok-clause-full c full w rough = inr (no_room_two w _ _ _ _ _ _ _ (c.meet-met.ensures.full full) c.meet-met.ensures.kept c.release.ensures.released c.release-in-Ok.ensures.released
    (subst (λ (answer : Result SetId SetErr). AreRough c.args.self.now.vars w (piece_of and_of c.args.self.now c.args.a answer)) c.in-Ok.is rough))

pub returns-in-Ok-clause-made : goal.returns-in-Ok-clause-made
returns-in-Ok-clause-made c =
    subst (λ (answer : Result SetId SetErr). MakesOnly (piece_of and_of c.args.self.now c.args.a answer) c.args.self.now c.release-in-Ok.new.self) (sym c.in-Ok.is)
    (makes_then _ _ _ _ (makes_then c.args.self.now c.meet-met.new.self c.release.new.self _ c.meet-met.ensures.made c.release.ensures.nodes) c.release-in-Ok.ensures.nodes)
