-- The answer takes the place of the slot.
use Rattle.dd_sets.proofs.MadeLemmas.{makes_then}
use Rattle.dd_sets.proofs.NoRoomLemmas.{no_room_one}
use Rattle.dd_sets.proofs.sets.Sets.rest_of.Goals as goal

pub returns-clause-full : goal.returns-clause-full
returns-clause-full c full w rough = no_room_one w _ _ _ _ _ (c.minus-rest.ensures.full full) c.minus-rest.ensures.kept c.release.ensures.released rough

pub returns-clause-made : goal.returns-clause-made
returns-clause-made c = makes_then _ _ _ _ c.minus-rest.ensures.made c.release.ensures.nodes
