-- The laws are lemmas.
use Rattle.dd_sets.proofs.FrameLemmas.{kept_chain, kept_release, kept_same}
use Rattle.dd_sets.proofs.laws.live_slots_are_kept.Goals as goal

pub returns-clause-itself : goal.returns-clause-itself
returns-clause-itself c = kept_same

pub returns-clause-in_turn : goal.returns-clause-in_turn
returns-clause-in_turn c = kept_chain

pub returns-clause-past_end : goal.returns-clause-past_end
returns-clause-past_end c = kept_release
