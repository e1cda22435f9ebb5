-- The laws are lemmas.
use Rattle.dd_sets.proofs.OwnLemmas.{own_end, own_live, own_one}
use Rattle.dd_sets.proofs.OwnedLemmas.{answer_kept, own_chain}
use Rattle.dd_sets.proofs.laws.own_slots_follow_calls.Goals as goal

pub returns-clause-in_turn : goal.returns-clause-in_turn
returns-clause-in_turn c = own_chain

pub returns-clause-past_end : goal.returns-clause-past_end
returns-clause-past_end c = own_end

pub returns-clause-live : goal.returns-clause-live
returns-clause-live c = own_live

pub returns-clause-added : goal.returns-clause-added
returns-clause-added c = own_one

pub returns-clause-answer : goal.returns-clause-answer
returns-clause-answer c = answer_kept
