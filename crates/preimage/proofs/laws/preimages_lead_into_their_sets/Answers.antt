-- The laws are lemmas.
use Rattle.preimage.proofs.OutcomeLemmas.{strong_leads, weak_leads}
use Rattle.preimage.proofs.laws.preimages_lead_into_their_sets.Goals as goal

pub returns-clause-weak : goal.returns-clause-weak
returns-clause-weak c = weak_leads

pub returns-clause-strong : goal.returns-clause-strong
returns-clause-strong c = strong_leads
