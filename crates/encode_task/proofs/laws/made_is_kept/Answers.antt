-- The laws are lemmas.
use Rattle.encode_task.proofs.MadeLemmas.{made_kept, ready_kept}
use Rattle.encode_task.proofs.laws.made_is_kept.Goals as goal

pub returns-clause-made : goal.returns-clause-made
returns-clause-made c = made_kept

pub returns-clause-ready : goal.returns-clause-ready
returns-clause-ready c = ready_kept
