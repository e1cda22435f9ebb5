use Rattle.sexpr_text.proofs.FirstFlaw.{first_of-first, first_of-none}
use Rattle.sexpr_text.proofs.flaw_laws.first_is_least.Goals as goal

pub returns : goal.returns
returns c = record { least = first_of-first; none = first_of-none }
