use Rattle.sexpr_text.proofs.PassLaws.{answered, not_both, one_fault_by}
use Rattle.sexpr_text.proofs.flaw_laws.flawless_or_faulty.Goals as goal

pub returns : goal.returns
returns c = record { answered = answered; not_both = not_both; one_fault = one_fault_by }
