use Rattle.domain_read.proofs.PlainAnswered.{plain_or_faulty, one_text, one_fault, never_both}
use Rattle.domain_read.proofs.plain_laws.plain_or_fault.Goals as goal

pub returns : goal.returns
returns c = record { plain_or_faulty = plain_or_faulty; one_text = one_text; one_fault = one_fault; never_both = never_both }
