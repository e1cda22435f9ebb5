use Rattle.domain_read.proofs.Answered.{spelled_or_faulty, one_domain, one_fault, never_both}
use Rattle.domain_read.proofs.laws.domain_or_fault.Goals as goal

pub returns : goal.returns
returns c = record { spelled_or_faulty = spelled_or_faulty; one_domain = one_domain; one_fault = one_fault; never_both = never_both }
