use Rattle.pddl_problem.proofs.Answered.{spelled_or_faulty, one_problem, one_fault, never_both}
use Rattle.pddl_problem.proofs.laws.one_answer.Goals as goal

pub returns : goal.returns
returns c = record { spelled_or_faulty = spelled_or_faulty; one_problem = one_problem; one_fault = one_fault; never_both = never_both }
