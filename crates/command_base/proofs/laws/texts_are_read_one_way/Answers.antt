use Rattle.command_base.proofs.laws.texts_are_read_one_way.Goals as goal

pub returns : goal.returns
returns c = record {
  one_domain = c.domain_or_fault.ensures.one_domain;
  one_domain_fault = c.domain_or_fault.ensures.one_fault;
  not_both_domain = c.domain_or_fault.ensures.never_both;
  one_problem = c.one_answer.ensures.one_problem;
  one_problem_fault = c.one_answer.ensures.one_fault;
  not_both_problem = c.one_answer.ensures.never_both;
  one_forest = c.one_spelling.ensures.trees;
  one_plan_fault = c.plan_or_fault.ensures.one_fault;
  not_both_plan = c.plan_or_fault.ensures.not_both;
}
