use Rattle.lint_command.proofs.found.notices_in.Goals as goal

pub returns : goal.returns
returns c = record {
  in_domain = c.in_ok-found.found.in_domain.items;
  in_problem = c.in_ok-found.found.in_problem.items;
  found = c.in_ok-found.ensures;
  told = c.in_ok-notices.ensures;
}
