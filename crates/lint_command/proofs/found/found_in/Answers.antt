use Rattle.lint_command.proofs.found.found_in.Goals as goal

pub returns : goal.returns
returns c = rw (c.as_slice-domain_text.ensures.value, c.as_slice-problem_text.ensures.value) at c.find_mistakes.ensures
