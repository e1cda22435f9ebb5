use Rattle.lint_command.proofs.in_task.found_hints.Goals as goal

pub returns : goal.returns
returns c = rw (c.as_slice-domain_text.ensures.value, c.as_slice-problem_text.ensures.value) at c.lint_hints.ensures
