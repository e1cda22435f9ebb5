use Rattle.pddl_ast.specs.Values.{domain_value, problem_value}
use Rattle.lint_command.proofs.Kept.{few_objects}
use Rattle.lint_command.proofs.in_task.add_never_told.Goals as goal

pub never_run-requires-clause-few_objects : goal.never_run-requires-clause-few_objects
never_run-requires-clause-few_objects c =
    few_objects (domain_value c.args.looked.now.read.now.file.domain) (problem_value c.args.looked.now.read.now.problem) c.requires.within
