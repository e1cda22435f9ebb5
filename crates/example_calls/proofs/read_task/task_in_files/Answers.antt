use Rattle.pddl_ast.specs.Values.{domain_value, problem_value}
use Rattle.example_calls.proofs.read_task.task_in_files.Goals as goal

pub ground-requires-clause-names : goal.ground-requires-clause-names
ground-requires-clause-names c =
    let words = c.in-Ok.ensures.words in
    c.read_names_are_words.ensures (domain_value c.in-Ok.domain) (problem_value c.in-Ok-read_problem.problem) words.predicates words.actions words.constants c.in-Ok-read_problem.ensures.words
