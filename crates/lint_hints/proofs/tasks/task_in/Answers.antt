use Rattle.pddl_ast.specs.Values.{domain_value, problem_value}
use Rattle.lint_hints.proofs.OfTexts.{of_texts}
use Rattle.lint_hints.proofs.tasks.task_in.Goals as goal

pub grounded-requires-clause-names : goal.grounded-requires-clause-names
grounded-requires-clause-names c =
    let words = c.requires.domain_words in
    c.read_names_are_words.ensures (domain_value c.args.domain.now) (problem_value c.args.problem.now) words.predicates words.actions words.constants c.requires.problem_words

pub returns : goal.returns
returns c =
    of_texts c.grounded.result c.args.domain_text.now c.args.problem_text.now (domain_value c.args.domain.now) (problem_value c.args.problem.now)
    c.requires.domain_spelled c.requires.problem_spelled c.grounded.ensures
