-- Private: what was read.
use Rattle.lint_command.specs.Mistakes.{Spelled}
use Rattle.command_base.specs.declared.pddl_texts.ReadTexts.{ReadTexts}
use Rattle.pddl_ast.specs.Values.{domain_value, problem_value}

abbrev pub spelled_by : ReadTexts → Spelled
spelled_by read = record {
  domain = domain_value read.file.domain;
  problem = problem_value read.problem;
  domain_text = read.file.text.items;
  problem_text = read.problem_text.items;
}
