-- Private: what the code's own types stand for.
use Rattle.std.specs.Prelude.{map, string_bytes}
use Rattle.lint_hints.specs.Hints.{PlainHints, PlainTexts}
use Rattle.lint_hints.specs.declared.hints.GroupHints.{GroupHints}
use Rattle.lint_hints.specs.declared.hints.Texts.{Texts}
use Rattle.pddl_ast.specs.Values.{domain_value, problem_value}

abbrev pub texts_value : Texts → PlainTexts
texts_value texts = record {
  domain = domain_value texts.domain.now;
  problem = problem_value texts.problem.now;
  domain_text = texts.domain_text.now;
  problem_text = texts.problem_text.now;
}

abbrev pub hints_value : GroupHints → PlainHints
hints_value hints = record {
  place = hints.place;
  sentences = map string_bytes hints.sentences.items;
  invariant = hints.invariant.items;
}
