-- Private: what the code's own types stand for.
use Rattle.std.specs.Prelude.{List}
use Rattle.lint_mistakes.specs.Equal.{ActionRows, WordPair}
use Rattle.lint_mistakes.specs.Mistakes.{FileTrees}
use Rattle.lint_mistakes.specs.Vocabularies.{VocabularyTree}
use Rattle.lint_mistakes.specs.declared.alike.Pair.{Pair}
use Rattle.lint_mistakes.specs.declared.equal.ActionForms.{ActionForms}
use Rattle.lint_mistakes.specs.declared.finding.Files.{Files}
use Rattle.lint_mistakes.specs.declared.vocabulary.Vocabulary.{Vocabulary}
use Rattle.pddl_ast.specs.Values.{domain_value, problem_value}
use Rattle.sexpr_text.specs.Forest.{forest_of}
use Rattle.sexpr_text.specs.declared.forms.Form.{Form}

abbrev pub vocabulary_value : Vocabulary → VocabularyTree
vocabulary_value words = record {
  types = words.types.now;
  parents = words.parents.now;
  constants = words.constants.now;
  objects = words.objects.now;
  predicates = forest_of words.predicates.now;
}

abbrev pub trees_value : Files → List Form → List Form → FileTrees
trees_value files domain_forms problem_forms = record {
  domain = domain_value files.domain.now;
  problem = problem_value files.problem.now;
  domain_forms = forest_of domain_forms;
  problem_forms = forest_of problem_forms;
}

abbrev pub pair_value : Pair → WordPair
pair_value pair = record {
  kept = pair.kept.now;
  other = pair.other.now;
  kept_span = pair.kept_span;
  other_span = pair.other_span;
}

abbrev pub action_value : ActionForms → ActionRows
action_value action = record {
  words = vocabulary_value action.words.now;
  parameters = forest_of action.parameters.now;
  condition = forest_of action.condition.now;
}
