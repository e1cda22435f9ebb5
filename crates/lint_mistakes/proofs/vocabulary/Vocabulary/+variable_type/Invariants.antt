use Rattle.std.proofs.Common.{length}
use Rattle.lint_mistakes.proofs.vocabulary.Vocabulary.+variable_type.Given as goal

abbrev pub decreases-variable_type : goal.decreases-variable_type
decreases-variable_type l = length l.scope.now
