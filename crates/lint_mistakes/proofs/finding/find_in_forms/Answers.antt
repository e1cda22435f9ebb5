use Rattle.std.proofs.Common.{◌∙◌, ap, refl}
use Rattle.lint_mistakes.specs.Mistakes.{in_domain}
use Rattle.lint_mistakes.specs.Values.{trees_value}
use Rattle.lint_mistakes.specs.Vocabularies.{VocabularyTree}
use Rattle.lint_mistakes.specs.WrongTypes.{wrong_types_in_problem}
use Rattle.sexpr_text.specs.Forest.{forest_of}
use Rattle.lint_mistakes.proofs.finding.find_in_forms.Goals as goal

pub returns : goal.returns
returns c =
    let domain = forest_of c.args.domain_forms.now in
    let problem = forest_of c.args.problem_forms.now in
    record {
      files = trees_value c.args.files.now c.args.domain_forms.now c.args.problem_forms.now;
      of_domain = refl;
      of_problem = refl;
      domain_spelled = c.requires.domain;
      problem_spelled = c.requires.problem;
      domain_is = c.in_ok-in_domain.ensures ∙ ap (λ (words : VocabularyTree). in_domain words domain problem) c.vocabulary_of-words.ensures;
      problem_is = c.in_ok-in_problem.ensures ∙ ap (λ (words : VocabularyTree). wrong_types_in_problem words problem) c.vocabulary_of-words.ensures;
    }
