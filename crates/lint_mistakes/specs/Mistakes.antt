-- All that is likely a mistake in the files of a domain and a problem.
use Rattle.std.specs.Prelude.{◌≡◌, ℕ, List, ◌++◌, codes}
use Rattle.lint_mistakes.specs.Copies.{copied_outcomes}
use Rattle.lint_mistakes.specs.Equal.{equal_parameters}
use Rattle.lint_mistakes.specs.Idle.{idle_effects}
use Rattle.lint_mistakes.specs.NeverTrue.{unmade_predicates}
use Rattle.lint_mistakes.specs.NeverUsed.{unused_predicates}
use Rattle.lint_mistakes.specs.Rows.{section_named, sections_of}
use Rattle.lint_mistakes.specs.Vocabularies.{VocabularyTree}
use Rattle.lint_mistakes.specs.WrongTypes.{wrong_types_in_domain, wrong_types_in_problem}
use Rattle.lint_mistakes.specs.declared.mistakes.Mistake.{Mistake}
use Rattle.pddl_ast.specs.Trees.{DomainTree, ProblemTree}
use Rattle.sexpr_text.specs.Forest.{Forest}
use Rattle.sexpr_text.specs.Spelling.{SpellsTrees}

-- what the two files spell: the domain and the problem, and the forms of both texts
pub record FileTrees : Type 0 where
  pub domain : DomainTree
  pub problem : ProblemTree
  pub domain_forms : Forest
  pub problem_forms : Forest

-- what the words of a domain and a problem mean, where the text of the domain has these forms
abbrev pub vocabulary : DomainTree → ProblemTree → Forest → VocabularyTree
vocabulary domain problem domain_forms = record {
  types = domain.type_names;
  parents = domain.parents;
  constants = domain.constants;
  objects = problem.objects;
  predicates = section_named (codes ":predicates") (sections_of (codes "domain") domain_forms);
}

abbrev pub vocabulary_in : FileTrees → VocabularyTree
vocabulary_in files = vocabulary files.domain files.problem files.domain_forms

-- the mistakes in the file of the domain, kind by kind, those of a kind in the order of the text
abbrev pub in_domain : VocabularyTree → Forest → Forest → List Mistake
in_domain words domain_forms problem_forms =
    ((((wrong_types_in_domain words domain_forms ++ unused_predicates domain_forms problem_forms)
    ++ unmade_predicates domain_forms problem_forms) ++ copied_outcomes domain_forms)
    ++ idle_effects domain_forms) ++ equal_parameters words domain_forms

abbrev pub mistakes_in_domain : FileTrees → List Mistake
mistakes_in_domain files = in_domain (vocabulary_in files) files.domain_forms files.problem_forms

-- and in the file of the problem
abbrev pub mistakes_in_problem : FileTrees → List Mistake
mistakes_in_problem files = wrong_types_in_problem (vocabulary_in files) files.problem_forms

-- these are the mistakes in two files with these texts, which spell the domain and the problem
pub record AreMistakes (domain : DomainTree) (problem : ProblemTree)
    (domain_text problem_text : List ℕ) (in_domain in_problem : List Mistake) : Type 0 where
  pub files : FileTrees
  pub of_domain : files.domain ≡ domain
  pub of_problem : files.problem ≡ problem
  pub domain_spelled : SpellsTrees domain_text files.domain_forms
  pub problem_spelled : SpellsTrees problem_text files.problem_forms
  pub domain_is : in_domain ≡ mistakes_in_domain files
  pub problem_is : in_problem ≡ mistakes_in_problem files
