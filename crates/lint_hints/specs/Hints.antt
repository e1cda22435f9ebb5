-- What is told of groups of fluents of which exactly one is true: a sentence about each shape, and the
-- invariant that says so, judged in the text of the domain.
use Rattle.std.specs.Prelude.{◌≡◌, ℕ, List, ◌++◌, Option, Some, codes, drop, map, take}
use Rattle.std.specs.Option.{option_map}
use Rattle.domain_read.specs.Domains.{SpellsDomain}
use Rattle.lint_shapes.specs.Found.{AreFound}
use Rattle.lint_hints.specs.Sentences.{shape_text}
use Rattle.lint_shapes.specs.Texts.{Names, invariant_text}
use Rattle.lint_shapes.specs.declared.shapes.OneOf.{OneOf}
use Rattle.lint_mistakes.specs.Rows.{sections_of}
use Rattle.mutex_groups.specs.Follows.{ExcludesNothing}
use Rattle.pddl_ast.specs.Trees.{DomainTree, ProblemTree}
use Rattle.pddl_ast.specs.declared.trees.Named.{Named}
use Rattle.pddl_ast.specs.declared.trees.Predicate.{Predicate}
use Rattle.pddl_problem.specs.Problems.{SpellsProblem}
use Rattle.pddl_system.specs.Tasks.{task_of}
use Rattle.pddl_system.specs.Values.{task_value}
use Rattle.plan_rules.specs.Texts.{line_feed}
use Rattle.sexpr_text.specs.Forest.{Forest}
use Rattle.sexpr_text.specs.Parts.{begins_with, first_group_with}
use Rattle.sexpr_text.specs.Spelling.{SpellsTrees}
use Rattle.sexpr_text.specs.declared.forms.Place.{Place}
use Rattle.sexpr_text.specs.declared.forms.Span.{Span}
use Rattle.task_core.specs.declared.tasks.Task.{Task}

-- a domain and a problem of it, and the texts that spell them
pub record PlainTexts : Type 0 where
  pub domain : DomainTree
  pub problem : ProblemTree
  pub domain_text : List ℕ
  pub problem_text : List ℕ

-- the names of the predicates, types and constants of a domain
abbrev pub names_in : DomainTree → Names
names_in domain = record {
  predicates = map (λ (p : Predicate). p.name) domain.predicates;
  types = domain.type_names;
  constants = map (λ (n : Named). n.name) domain.constants;
}

-- a text with a line put in before this byte
abbrev pub with_line : List ℕ → ℕ → List ℕ → List ℕ
with_line text start line = take start text ++ line ++ line_feed ++ drop start text

-- the span of the first action of the domain in some forms
abbrev pub first_action : Forest → Option Span
first_action forms =
    option_map (λ found. found.0)
    (first_group_with (begins_with (codes ":action")) (sections_of (codes "domain") forms))

-- the first text spells a domain, the second a problem of it, and the task is theirs
pub record IsTaskOfTexts (domain_text problem_text : List ℕ) (task : Task) : Type 0 where
  pub domain : DomainTree
  pub problem : ProblemTree
  pub domain_spelled : SpellsDomain domain_text domain
  pub problem_spelled : SpellsProblem problem_text domain problem
  pub grounded : task_value task ≡ task_of domain problem

-- and the invariant of the task leaves nothing out
pub record LeavesNothingOut (domain_text problem_text : List ℕ) : Type 0 where
  pub task : Task
  pub of_texts : IsTaskOfTexts domain_text problem_text task
  pub excludes_nothing : ExcludesNothing task

-- what is told: before which place in the text of the domain the invariant can be put, a sentence about
-- each shape, and the invariant
pub record PlainHints : Type 0 where
  pub place : Place
  pub sentences : List (List ℕ)
  pub invariant : List ℕ

-- the sentences and the invariant are those of these shapes, and with the invariant before the form with
-- this span, which begins at the place, the text of the domain leaves nothing out
pub record AreJudged (texts : PlainTexts) (task : Task) (found : List OneOf) (span : Span)
    (hints : PlainHints) : Type 0 where
  pub place : hints.place ≡ span.place
  pub sentences : hints.sentences ≡ map (shape_text task) found
  pub invariant : hints.invariant ≡ invariant_text (names_in texts.domain)
      (map (λ (one : OneOf). one.shape) found)
  pub judged : LeavesNothingOut (with_line texts.domain_text span.start hints.invariant)
      texts.problem_text

-- exactly one fluent of each group of some shapes is true at the start, and no outcome of an action changes
-- that; so it is told of these shapes, and the invariant can be put before the first action
pub record AreHints (texts : PlainTexts) (task : Task) (hints : PlainHints) : Type 0 where
  pub found : List OneOf
  pub groups : AreFound task found
  pub forms : Forest
  pub spelled : SpellsTrees texts.domain_text forms
  pub span : Span
  pub there : first_action forms ≡ Some span
  pub told : AreJudged texts task found span hints
