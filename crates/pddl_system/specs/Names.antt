-- What names are made of.
use Rattle.std.specs.List.{All}
use Rattle.task_core.specs.Names.{IsWord}
use Rattle.pddl_ast.specs.declared.trees.Named.{Named}
use Rattle.pddl_ast.specs.declared.trees.Predicate.{Predicate}
use Rattle.pddl_ast.specs.Trees.{SchemaTree, DomainTree, ProblemTree}
use Rattle.pddl_system.specs.Objects.{all_objects}

-- the names of predicates, actions, constants and objects are words: of one byte at least, each of
-- 33 to 126, and none of them `(`, `)`, `;` or a letter `A` to `Z`. So they are where they are read
-- out of a text
pub record NamesAreWords (d : DomainTree) (p : ProblemTree) : Type 0 where
  pub predicates : All (λ (q : Predicate). IsWord q.name) d.predicates
  pub actions : All (λ (s : SchemaTree). IsWord s.name) d.actions
  pub objects : All (λ (n : Named). IsWord n.name) (all_objects d p)
