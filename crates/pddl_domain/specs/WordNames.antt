-- The names of a domain that is read are words.
use Rattle.std.specs.Prelude.{All}
use Rattle.pddl_ast.specs.declared.trees.Named.{Named}
use Rattle.pddl_ast.specs.declared.trees.Predicate.{Predicate}
use Rattle.pddl_ast.specs.Trees.{DomainTree, SchemaTree}
use Rattle.pddl_ast.specs.WordTexts.{IsWordText}

-- the names of the predicates, the actions and the constants are words
pub record HasWordNames (d : DomainTree) : Type 0 where
  pub predicates : All (λ (q : Predicate). IsWordText q.name) d.predicates
  pub actions : All (λ (s : SchemaTree). IsWordText s.name) d.actions
  pub constants : All (λ (n : Named). IsWordText n.name) d.constants
