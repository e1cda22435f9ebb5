-- Private: the words of names, each once.
use Rattle.std.specs.Prelude.{◌≡◌, ℕ, List, [], map, slice_get}
use Rattle.std.specs.Option.{option_map_or}
use Rattle.std.specs.Rc.{rc_str_bytes}
use Rattle.std.specs.declared.alloc.Global.{Global}
use Rattle.std.specs.declared.rc.RcStr.{RcStr}
use Rattle.pddl_ast.specs.Trees.{DomainTree, ProblemTree, SchemaTree}
use Rattle.pddl_ast.specs.declared.trees.Named.{Named}
use Rattle.pddl_ast.specs.declared.trees.Predicate.{Predicate}
use Rattle.pddl_system.specs.Objects.{all_objects}
use Rattle.ground_task.specs.declared.words.NameWords.{NameWords}

-- the word of a number; the empty one past the last
abbrev pub listed : List (RcStr Global) → ℕ → List ℕ
listed words n = option_map_or rc_str_bytes (slice_get words n) []

-- the words are the names of the objects, predicates and actions of a domain and a problem
pub record AreWordsOf (d : DomainTree) (p : ProblemTree) (words : NameWords) : Type 0 where
  pub objects : map rc_str_bytes words.objects.items ≡ map (λ (n : Named). n.name) (all_objects d p)
  pub predicates : map rc_str_bytes words.predicates.items ≡ map (λ (q : Predicate). q.name) d.predicates
  pub actions : map rc_str_bytes words.actions.items ≡ map (λ (s : SchemaTree). s.name) d.actions
