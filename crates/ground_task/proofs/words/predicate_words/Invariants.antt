use Rattle.std.proofs.Common.{◌≡◌, take, map}
use Rattle.std.specs.Rc.{rc_str_bytes}
use Rattle.pddl_ast.specs.declared.trees.Predicate.{Predicate}
use Rattle.ground_task.proofs.words.predicate_words.Given as goal

abbrev pub invariant-loop-predicate : goal.invariant-loop-predicate
invariant-loop-predicate l = map rc_str_bytes l.words.items ≡ map (λ (q : Predicate). q.name) (take l.predicate-index l.predicates)
