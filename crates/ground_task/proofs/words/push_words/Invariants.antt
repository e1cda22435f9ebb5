use Rattle.std.proofs.Common.{◌≡◌, ◌++◌, take, map}
use Rattle.std.specs.Rc.{rc_str_bytes}
use Rattle.pddl_ast.specs.declared.trees.Named.{Named}
use Rattle.ground_task.proofs.words.push_words.Given as goal

abbrev pub invariant-loop-one : goal.invariant-loop-one
invariant-loop-one l =
    map rc_str_bytes l.words.items
    ≡ map rc_str_bytes l.fn.words.items ++ map (λ (n : Named). n.name) (take l.one-index l.named)
