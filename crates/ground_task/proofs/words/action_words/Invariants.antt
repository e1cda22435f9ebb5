use Rattle.std.proofs.Common.{◌≡◌, take, map}
use Rattle.std.specs.Rc.{rc_str_bytes}
use Rattle.pddl_ast.specs.Trees.{SchemaTree}
use Rattle.pddl_ast.specs.Values.{schema_value}
use Rattle.ground_task.proofs.words.action_words.Given as goal

abbrev pub invariant-loop-action : goal.invariant-loop-action
invariant-loop-action l = map rc_str_bytes l.words.items ≡ map (λ (s : SchemaTree). s.name) (map schema_value (take l.action-index l.actions))
