-- The first cubes have their rules.
use Rattle.std.proofs.Common.{◌≡◌, ◌++◌, map}
use Rattle.plan_rules.specs.Rules.{rule_of}
use Rattle.slot_board.specs.Rules.{rule_for}
use Rattle.slot_board.proofs.rules.add_rules.Given as goal

abbrev pub invariant-loop-cube : goal.invariant-loop-cube
invariant-loop-cube l = map rule_of l.rules.items ≡ map rule_of l.fn.rules.items ++ map (rule_for l.fn.action.0) (map (λ cube. cube.items) l.yielded)
