-- The rules so far.
use Rattle.std.specs.Prelude.{◌≡◌, map, take}
use Rattle.rule_lookup.specs.RunRules.{in_one_context}
use Rattle.plan_rules.specs.Rules.{rule_of}
use Rattle.task_core.specs.Vectors.{Vector}
use Rattle.controller_code.specs.FirstMoves.{first_move, plan_move}
use Rattle.controller_code.proofs.left_rules.of_table.Given as goal

abbrev pub invariant-loop-rule : goal.invariant-loop-rule
invariant-loop-rule l =
    (v : Vector) → first_move l.left.items v ≡ plan_move (map in_one_context (map rule_of (take l.rule-index l.rules))) 1 v
