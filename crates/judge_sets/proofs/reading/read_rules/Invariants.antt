use Rattle.std.proofs.Common.{◌≡◌, ◌↔◌, IsTrue, [], map, take}
use Rattle.task_core.specs.Tasks.{system_of}
use Rattle.plan_rules.specs.Rules.{rule_of}
use Rattle.first_match.specs.FirstMatch.{EachRuleCounts}
use Rattle.judge_sets.specs.Places.{HasRead, Scene}
use Rattle.judge_sets.proofs.reading.read_rules.Given as goal

-- the rules so far are read, and it is known whether each counts
abbrev pub invariant-loop-rule : goal.invariant-loop-rule
invariant-loop-rule l = (scene : Scene) → HasRead scene l.fn.enc l.fn.board.slots.items [] → scene.rules ≡ map rule_of l.fn.rules
    → HasRead scene l.enc l.board.slots.items (take l.rule-index scene.rules) × (IsTrue l.each ↔ EachRuleCounts (system_of scene.start.task) (take l.rule-index scene.rules))
