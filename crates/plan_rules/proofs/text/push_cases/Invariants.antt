use Rattle.std.proofs.Common.{◌≡◌, ◌++◌, map, take, string_bytes}
use Rattle.task_core.specs.Names.{name_bytes}
use Rattle.plan_rules.specs.Rules.{case_of}
use Rattle.plan_rules.specs.Texts.{case_text, spaced}
use Rattle.plan_rules.proofs.text.push_cases.Given as goal

abbrev pub invariant-loop-i : goal.invariant-loop-i
invariant-loop-i l = string_bytes l.out ≡ string_bytes l.fn.out ++ spaced (map (case_text (map name_bytes l.fluents)) (map case_of (take l.i l.cases)))
